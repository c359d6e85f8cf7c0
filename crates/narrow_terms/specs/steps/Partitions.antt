-- `partition` in the steps of the code.
use Rattle.std.specs.Prelude.{List}
use Rattle.eb_syntax.specs.declared.ast.Operator.TheVariants as op
use Rattle.eb_value.specs.declared.types.EbType.{EbType}
use Rattle.eb_term.specs.declared.term.Term.{Term}
use Rattle.narrow_terms.specs.Building.{operation, equal, both, both_on, empty_set, are_apart}
use Rattle.narrow_terms.specs.declared.partitions.Apart.{Apart}

abbrev pub with_set : Term → Term → Term
with_set union s = operation op.Union union s

abbrev pub is_apart : EbType → Term → Term → Term
is_apart ty before s = equal (operation op.Intersection before s) (empty_set ty)

abbrev pub apart_with : EbType → Apart → Term → Apart
apart_with ty before s = record { union = with_set before.union s; all = both before.all (is_apart ty before.union s) }

abbrev pub all_apart : EbType → Apart → List Term → Term
all_apart ty before ss = both_on before.all (are_apart ty before.union ss)
