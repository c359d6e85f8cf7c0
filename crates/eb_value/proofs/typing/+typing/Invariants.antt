use Rattle.std.proofs.Common.{◌≡◌, drop}
use Rattle.std.specs.List.{list_all}
use Rattle.eb_value.specs.Typing as spec
use Rattle.eb_value.proofs.typing.+typing.Given as goal

abbrev pub invariant-all_have_type-loop-value : goal.invariant-all_have_type-loop-value
invariant-all_have_type-loop-value l = list_all (λ v. spec.has_type l.scope v l.ty) l.values ≡ list_all (λ v. spec.has_type l.scope v l.ty) (drop l.value-index l.values)
