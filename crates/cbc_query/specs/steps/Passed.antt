-- The first limit that is passed, by the choices and the terms.
use Rattle.std.specs.Prelude.{nat_lt, List, [], ◌∷◌, map, length, Option}
use Rattle.std.specs.List.{list_any, flat_map}
use Rattle.eb_value.specs.declared.scope.Scope.{Scope}
use Rattle.eb_term.specs.declared.problem.Choice.{Choice}
use Rattle.eb_term.specs.declared.term.Term.{Term}
use Rattle.eb_term.specs.Nodes.{subterms}
use Rattle.eb_narrow.specs.Narrow.{narrow}
use Rattle.scope_settings.specs.declared.limit.Limit.{Limit}
use Rattle.scope_settings.specs.declared.limit.Limit.TheVariants as limit
use Rattle.scope_settings.specs.Limits.{first_passed}
use Rattle.cbc_query.specs.Limits.{has_large_element, has_many, range_types}

abbrev pub limit_passed : Scope → List Choice → List Term → Option Limit
limit_passed scope cs ts = first_passed (
    (list_any (has_large_element scope) cs, limit.Element)
    ∷ (list_any (has_many scope) (flat_map range_types ts), limit.Bound)
    ∷ (nat_lt 1000000 (length (flat_map subterms (map narrow ts))), limit.Nodes) ∷ [])
