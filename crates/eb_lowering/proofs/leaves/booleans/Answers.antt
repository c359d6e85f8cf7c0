use Rattle.std.proofs.Common.{◌≡◌, ◌∷◌, [], rules, subst, sym, true, false}
use Rattle.eb_value.specs.declared.value.Value.{the_lemmas}
use Rattle.eb_value.specs.Canonical.{IsCanonical, family, none, more, truth}
use Rattle.eb_value.specs.Values as value
use Rattle.eb_lowering.proofs.leaves.booleans.Goals as goal

in_order : value.is_ascending (value.truth false ∷ value.truth true ∷ []) ≡ true
in_order = search (rules, the_lemmas)

pub literal-requires : goal.literal-requires
literal-requires c =
    let e : c.set.result ≡ value.set (value.truth false ∷ value.truth true ∷ []) = search rules in
    subst IsCanonical (sym e) (family in_order (more (truth false) (more (truth true) none)))
