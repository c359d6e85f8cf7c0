-- What is kept of the first set of a family.
use Rattle.std.proofs.Common.{◌≡◌, ◌∙◌, true, List, ◌∷◌, map, filter, Some, sym, ap, subst}
use Rattle.std.specs.List.{list_all}
use Rattle.eb_value.specs.declared.value.Value.{Value}
use Rattle.eb_value.specs.Values.{is_ascending}
use Rattle.eb_value.specs.Comprehensions as set
use Rattle.eb_value.specs.steps.Families.{in_all}
use Rattle.eb_value.proofs.Ascending.{Below, first_true, rises, rises_filter}
use Rattle.eb_value.proofs.ComprehensionLaws.{set_of_rising}

met_at : (first : Value) (others : List Value) → list_all (λ v. is_ascending (set.members v)) (first ∷ others) ≡ true → Some (filter (in_all others) (set.members first)) ≡ set.meet_of (map set.members (first ∷ others))
unfolding in_all
met_at first others h =
    let up = rises (set.members first) (first_true (is_ascending (set.members first)) (list_all (λ v. is_ascending (set.members v)) others) h) in
    ap Some (sym (set_of_rising (filter (in_all others) (set.members first)) (rises_filter Below (in_all others) (set.members first) up)))

pub met : (sets : List Value) (first : Value) (others all : List Value) → sets ≡ first ∷ others → list_all (λ v. is_ascending (set.members v)) sets ≡ true → all ≡ filter (in_all others) (set.members first) → Some all ≡ set.meet_of (map set.members sets)
met sets first others all e h k =
    subst (λ xs. Some all ≡ set.meet_of (map set.members xs)) (sym e)
    (ap Some k ∙ met_at first others (subst (λ xs. list_all (λ v. is_ascending (set.members v)) xs ≡ true) e h))
