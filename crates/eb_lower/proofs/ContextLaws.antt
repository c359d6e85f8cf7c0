-- Laws of the names of contexts and of carrier sets.
use Rattle.std.proofs.Common.{◌≡◌, ◌∙◌, ◌∷◌, [], ℕ, Bool, true, false, List, Contains, refl, sym, subst, ⊎_elim}
use Rattle.std.proofs.lemmas.List.Elements.{Contains-append_cases, Contains-append_left, Contains-append_right}
use Rattle.eb_syntax.specs.declared.units.Context.{Context}
use Rattle.eb_syntax.specs.declared.units.EbUnit.{EbUnit}
use Rattle.eb_syntax.specs.declared.units.EbUnit.TheVariants as eb
use Rattle.eb_scoping.specs.FreeNames.{is_among}
use Rattle.eb_scoping.specs.Models.{marked}
use Rattle.eb_lower.specs.Usages.{carriers}
use Rattle.eb_lower.specs.steps.Facts.{context_name, context_names, unit_carriers, all_carriers}
use Rattle.eb_lower.specs.steps.Known.{Tells}
use Rattle.eb_lower.proofs.ListLaws.{contains_none, contains_here, contains_cases}
use Rattle.eb_lower.proofs.KnownLaws.{among_contains, contains_among}

-- a context of the text has this name
abbrev NamesContext : List EbUnit → List ℕ → Type 0
NamesContext us q = (c : Context) × Contains us (eb.Context c) × (c.name.name ≡ q)

-- a context among these units with their marks has this carrier set
abbrev Carries : List EbUnit → List Bool → List ℕ → Type 0
Carries us bs q = (c : Context) × Contains (marked us bs) (eb.Context c) × Contains (carriers c) q

named_first : (u : EbUnit) (q : List ℕ) → Contains (context_name u) q → (c : Context) × (u ≡ eb.Context c) × (c.name.name ≡ q)
named_first (eb.Context c) q h = (c, refl, ⊎_elim (λ e. e) (λ o. absurd (contains_none q o)) (contains_cases c.name.name [] q h))
named_first (eb.Machine m) q h = absurd (contains_none q h)
named_first (eb.Scope s) q h = absurd (contains_none q h)
named_first (eb.Queries qs) q h = absurd (contains_none q h)

named_by : (us : List EbUnit) (q : List ℕ) → Contains (context_names us) q → NamesContext us q
named_by [] q h = absurd (contains_none q h)
named_by (u ∷ us) q h = ⊎_elim
    (λ o. let r = named_first u q o in (r.0, subst (λ z. Contains (u ∷ us) z) r.1 (contains_here u us), r.2))
    (λ o. let r = named_by us q o in (r.0, Contains-append_right (u ∷ []) us (eb.Context r.0) r.1, r.2))
    (Contains-append_cases (context_name u) (context_names us) q h)

by_named : (us : List EbUnit) (q : List ℕ) (c : Context) → Contains us (eb.Context c) → c.name.name ≡ q → Contains (context_names us) q
by_named [] q c h e = absurd (contains_none (eb.Context c) h)
by_named (u ∷ us) q c h e = ⊎_elim
    (λ o. Contains-append_left (context_name u) (context_names us) q (subst (λ z. Contains (context_name z) q) (sym o) (subst (λ z. Contains (c.name.name ∷ []) z) e (contains_here c.name.name []))))
    (λ o. Contains-append_right (context_name u) (context_names us) q (by_named us q c o e))
    (contains_cases u us (eb.Context c) h)

pub tells_context : (us : List EbUnit) (q : List ℕ) (r : Bool) → r ≡ is_among (context_names us) q → Tells r (NamesContext us q)
tells_context us q r e = (
  λ t. named_by us q (among_contains (context_names us) q (sym e ∙ t)),
  λ k. e ∙ contains_among (context_names us) q (by_named us q k.0 k.1 k.2),
)

carried_first : (u : EbUnit) (q : List ℕ) → Contains (unit_carriers true u) q → (c : Context) × (u ≡ eb.Context c) × Contains (carriers c) q
carried_first (eb.Context c) q h = (c, refl, h)
carried_first (eb.Machine m) q h = absurd (contains_none q h)
carried_first (eb.Scope s) q h = absurd (contains_none q h)
carried_first (eb.Queries qs) q h = absurd (contains_none q h)

unmarked_none : (u : EbUnit) (q : List ℕ) → Contains (unit_carriers false u) q → ⊥
unmarked_none (eb.Context c) q h = contains_none q h
unmarked_none (eb.Machine m) q h = contains_none q h
unmarked_none (eb.Scope s) q h = contains_none q h
unmarked_none (eb.Queries qs) q h = contains_none q h

carried_by : (us : List EbUnit) (bs : List Bool) (q : List ℕ) → Contains (all_carriers us bs) q → Carries us bs q
carried_by [] bs q h = absurd (contains_none q h)
carried_by (u ∷ us) [] q h = absurd (contains_none q h)
carried_by (u ∷ us) (true ∷ bs) q h = ⊎_elim
    (λ o. let r = carried_first u q o in (r.0, subst (λ z. Contains (u ∷ marked us bs) z) r.1 (contains_here u (marked us bs)), r.2))
    (λ o. let r = carried_by us bs q o in (r.0, Contains-append_right (u ∷ []) (marked us bs) (eb.Context r.0) r.1, r.2))
    (Contains-append_cases (unit_carriers true u) (all_carriers us bs) q h)
carried_by (u ∷ us) (false ∷ bs) q h = ⊎_elim
    (λ o. absurd (unmarked_none u q o))
    (λ o. carried_by us bs q o)
    (Contains-append_cases (unit_carriers false u) (all_carriers us bs) q h)

by_carried : (us : List EbUnit) (bs : List Bool) (q : List ℕ) (c : Context) → Contains (marked us bs) (eb.Context c) → Contains (carriers c) q → Contains (all_carriers us bs) q
by_carried [] bs q c m h = absurd (contains_none (eb.Context c) m)
by_carried (u ∷ us) [] q c m h = absurd (contains_none (eb.Context c) m)
by_carried (u ∷ us) (true ∷ bs) q c m h = ⊎_elim
    (λ o. Contains-append_left (unit_carriers true u) (all_carriers us bs) q (subst (λ z. Contains (unit_carriers true z) q) (sym o) h))
    (λ o. Contains-append_right (unit_carriers true u) (all_carriers us bs) q (by_carried us bs q c o h))
    (contains_cases u (marked us bs) (eb.Context c) m)
by_carried (u ∷ us) (false ∷ bs) q c m h = Contains-append_right (unit_carriers false u) (all_carriers us bs) q (by_carried us bs q c m h)

pub tells_carrier : (us : List EbUnit) (bs : List Bool) (q : List ℕ) (r : Bool) → r ≡ is_among (all_carriers us bs) q → Tells r (Carries us bs q)
tells_carrier us bs q r e = (
  λ t. carried_by us bs q (among_contains (all_carriers us bs) q (sym e ∙ t)),
  λ k. e ∙ contains_among (all_carriers us bs) q (by_carried us bs q k.0 k.1 k.2),
)
