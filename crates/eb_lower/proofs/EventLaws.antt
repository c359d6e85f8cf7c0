-- Laws of what is told of names used in events.
use Rattle.std.proofs.Common.{◌≡◌, ◌∙◌, ◌&&◌, ℕ, Bool, true, false, not, List, refl, sym, ap, subst, inl, inr, ⊎_elim}
use Rattle.eb_syntax.specs.declared.units.Event.{Event}
use Rattle.eb_syntax.specs.declared.units.EbUnit.{EbUnit}
use Rattle.eb_scoping.specs.FreeNames.{is_among}
use Rattle.eb_lower.specs.Unsupported.{is_initialisation}
use Rattle.eb_declared.specs.Parts.{parameter_names}
use Rattle.eb_lower.specs.Usages.{IsStatic, IsVariable, IsKnownInEvent}
use Rattle.eb_lower.specs.steps.Known.{Tells}
use Rattle.eb_lower.proofs.KnownLaws.{among_contains, contains_among}

pub tells_after : (us : List EbUnit) (marks : List Bool) (e : Event) (after : List (List ℕ)) (name read : List ℕ) (is_primed b : Bool) → is_primed ≡ true → read ≡ name → b ≡ is_among after read → Tells b (IsKnownInEvent us marks e after is_primed name)
tells_after us marks e after name read true b p r h = let f : b ≡ is_among after name = h ∙ ap (is_among after) r in (λ t. among_contains after name (sym f ∙ t), λ k. f ∙ contains_among after name k)
tells_after us marks e after name read false b p r h = absurd cc

module _ (us : List EbUnit) (marks : List Bool) (e : Event) (after : List (List ℕ)) (name read : List ℕ) (is_primed : Bool) (unprimed : is_primed ≡ false) (same : read ≡ name) where
  -- what is asked of the name
  abbrev Known : Type 0
  Known = IsKnownInEvent us marks e after is_primed name

  shown : (b : Bool) → Tells b (IsKnownInEvent us marks e after false read) → Tells b Known
  shown b k = subst (λ z. Tells b (IsKnownInEvent us marks e after z name)) (sym unprimed) (subst (λ z. Tells b (IsKnownInEvent us marks e after false z)) same k)

  module _ (s : Bool) (static : Tells s (IsStatic us marks read)) where
    pub known_static : s ≡ true → Tells true Known
    known_static h = shown true (λ y. inl (static.0 h), λ k. refl)

    module _ (v : Bool) (variable : Tells v ((is_initialisation e ≡ false) × IsVariable us read)) where
      pub known_variable : v ≡ true → Tells true Known
      known_variable h = shown true (λ y. inr (inr (variable.0 h)), λ k. refl)

      none : (b : Bool) (P : Type 0) → Tells b P → b ≡ false → P → ⊥
      none b P t f p = let g : true ≡ false = sym (t.1 p) ∙ f in cc

      pub known_parameter : (p : Bool) → s ≡ false → v ≡ false → p ≡ is_among (parameter_names e.parameters) read → Tells p Known
      known_parameter p sf vf h = shown p (
        λ y. inr (inl (among_contains (parameter_names e.parameters) read (sym h ∙ y))),
        λ k. ⊎_elim (λ i. absurd (none s (IsStatic us marks read) static sf i))
            (λ o. ⊎_elim (λ i. h ∙ contains_among (parameter_names e.parameters) read i) (λ i. absurd (none v ((is_initialisation e ≡ false) × IsVariable us read) variable vf i)) o) k,
      )

pub tells_value : (us : List EbUnit) (e : Event) (name : List ℕ) (i v : Bool) → i ≡ is_initialisation e → Tells v (IsVariable us name) → Tells (not i && v) ((is_initialisation e ≡ false) × IsVariable us name)
tells_value us e name true v h t = (λ y. absurd cc, λ k. let g : true ≡ false = h ∙ k.0 in cc)
tells_value us e name false v h t = (λ y. (sym h, t.0 y), λ k. t.1 k.1)
