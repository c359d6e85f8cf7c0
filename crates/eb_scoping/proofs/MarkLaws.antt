-- Laws of the marks of units.
use Rattle.std.proofs.Common.{◌≡◌, ◌∙◌, ◌+◌, ◌<◌, ◌≤◌, ◌||◌, ℕ, Bool, true, false, not, List, [], ◌∷◌, ◌++◌, Option, None, Some, is_some, length, take, get_or, replicate, sym, ap, refl, subst, append-nil, append_assoc, inl}
use Rattle.std.proofs.lemmas.List.{take_more, take_all, get_or-replicate, length-replicate}
use Rattle.eb_syntax.specs.declared.units.EbUnit.{EbUnit}
use Rattle.eb_syntax.specs.declared.units.EbUnit.TheVariants as eb
use Rattle.eb_scoping.specs.Models.{machine_of, IsModelUnit, AreMarkedBehind, AreMarked}
use Rattle.eb_scoping.specs.steps.Marks.{AreContextsMarked, mark_of}

-- one more unit with its mark
pub marked_more : (us before vs : List EbUnit) (bs : List Bool) (v : EbUnit) (b : Bool) → AreMarkedBehind us before vs bs → (b ≡ true → IsModelUnit us (before ++ vs) v) → (IsModelUnit us (before ++ vs) v → b ≡ true)
    → AreMarkedBehind us before (vs ++ v ∷ []) (bs ++ b ∷ [])
marked_more us before [] [] v b m s c = (λ h. subst (λ z. IsModelUnit us z v) (append-nil before) (s h), λ h. c (subst (λ z. IsModelUnit us z v) (sym (append-nil before)) h), tt)
marked_more us before [] (x ∷ bs) v b m s c = absurd m
marked_more us before (w ∷ vs) [] v b m s c = absurd m
marked_more us before (w ∷ vs) (x ∷ bs) v b m s c = (
  m.0,
  m.1,
  marked_more us (before ++ w ∷ []) vs bs v b m.2
      (λ h. subst (λ z. IsModelUnit us z v) (sym (append_assoc before (w ∷ []) vs)) (s h))
      (λ h. c (subst (λ z. IsModelUnit us z v) (append_assoc before (w ∷ []) vs) h)),
)

pub all_marked : (us : List EbUnit) → machine_of us ≡ None → AreContextsMarked us (replicate (length us) true)
all_marked us none = record { size = length-replicate (length us) true; sound = λ i x a h. inl none; complete = λ i x a h. get_or-replicate (length us) i true false a.inside }

none_or_more : (us : List EbUnit) → (is_some (machine_of us) ≡ true → machine_of us ≡ None → ⊥) × (is_some (machine_of us) ≡ false → machine_of us ≡ None)
none_or_more us = by_case (machine_of us)
  where
    by_case : {A : Type 0} (o : Option A) → (is_some o ≡ true → o ≡ None → ⊥) × (is_some o ≡ false → o ≡ None)
    by_case None = (λ h n. cc, λ h. refl)
    by_case (Some m) = (λ h n. cc, λ h. absurd cc)

module _ (us : List EbUnit) (contexts : List Bool) (are : AreContextsMarked us contexts) (before : List EbUnit) where
  mark_sound : (v : EbUnit) (i : ℕ) (b : Bool) → i < length us → v ≡ get_or us i v → b ≡ get_or contexts i false → mark_of v b (is_some (machine_of before)) ≡ true → IsModelUnit us before v
  mark_sound (eb.Context c) i b l e r t = are.sound i c.name.name (record { context = c; inside = l; is = e; named = refl }) (sym r ∙ t)
  mark_sound (eb.Machine m) i b l e r t = (none_or_more before).1 (off (is_some (machine_of before)) t)
    where
      off : (b : Bool) → not b ≡ true → b ≡ false
      off true h = absurd cc
      off false h = refl
  mark_sound (eb.Scope s) i b l e r t = absurd cc
  mark_sound (eb.Queries qs) i b l e r t = absurd cc

  mark_complete : (v : EbUnit) (i : ℕ) (b : Bool) → i < length us → v ≡ get_or us i v → b ≡ get_or contexts i false → IsModelUnit us before v → mark_of v b (is_some (machine_of before)) ≡ true
  mark_complete (eb.Context c) i b l e r h = r ∙ are.complete i c.name.name (record { context = c; inside = l; is = e; named = refl }) h
  mark_complete (eb.Machine m) i b l e r h = on (is_some (machine_of before)) ((none_or_more before).0)
    where
      on : (b : Bool) → (b ≡ true → machine_of before ≡ None → ⊥) → not b ≡ true
      on true f = absurd (f refl h)
      on false f = refl
  mark_complete (eb.Scope s) i b l e r h = absurd h
  mark_complete (eb.Queries qs) i b l e r h = absurd h

machine_more : (us : List EbUnit) (v : EbUnit) → is_some (machine_of (us ++ v ∷ [])) ≡ (is_some (machine_of us) || is_some (machine_of (v ∷ [])))
machine_more [] v = refl
machine_more (eb.Machine m ∷ us) v = refl
machine_more (eb.Context c ∷ us) v = machine_more us v
machine_more (eb.Scope s ∷ us) v = machine_more us v
machine_more (eb.Queries qs ∷ us) v = machine_more us v

-- the marks of the first i units, and whether one of these is a machine
pub record Marking (us : List EbUnit) (i : ℕ) (bs : List Bool) (is_behind_machine : Bool) : Type 0 where
  pub marks : AreMarkedBehind us [] (take i us) bs
  pub machine : is_behind_machine ≡ is_some (machine_of (take i us))

pub marking_more : (us : List EbUnit) (contexts : List Bool) (i : ℕ) (v : EbUnit) (b : Bool) (bs : List Bool) (is_behind has : Bool) → AreContextsMarked us contexts → i < length us → v ≡ get_or us i v → b ≡ get_or contexts i false
    → has ≡ (is_behind || is_some (machine_of (v ∷ []))) → Marking us i bs is_behind → Marking us (i + 1) (bs ++ mark_of v b is_behind ∷ []) has
marking_more us contexts i v b bs is_behind has are l e r h m = record {
  marks = subst (λ z. AreMarkedBehind us [] z (bs ++ mark_of v b is_behind ∷ [])) (sym step)
      (marked_more us [] (take i us) bs v (mark_of v b is_behind) m.marks
      (λ t. mark_sound us contexts are (take i us) v i b l e r (subst (λ z. mark_of v b z ≡ true) m.machine t))
      (λ t. subst (λ z. mark_of v b z ≡ true) (sym m.machine) (mark_complete us contexts are (take i us) v i b l e r t)));
  machine = h ∙ (ap (λ z. z || is_some (machine_of (v ∷ []))) m.machine ∙ (sym (machine_more (take i us) v) ∙ ap (λ z. is_some (machine_of z)) (sym step)));
}
  where
    step : take (i + 1) us ≡ take i us ++ v ∷ []
    step = take_more us i v l ∙ ap (λ z. take i us ++ z ∷ []) (sym e)

pub marking_all : (us : List EbUnit) (i : ℕ) (bs : List Bool) (has : Bool) → length us ≤ i → Marking us i bs has → AreMarked us us bs
marking_all us i bs has l m = subst (λ z. AreMarkedBehind us [] z bs) (take_all i us l) m.marks

same_bool : (b c : Bool) → (b ≡ true → c ≡ true) → (c ≡ true → b ≡ true) → b ≡ c
same_bool true c f g = sym (f refl)
same_bool false true f g = g refl
same_bool false false f g = refl

pub marks_same : (us before vs : List EbUnit) (bs cs : List Bool) → AreMarkedBehind us before vs bs → AreMarkedBehind us before vs cs → bs ≡ cs
marks_same us before [] [] [] m n = refl
marks_same us before [] [] (c ∷ cs) m n = absurd n
marks_same us before [] (b ∷ bs) cs m n = absurd m
marks_same us before (v ∷ vs) [] cs m n = absurd m
marks_same us before (v ∷ vs) (b ∷ bs) [] m n = absurd n
marks_same us before (v ∷ vs) (b ∷ bs) (c ∷ cs) m n =
    ap (λ z. z ∷ bs) (same_bool b c (λ h. n.1 (m.0 h)) (λ h. m.1 (n.0 h))) ∙ ap (λ z. c ∷ z) (marks_same us (before ++ v ∷ []) vs bs cs m.2 n.2)
