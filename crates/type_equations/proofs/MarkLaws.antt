-- Marks, and how many there are of a kind.
use Rattle.std.proofs.Common.{◌≡◌, ℕ, zero, suc, ◌+◌, ◌<◌, ◌≤◌, Bool, true, false, cond, List, [], ◌∷◌, ◌++◌, length, set, refl, sym, subst, arith, ◌⊎◌, inl, inr}
use Rattle.std.specs.Prelude.{Option, Some, None}
use Rattle.std.proofs.lemmas.List.{get_or-set_same, get_or-set_other}
use Rattle.type_equations.specs.declared.marks.Mark.{Mark}
use Rattle.type_equations.specs.declared.marks.Mark.TheVariants.{Fresh, Begun, Fixed, Loose}
use Rattle.type_equations.specs.declared.store.Entry.{Entry}
use Rattle.type_equations.specs.declared.store.Entry.TheVariants as entry
use Rattle.type_equations.specs.steps.Settling.{mark_at, is_settled, fresh_of, settled_of, total_of, settled_count, pending, or_else, unsettled, both, mark_of, IsOn, Falls}

pub mark_put_same : (ms : List Mark) (k : ℕ) (m : Mark) → k < length ms → mark_at (set ms k m) k ≡ m
mark_put_same ms k m h = get_or-set_same ms k m Fresh h

pub mark_put_other : (ms : List Mark) (k j : ℕ) (m : Mark) → (j ≡ k → ⊥) → mark_at (set ms k m) j ≡ mark_at ms j
mark_put_other ms k j m ne = get_or-set_other ms k j m Fresh ne

-- one mark in another's place
pub total_put : (f : Mark → ℕ) (ms : List Mark) (k : ℕ) (m : Mark) → k < length ms → total_of f (set ms k m) + f (mark_at ms k) ≡ total_of f ms + f m
total_put f [] k m h = absurd (omega arith)
total_put f (x ∷ ms) zero m h = omega arith
total_put f (x ∷ ms) (suc k) m h = let more = total_put f ms k m (omega arith) in omega (arith, more)

settled_few : (m : Mark) → settled_of m ≤ 1
settled_few Fresh = omega arith
settled_few Begun = omega arith
settled_few Fixed = omega arith
settled_few Loose = omega arith

pub settled_within : (ms : List Mark) → settled_count ms ≤ length ms
settled_within [] = omega arith
settled_within (m ∷ ms) = let more = settled_within ms in omega (arith, settled_few m, more)

pub settled_one : (m : Mark) → is_settled m ≡ true → settled_of m ≡ 1
settled_one Fresh e = absurd (cc)
settled_one Begun e = absurd (cc)
settled_one Fixed e = refl
settled_one Loose e = refl

pub settled_none : (m : Mark) → is_settled m ≡ false → settled_of m ≡ 0
settled_none Fresh e = refl
settled_none Begun e = refl
settled_none Fixed e = absurd (cc)
settled_none Loose e = absurd (cc)

pub fresh_none : (m : Mark) → is_settled m ≡ true → fresh_of m ≡ 0
fresh_none Fresh e = absurd (cc)
fresh_none Begun e = absurd (cc)
fresh_none Fixed e = refl
fresh_none Loose e = refl

-- what is neither settled nor begun is fresh
pub is_fresh : (m : Mark) → is_settled m ≡ false → (m ≡ Begun → ⊥) → m ≡ Fresh
is_fresh Fresh e b = refl
is_fresh Begun e b = absurd (b refl)
is_fresh Fixed e b = absurd (cc)
is_fresh Loose e b = absurd (cc)

pub is_known : (m : Mark) → (m ≡ Fresh → ⊥) → (m ≡ Begun → ⊥) → is_settled m ≡ true
is_known Fresh f b = absurd (f refl)
is_known Begun f b = absurd (b refl)
is_known Fixed f b = refl
is_known Loose f b = refl

pub is_loose : (m : Mark) → is_settled m ≡ true → (m ≡ Fixed → ⊥) → m ≡ Loose
is_loose Fresh e f = absurd (cc)
is_loose Begun e f = absurd (cc)
is_loose Fixed e f = absurd (f refl)
is_loose Loose e f = refl

-- a fact of each part of an entry
abbrev pub OfParts : (ℕ → Type 0) → Entry → Type 0
OfParts P entry.Free = Unit {0}
OfParts P (entry.Link other) = P other
OfParts P entry.Integer = Unit {0}
OfParts P entry.Boolean = Unit {0}
OfParts P (entry.Carrier place) = Unit {0}
OfParts P (entry.Product first second) = P first × P second
OfParts P (entry.Power members) = P members

pub parts_map : (P Q : ℕ → Type 0) → ((j : ℕ) → P j → Q j) → (e : Entry) → OfParts P e → OfParts Q e
parts_map P Q f entry.Free h = tt
parts_map P Q f (entry.Link other) h = f other h
parts_map P Q f entry.Integer h = tt
parts_map P Q f entry.Boolean h = tt
parts_map P Q f (entry.Carrier place) h = tt
parts_map P Q f (entry.Product first second) h = (f first h.0, f second h.1)
parts_map P Q f (entry.Power members) h = f members h

-- the number is a part of the entry
abbrev pub IsPart : Entry → ℕ → Type 0
IsPart entry.Free p = ⊥
IsPart (entry.Link other) p = p ≡ other
IsPart entry.Integer p = ⊥
IsPart entry.Boolean p = ⊥
IsPart (entry.Carrier place) p = ⊥
IsPart (entry.Product first second) p = (p ≡ first) ⊎ (p ≡ second)
IsPart (entry.Power members) p = p ≡ members

none_pending : (b : Bool) (p : ℕ) → cond b None (Some p) ≡ None → b ≡ true
none_pending true p e = refl
none_pending false p e = absurd (cc)

some_pending : (b : Bool) (j p : ℕ) → cond b None (Some j) ≡ Some p → (p ≡ j) × (b ≡ false)
some_pending true j p e = absurd (cc)
some_pending false j p e = (cc, refl)

pub pending_none : (ms : List Mark) (j : ℕ) → pending ms j ≡ None → is_settled (mark_at ms j) ≡ true
pending_none ms j e = none_pending (is_settled (mark_at ms j)) j e

pub pending_some : (ms : List Mark) (j p : ℕ) → pending ms j ≡ Some p → (p ≡ j) × (is_settled (mark_at ms p) ≡ false)
pending_some ms j p e =
    let got = some_pending (is_settled (mark_at ms j)) j p e in
    (got.0, subst (λ z. is_settled (mark_at ms z) ≡ false) (sym got.0) got.1)

or_none : (a b : Option ℕ) → or_else a b ≡ None → (a ≡ None) × (b ≡ None)
or_none None b e = (refl, e)
or_none (Some x) b e = absurd (cc)

or_some : (a b : Option ℕ) (p : ℕ) → or_else a b ≡ Some p → (a ≡ Some p) ⊎ (b ≡ Some p)
or_some None b p e = inr e
or_some (Some x) b p e = inl e

-- No part is left to settle.
pub all_settled : (ms : List Mark) (e : Entry) → unsettled ms e ≡ None → OfParts (λ j. is_settled (mark_at ms j) ≡ true) e
all_settled ms entry.Free h = tt
all_settled ms (entry.Link other) h = pending_none ms other h
all_settled ms entry.Integer h = tt
all_settled ms entry.Boolean h = tt
all_settled ms (entry.Carrier place) h = tt
all_settled ms (entry.Product first second) h =
    let both = or_none (pending ms first) (pending ms second) h in
    (pending_none ms first both.0, pending_none ms second both.1)
all_settled ms (entry.Power members) h = pending_none ms members h

product_part : (ms : List Mark) (first second p : ℕ) → (pending ms first ≡ Some p) ⊎ (pending ms second ≡ Some p) → IsPart (entry.Product first second) p × (is_settled (mark_at ms p) ≡ false)
product_part ms first second p (inl e) = let got = pending_some ms first p e in (inl got.0, got.1)
product_part ms first second p (inr e) = let got = pending_some ms second p e in (inr got.0, got.1)

-- a part that is left to settle
pub one_unsettled : (ms : List Mark) (e : Entry) (p : ℕ) → unsettled ms e ≡ Some p → IsPart e p × (is_settled (mark_at ms p) ≡ false)
one_unsettled ms entry.Free p h = absurd (cc)
one_unsettled ms (entry.Link other) p h = pending_some ms other p h
one_unsettled ms entry.Integer p h = absurd (cc)
one_unsettled ms entry.Boolean p h = absurd (cc)
one_unsettled ms (entry.Carrier place) p h = absurd (cc)
one_unsettled ms (entry.Product first second) p h = product_part ms first second p (or_some (pending ms first) (pending ms second) p h)
one_unsettled ms (entry.Power members) p h = pending_some ms members p h

both_fixed : (a b : Mark) → both a b ≡ Fixed → (a ≡ Fixed) × (b ≡ Fixed)
both_fixed Fixed Fixed e = (refl, refl)
both_fixed a b e = absurd (cc)

both_settled : (a b : Mark) → is_settled (both a b) ≡ true
both_settled Fixed Fixed = refl
both_settled a b = refl

both_loose : (a b : Mark) → is_settled a ≡ true → is_settled b ≡ true → both a b ≡ Loose → (a ≡ Loose) ⊎ (b ≡ Loose)
both_loose Loose b s t e = inl refl
both_loose a Loose s t e = inr refl
both_loose Fixed Fixed s t e = absurd (cc)
both_loose a b s t e = absurd (cc)

-- what makes the mark that a number gets
pub mark_settled : (ms : List Mark) (e : Entry) → OfParts (λ j. is_settled (mark_at ms j) ≡ true) e → is_settled (mark_of ms e) ≡ true
mark_settled ms entry.Free h = refl
mark_settled ms (entry.Link other) h = h
mark_settled ms entry.Integer h = refl
mark_settled ms entry.Boolean h = refl
mark_settled ms (entry.Carrier place) h = refl
mark_settled ms (entry.Product first second) h = both_settled (mark_at ms first) (mark_at ms second)
mark_settled ms (entry.Power members) h = h

pub mark_fixed : (ms : List Mark) (e : Entry) → mark_of ms e ≡ Fixed → OfParts (λ j. mark_at ms j ≡ Fixed) e
mark_fixed ms entry.Free h = tt
mark_fixed ms (entry.Link other) h = h
mark_fixed ms entry.Integer h = tt
mark_fixed ms entry.Boolean h = tt
mark_fixed ms (entry.Carrier place) h = tt
mark_fixed ms (entry.Product first second) h = both_fixed (mark_at ms first) (mark_at ms second) h
mark_fixed ms (entry.Power members) h = h

abbrev pub IsLooseBy : List Mark → Entry → Type 0
IsLooseBy ms entry.Free = Unit {0}
IsLooseBy ms (entry.Link other) = mark_at ms other ≡ Loose
IsLooseBy ms entry.Integer = ⊥
IsLooseBy ms entry.Boolean = ⊥
IsLooseBy ms (entry.Carrier place) = ⊥
IsLooseBy ms (entry.Product first second) = (mark_at ms first ≡ Loose) ⊎ (mark_at ms second ≡ Loose)
IsLooseBy ms (entry.Power members) = mark_at ms members ≡ Loose

pub mark_loose : (ms : List Mark) (e : Entry) → OfParts (λ j. is_settled (mark_at ms j) ≡ true) e → mark_of ms e ≡ Loose → IsLooseBy ms e
mark_loose ms entry.Free s h = tt
mark_loose ms (entry.Link other) s h = h
mark_loose ms entry.Integer s h = absurd (cc)
mark_loose ms entry.Boolean s h = absurd (cc)
mark_loose ms (entry.Carrier place) s h = absurd (cc)
mark_loose ms (entry.Product first second) s h = both_loose (mark_at ms first) (mark_at ms second) s.0 s.1 h
mark_loose ms (entry.Power members) s h = h

-- numbers on a path
pub on_push : (xs : List ℕ) (x y : ℕ) → IsOn xs y → IsOn (xs ++ (x ∷ [])) y
on_push (z ∷ xs) x y (inl e) = inl e
on_push (z ∷ xs) x y (inr e) = inr (on_push xs x y e)
on_push [] x y e = absurd e

pub on_last : (xs : List ℕ) (x : ℕ) → IsOn (xs ++ (x ∷ [])) x
on_last [] x = inl refl
on_last (z ∷ xs) x = inr (on_last xs x)

on_behind : (xs : List ℕ) (x y z : ℕ) → IsOn xs y ⊎ (y ≡ x) → IsOn (z ∷ xs) y ⊎ (y ≡ x)
on_behind xs x y z (inl e) = inl (inr e)
on_behind xs x y z (inr e) = inr e

pub on_cases : (xs : List ℕ) (x y : ℕ) → IsOn (xs ++ (x ∷ [])) y → IsOn xs y ⊎ (y ≡ x)
on_cases [] x y (inl e) = inr e
on_cases [] x y (inr e) = absurd e
on_cases (z ∷ xs) x y (inl e) = inl (inl e)
on_cases (z ∷ xs) x y (inr e) = on_behind xs x y z (on_cases xs x y e)

below_push : (w : ℕ → ℕ) (xs : List ℕ) (x y z : ℕ) → (IsOn xs y → w y < w z) → w x < w z → IsOn xs y ⊎ (y ≡ x) → w y < w z
below_push w xs x y z f h (inl e) = f e
below_push w xs x y z f h (inr e) = subst (λ v. w v < w z) (sym e) h

pub falls_push : (w : ℕ → ℕ) (xs : List ℕ) (x : ℕ) → Falls w xs → ((y : ℕ) → IsOn xs y → w x < w y) → Falls w (xs ++ (x ∷ []))
falls_push w [] x f h = ((λ y e. absurd e), tt)
falls_push w (z ∷ xs) x f h = ((λ y e. below_push w xs x y z (f.0 y) (h z (inl refl)) (on_cases xs x y e)), falls_push w xs x f.1 (λ y e. h y (inr e)))

pub falls_pop : (w : ℕ → ℕ) (xs : List ℕ) (x : ℕ) → Falls w (xs ++ (x ∷ [])) → Falls w xs
falls_pop w [] x f = tt
falls_pop w (z ∷ xs) x f = ((λ y e. f.0 y (on_push xs x y e)), falls_pop w xs x f.1)

-- the last one weighs least
pub falls_last : (w : ℕ → ℕ) (xs : List ℕ) (x y : ℕ) → Falls w (xs ++ (x ∷ [])) → IsOn (xs ++ (x ∷ [])) y → w x ≤ w y
falls_last w [] x y f (inl e) = subst (λ v. w x ≤ w v) (sym e) (omega arith)
falls_last w [] x y f (inr e) = absurd e
falls_last w (z ∷ xs) x y f (inl e) = subst (λ v. w x ≤ w v) (sym e) (let less = f.0 x (on_last xs x) in omega (arith, less))
falls_last w (z ∷ xs) x y f (inr e) = falls_last w xs x y f.1 e
