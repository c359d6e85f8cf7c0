-- The slots of occurrences with bound values.
use Rattle.std.proofs.Common.{◌≡◌, ◌∙◌, refl, sym, ap, ℕ, zero, suc, ◌+◌, ◌<◌, List, [], ◌∷◌, ◌++◌, length, slice_get, Option, Some, None, arith, Bool, true, false, if◌then◌else◌, nat_eq}
use Rattle.std.specs.Prelude.{option_map, option_and_then}
use Rattle.std.specs.Cmp.{first_so, second_so}
use Rattle.std.proofs.lemmas.Option.{option_and_then_some}
use Rattle.eb_value.specs.declared.value.Value.{Value}
use Rattle.eb_term.specs.declared.problem.Problem.{Problem}
use Rattle.occurrences.specs.declared.place.Place.{Place}
use Rattle.occurrences.specs.Stores.{same_values}
use Rattle.domain_store.specs.declared.slots.Key.{Key}
use Rattle.domain_store.specs.Places.{place_count, place_number}
use Rattle.domain_store.specs.Slots.{is_key, key_at, slot_at, slot_of}
use Rattle.domain_store.proofs.SlotLaws.{Tells, values_are, values_itself, eq_is, eq_itself, number_tells, number_within}

map_some : {A B : Type 0} (f : A → B) (o : Option A) (y : B) → option_map f o ≡ Some y → (x : A) × (o ≡ Some x) × (f x ≡ y)
map_some f None y e = absurd (cc)
map_some f (Some x) y e = (x, refl, (let h : f x ≡ y = cc in h))

map_none : {A B : Type 0} (f : A → B) (o : Option A) → option_map f o ≡ None → o ≡ None
map_none f None e = refl
map_none f (Some x) e = absurd (cc)

first_key : (b : Bool) (keys : List Key) (n : ℕ) (bound : List Value) → (if b then Some 0 else option_map suc (key_at keys n bound)) ≡ None → (b ≡ false) × (key_at keys n bound ≡ None)
first_key true keys n bound e = absurd (cc)
first_key false keys n bound e = (refl, map_none suc (key_at keys n bound) e)

-- ---- what a found key is

pub record KeyIs (keys : List Key) (n : ℕ) (bound : List Value) (i : ℕ) : Type 0 where
  pub key : Key
  pub there : slice_get keys i ≡ Some key
  pub number : key.number ≡ n
  pub values : key.bound ≡ bound
  pub within : i < length keys

first_is : Tells → (key : Key) (n : ℕ) (bound : List Value) → is_key key n bound ≡ true → (key.number ≡ n) × (key.bound ≡ bound)
first_is tells key n bound h =
    (eq_is key.number n (first_so (nat_eq key.number n) (same_values key.bound bound) h), values_are tells key.bound bound (second_so (nat_eq key.number n) (same_values key.bound bound) h))

pub key_is : Tells → (keys : List Key) (n : ℕ) (bound : List Value) (i : ℕ) → key_at keys n bound ≡ Some i → KeyIs keys n bound i
key_is tells [] n bound i e = absurd (cc)
key_is tells (k ∷ keys) n bound i e = by (is_key k n bound) refl e (λ j f. key_is tells keys n bound j f) where
  by : (b : Bool) → is_key k n bound ≡ b → (if b then Some 0 else option_map suc (key_at keys n bound)) ≡ Some i
      → ((j : ℕ) → key_at keys n bound ≡ Some j → KeyIs keys n bound j) → KeyIs (k ∷ keys) n bound i
  by true is e further =
      let at : i ≡ 0 = cc in
      let parts = first_is tells k n bound is in
      record { key = k; there = ap (slice_get (k ∷ keys)) at; number = parts.0; values = parts.1; within = omega arith }
  by false is e further =
      let more = map_some suc (key_at keys n bound) i e in
      let rest = further more.0 more.1 in
      let at : i ≡ suc more.0 = sym more.2 in
      let less : more.0 < length keys = rest.within in
      record { key = rest.key; there = ap (slice_get (k ∷ keys)) at ∙ rest.there; number = rest.number; values = rest.values; within = omega arith }

-- two occurrences with one key are one
key_tells : Tells → (keys : List Key) (n m : ℕ) (b c : List Value) (i : ℕ) → key_at keys n b ≡ Some i → key_at keys m c ≡ Some i → (n ≡ m) × (b ≡ c)
key_tells tells keys n m b c i e f =
    let u = key_is tells keys n b i e in
    let w = key_is tells keys m c i f in
    let both : Some u.key ≡ Some w.key = sym u.there ∙ w.there in
    let same : u.key ≡ w.key = cc in
    (sym u.number ∙ ap (λ (k : Key). k.number) same ∙ w.number, sym u.values ∙ ap (λ (k : Key). k.bound) same ∙ w.values)

slot_tells : Tells → (places : ℕ) (keys : List Key) (n m : ℕ) (b c : List Value) (s : ℕ) → n < places → m < places → slot_at places keys n b ≡ Some s → slot_at places keys m c ≡ Some s
    → (n ≡ m) × (b ≡ c)
slot_tells tells places keys n m [] [] s h g e f = ((let u : n ≡ s = cc in let w : m ≡ s = cc in omega arith), refl)
slot_tells tells places keys n m [] (c ∷ cs) s h g e f =
    let u : n ≡ s = cc in let w = map_some (λ i. places + i) (key_at keys m (c ∷ cs)) s f in absurd (omega (arith, w.2))
slot_tells tells places keys n m (b ∷ bs) [] s h g e f =
    let u : m ≡ s = cc in let w = map_some (λ i. places + i) (key_at keys n (b ∷ bs)) s e in absurd (omega (arith, w.2))
slot_tells tells places keys n m (b ∷ bs) (c ∷ cs) s h g e f =
    let u = map_some (λ i. places + i) (key_at keys n (b ∷ bs)) s e in
    let w = map_some (λ i. places + i) (key_at keys m (c ∷ cs)) s f in
    let same : w.0 ≡ u.0 = omega (arith, u.2, w.2) in
    key_tells tells keys n m (b ∷ bs) (c ∷ cs) u.0 u.1 (rw same at w.1)

-- ---- slots

pub record SlotIs (p : Problem) (keys : List Key) (at : Place) (bound : List Value) (s : ℕ) : Type 0 where
  pub number : ℕ
  pub is : place_number p at ≡ Some number
  pub there : slot_at (place_count p) keys number bound ≡ Some s

pub slot_is : (p : Problem) (keys : List Key) (at : Place) (bound : List Value) (s : ℕ) → slot_of p keys at bound ≡ Some s → SlotIs p keys at bound s
slot_is p keys at bound s e =
    option_and_then_some (λ number. slot_at (place_count p) keys number bound) (place_number p at) s e (λ n is there. record { number = n; is = is; there = there })

-- two occurrences with one slot are one
pub slots_tell : Tells → (p : Problem) (keys : List Key) (a b : Place) (xs ys : List Value) (s : ℕ) → slot_of p keys a xs ≡ Some s → slot_of p keys b ys ≡ Some s → (a ≡ b) × (xs ≡ ys)
slots_tell tells p keys a b xs ys s e f =
    let u = slot_is p keys a xs s e in
    let w = slot_is p keys b ys s f in
    let both = slot_tells tells (place_count p) keys u.number w.number xs ys s (number_within p a u.number u.is) (number_within p b w.number w.is) u.there w.there in
    (number_tells p a b u.number u.is (rw (sym both.0) at w.is), both.1)

slot_less : Tells → (places : ℕ) (keys : List Key) (n : ℕ) (b : List Value) (s : ℕ) → n < places → slot_at places keys n b ≡ Some s → s < places + length keys
slot_less tells places keys n [] s h e = let u : n ≡ s = cc in omega arith
slot_less tells places keys n (b ∷ bs) s h e =
    let u = map_some (λ i. places + i) (key_at keys n (b ∷ bs)) s e in
    let less : u.0 < length keys = (key_is tells keys n (b ∷ bs) u.0 u.1).within in
    omega (arith, u.2)

pub slot_within : Tells → (p : Problem) (keys : List Key) (at : Place) (bound : List Value) (s : ℕ) → slot_of p keys at bound ≡ Some s → s < place_count p + length keys
slot_within tells p keys at bound s e = let u = slot_is p keys at bound s e in slot_less tells (place_count p) keys u.number bound s (number_within p at u.number u.is) u.there

-- ---- one more key

key_more : (keys : List Key) (key : Key) (n : ℕ) (bound : List Value) (i : ℕ) → key_at keys n bound ≡ Some i → key_at (keys ++ key ∷ []) n bound ≡ Some i
key_more [] key n bound i e = absurd (cc)
key_more (k ∷ keys) key n bound i e = by (is_key k n bound) refl e (λ j f. key_more keys key n bound j f) where
  by : (b : Bool) → is_key k n bound ≡ b → (if b then Some 0 else option_map suc (key_at keys n bound)) ≡ Some i
      → ((j : ℕ) → key_at keys n bound ≡ Some j → key_at (keys ++ key ∷ []) n bound ≡ Some j) → key_at (k ∷ (keys ++ key ∷ [])) n bound ≡ Some i
  by true is e further = rw is e
  by false is e further =
      let more = map_some suc (key_at keys n bound) i e in
      rw (is, further more.0 more.1) (ap Some more.2)

key_last : (keys : List Key) (key : Key) (n : ℕ) (bound : List Value) → key_at keys n bound ≡ None → is_key key n bound ≡ true → key_at (keys ++ key ∷ []) n bound ≡ Some (length keys)
key_last [] key n bound e is = rw is refl
key_last (k ∷ keys) key n bound e is = let parts = first_key (is_key k n bound) keys n bound e in rw (parts.0, key_last keys key n bound parts.1 is) refl

key_other : (keys : List Key) (key : Key) (n : ℕ) (bound : List Value) → key_at keys n bound ≡ None → is_key key n bound ≡ false → key_at (keys ++ key ∷ []) n bound ≡ None
key_other [] key n bound e is = rw is refl
key_other (k ∷ keys) key n bound e is = let parts = first_key (is_key k n bound) keys n bound e in rw (parts.0, key_other keys key n bound parts.1 is) refl

key_itself : Tells → (n : ℕ) (bound : List Value) (key : Key) → key.number ≡ n → key.bound ≡ bound → is_key key n bound ≡ true
key_itself tells n bound key e f = rw (e, f, eq_itself n, values_itself tells bound) refl

-- An occurrence has the slot that it had, or it had none, and has none or the new one.
pub data Slots (count : ℕ) : Option ℕ → Option ℕ → Type 0 where
  kept : {o : Option ℕ} → Slots count o o
  made : Slots count None (Some count)

slots_at : (places : ℕ) (keys : List Key) (key : Key) (n : ℕ) (bound : List Value) → Slots (places + length keys) (slot_at places keys n bound) (slot_at places (keys ++ key ∷ []) n bound)
slots_at places keys key n [] = kept
slots_at places keys key n (b ∷ bs) = by (key_at keys n (b ∷ bs)) refl where
  last : (c : Bool) → key_at keys n (b ∷ bs) ≡ None → is_key key n (b ∷ bs) ≡ c → Slots (places + length keys) None (option_map (λ i. places + i) (key_at (keys ++ key ∷ []) n (b ∷ bs)))
  last true e is = rw (key_last keys key n (b ∷ bs) e is) made
  last false e is = rw (key_other keys key n (b ∷ bs) e is) kept

  by : (o : Option ℕ) → key_at keys n (b ∷ bs) ≡ o → Slots (places + length keys) (option_map (λ i. places + i) o) (option_map (λ i. places + i) (key_at (keys ++ key ∷ []) n (b ∷ bs)))
  by None e = last (is_key key n (b ∷ bs)) e refl
  by (Some i) e = rw (key_more keys key n (b ∷ bs) i e) kept

slots_by : (places : ℕ) (keys : List Key) (key : Key) (o : Option ℕ) (bound : List Value)
    → Slots (places + length keys) (option_and_then (λ n. slot_at places keys n bound) o) (option_and_then (λ n. slot_at places (keys ++ key ∷ []) n bound) o)
slots_by places keys key None bound = kept
slots_by places keys key (Some n) bound = slots_at places keys key n bound

pub slots_more : (p : Problem) (keys : List Key) (key : Key) (at : Place) (bound : List Value) → Slots (place_count p + length keys) (slot_of p keys at bound) (slot_of p (keys ++ key ∷ []) at bound)
slots_more p keys key at bound = slots_by (place_count p) keys key (place_number p at) bound

made_at : Tells → (places : ℕ) (keys : List Key) (key : Key) (n : ℕ) (bound : List Value) → key.number ≡ n → key.bound ≡ bound → slot_at places keys n bound ≡ None
    → slot_at places (keys ++ key ∷ []) n bound ≡ Some (places + length keys)
made_at tells places keys key n [] e f none = absurd (cc)
made_at tells places keys key n (b ∷ bs) e f none =
    let absent : key_at keys n (b ∷ bs) ≡ None = map_none (λ i. places + i) (key_at keys n (b ∷ bs)) none in
    rw (key_last keys key n (b ∷ bs) absent (key_itself tells n (b ∷ bs) key e f)) refl

-- an occurrence that had none has the new slot
pub slot_made : Tells → (p : Problem) (keys : List Key) (key : Key) (at : Place) (n : ℕ) (bound : List Value) → place_number p at ≡ Some n → key.number ≡ n → key.bound ≡ bound
    → slot_of p keys at bound ≡ None → slot_of p (keys ++ key ∷ []) at bound ≡ Some (place_count p + length keys)
slot_made tells p keys key at n bound is e f none = rw is (made_at tells (place_count p) keys key n bound e f (rw is at none))

-- where a key is of the place and the values, the search finds one
pub key_first : Tells → (keys : List Key) (n : ℕ) (bound : List Value) (i : ℕ) (key : Key) → slice_get keys i ≡ Some key → key.number ≡ n → key.bound ≡ bound
    → (j : ℕ) × (key_at keys n bound ≡ Some j)
key_first tells [] n bound i key there e f = absurd (cc)
key_first tells (k ∷ keys) n bound zero key there e f =
    let same : k ≡ key = cc in
    (0, rw (same, key_itself tells n bound key e f) refl)
key_first tells (k ∷ keys) n bound (suc i) key there e f = by (is_key k n bound) refl (key_first tells keys n bound i key there e f) where
  by : (b : Bool) → is_key k n bound ≡ b → (j : ℕ) × (key_at keys n bound ≡ Some j) → (j : ℕ) × (key_at (k ∷ keys) n bound ≡ Some j)
  by true is rest = (0, rw is refl)
  by false is rest = (suc rest.0, rw (is, rest.1) refl)

free_at : (places : ℕ) (keys : List Key) (n : ℕ) (bound : List Value) → slot_at places keys n bound ≡ None → key_at keys n bound ≡ None
free_at places keys n [] e = absurd (cc)
free_at places keys n (b ∷ bs) e = map_none (λ i. places + i) (key_at keys n (b ∷ bs)) e

-- an occurrence that has no slot has no key
pub free_key : (p : Problem) (keys : List Key) (at : Place) (n : ℕ) (bound : List Value) → place_number p at ≡ Some n → slot_of p keys at bound ≡ None → key_at keys n bound ≡ None
free_key p keys at n bound is none = free_at (place_count p) keys n bound (rw is at none)
