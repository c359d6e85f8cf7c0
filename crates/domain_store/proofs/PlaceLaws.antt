-- The rows of keys: the search for a key in its row, and one more key.
use Rattle.std.proofs.Common.{◌≡◌, ◌≢◌, ◌∙◌, refl, sym, ap, ap₂, subst, ℕ, zero, suc, ◌<◌, List, [], ◌∷◌, ◌++◌, length, take, drop, get_or, set, slice_get, Option, Some, None, arith, ◌⊎◌, inl, inr}
use Rattle.std.proofs.lemmas.List.{get_or-set_same, get_or-set_other}
use Rattle.std.proofs.lemmas.Option.{get_or_from_slice_get, unwrap_or-slice_get, slice_get_within}
use Rattle.std.specs.Prelude.{unwrap_or, IfOk, IfErr, Result, Ok, Err}
use Rattle.eb_value.specs.declared.value.Value.{Value}
use Rattle.domain_store.specs.declared.slots.Key.{Key}
use Rattle.domain_store.specs.Slots.{key_at}
use Rattle.domain_store.specs.steps.Rows.{bound_of, bound_at, bounds_of, Ascending, IsPlace, Member, IsOf, IsRow, row_at, AreRows, SameRows, AreWithin, IsFound, IsFree}
use Rattle.domain_store.proofs.KeyLaws.{KeyIs, key_is, key_first}
use Rattle.domain_store.proofs.EachLaws.{at_push}
use Rattle.domain_store.proofs.RowLaws.{Orders, tells_of, ascending_put, ascending_tells, not_there}

-- ---- members

pub member_at : (row : List ℕ) (m : ℕ) → m < length row → Member (get_or row m 0) row
member_at [] m l = absurd (omega arith)
member_at (j ∷ row) zero l = inl refl
member_at (j ∷ row) (suc m) l = inr (member_at row m (omega arith))

pub record AtPlace (row : List ℕ) (i : ℕ) : Type 0 where
  pub place : ℕ
  pub within : place < length row
  pub is : get_or row place 0 ≡ i

place_of : (row : List ℕ) (i : ℕ) → Member i row → AtPlace row i
place_of [] i h = absurd h
place_of (j ∷ row) i (inl e) = record { place = 0; within = omega arith; is = e }
place_of (j ∷ row) i (inr h) =
    let more = place_of row i h in
    let less : more.place < length row = more.within in
    record { place = suc more.place; within = omega arith; is = more.is }

member_put : (row : List ℕ) (at i j : ℕ) → Member i row → Member i (take at row ++ j ∷ drop at row)
member_put [] at i j h = absurd h
member_put (k ∷ row) zero i j h = inr h
member_put (k ∷ row) (suc at) i j (inl e) = inl e
member_put (k ∷ row) (suc at) i j (inr h) = inr (member_put row at i j h)

put_member : (row : List ℕ) (at j : ℕ) → Member j (take at row ++ j ∷ drop at row)
put_member [] zero j = inl refl
put_member [] (suc at) j = inl refl
put_member (k ∷ row) zero j = inl refl
put_member (k ∷ row) (suc at) j = inr (put_member row at j)

-- a member of a row with one more is that, or was one
member_of : (row : List ℕ) (at i j : ℕ) → Member i (take at row ++ j ∷ drop at row) → (j ≡ i) ⊎ Member i row
member_of [] zero i j h = h
member_of [] (suc at) i j h = h
member_of (k ∷ row) zero i j h = h
member_of (k ∷ row) (suc at) i j (inl e) = inr (inl e)
member_of (k ∷ row) (suc at) i j (inr h) = elim (member_of row at i j h) [
  | inl e ↦ inl e
  | inr m ↦ inr (inr m)
]

-- ---- the values of a row's keys

pub bounds_length : (keys : List Key) (row : List ℕ) → length (bounds_of keys row) ≡ length row
bounds_length keys [] = refl
bounds_length keys (i ∷ row) = let rest : length (bounds_of keys row) ≡ length row = bounds_length keys row in omega arith

pub bounds_at : (keys : List Key) (row : List ℕ) (m : ℕ) → m < length row → get_or (bounds_of keys row) m [] ≡ bound_at keys (get_or row m 0)
bounds_at keys [] m l = absurd (omega arith)
bounds_at keys (i ∷ row) zero l = refl
bounds_at keys (i ∷ row) (suc m) l = bounds_at keys row m (omega arith)

bounds_put : (keys : List Key) (row : List ℕ) (at j : ℕ) → bounds_of keys (take at row ++ j ∷ drop at row) ≡ take at (bounds_of keys row) ++ bound_at keys j ∷ drop at (bounds_of keys row)
bounds_put keys [] zero j = refl
bounds_put keys [] (suc at) j = refl
bounds_put keys (k ∷ row) zero j = refl
bounds_put keys (k ∷ row) (suc at) j = ap (λ bs. bound_at keys k ∷ bs) (bounds_put keys row at j)

get_front : (keys : List Key) (key k : Key) (i : ℕ) → slice_get keys i ≡ Some k → slice_get (keys ++ key ∷ []) i ≡ Some k
get_front [] key k i e = absurd (cc)
get_front (x ∷ keys) key k zero e = e
get_front (x ∷ keys) key k (suc i) e = get_front keys key k i e

get_last : (keys : List Key) (key : Key) → slice_get (keys ++ key ∷ []) (length keys) ≡ Some key
get_last [] key = refl
get_last (x ∷ keys) key = get_last keys key

bounds_more : (keys : List Key) (key : Key) (n : ℕ) (row : List ℕ) → ((i : ℕ) → Member i row → IsOf keys n i) → bounds_of (keys ++ key ∷ []) row ≡ bounds_of keys row
bounds_more keys key n [] of = refl
bounds_more keys key n (i ∷ row) of =
    let here = of i (inl refl) in
    ap₂ (λ b bs. b ∷ bs) (ap bound_of (get_front keys key here.key i here.there ∙ sym here.there)) (bounds_more keys key n row (λ j h. of j (inr h)))

-- ---- the search

module _ (orders : Orders) (keys : List Key) (rows : List (List ℕ)) (are : AreRows keys rows) where
  -- a key of the place and with the values is the only one
  only_key : (n i j : ℕ) (bound : List Value) → Member i (row_at rows n) → bound_at keys i ≡ bound → KeyIs keys n bound j → i ≡ j
  only_key n i j bound h e key =
      let row = are.row n in
      let a = place_of (row_at rows n) i h in
      let b = place_of (row_at rows n) j (subst (λ m. Member j (row_at rows m)) key.number (are.all j key.key key.there)) in
      let count : length (bounds_of keys (row_at rows n)) ≡ length (row_at rows n) = bounds_length keys (row_at rows n) in
      let within_a : a.place < length (row_at rows n) = a.within in
      let within_b : b.place < length (row_at rows n) = b.within in
      let at_a : get_or (bounds_of keys (row_at rows n)) a.place [] ≡ bound = bounds_at keys (row_at rows n) a.place within_a ∙ ap (bound_at keys) a.is ∙ e in
      let at_b : get_or (bounds_of keys (row_at rows n)) b.place [] ≡ bound = bounds_at keys (row_at rows n) b.place within_b ∙ ap (bound_at keys) b.is ∙ ap bound_of key.there ∙ key.values in
      let same : a.place ≡ b.place = ascending_tells orders (bounds_of keys (row_at rows n)) a.place b.place row.ascending (omega arith) (omega arith) (at_a ∙ sym at_b) in
      sym a.is ∙ ap (λ m. get_or (row_at rows n) m 0) same ∙ b.is

  -- a key in the row of the place, with the values, is the one that is sought
  pub found_is : (n i : ℕ) (bound : List Value) → Member i (row_at rows n) → bound_at keys i ≡ bound → key_at keys n bound ≡ Some i
  found_is n i bound h e =
      let of = (are.row n).numbers i h in
      let first = key_first (tells_of orders) keys n bound i of.key of.there of.same (sym (ap bound_of of.there) ∙ e) in
      let same : i ≡ first.0 = only_key n i first.0 bound h e (key_is (tells_of orders) keys n bound first.0 first.1) in
      first.1 ∙ ap Some (sym same)

  -- where the values have a place in the row that isn't taken, there is no such key
  pub absent_is : (n at : ℕ) (bound : List Value) → IsPlace (bounds_of keys (row_at rows n)) bound at → key_at keys n bound ≡ None
  absent_is n at bound place = by (key_at keys n bound) refl where
    clash : (i : ℕ) → KeyIs keys n bound i → ⊥
    clash i key =
        let a = place_of (row_at rows n) i (subst (λ m. Member i (row_at rows m)) key.number (are.all i key.key key.there)) in
        let count : length (bounds_of keys (row_at rows n)) ≡ length (row_at rows n) = bounds_length keys (row_at rows n) in
        let within : a.place < length (row_at rows n) = a.within in
        not_there orders (bounds_of keys (row_at rows n)) bound at a.place place.below place.above (omega arith)
        (bounds_at keys (row_at rows n) a.place within ∙ ap (bound_at keys) a.is ∙ ap bound_of key.there ∙ key.values)

    by : (o : Option ℕ) → key_at keys n bound ≡ o → o ≡ None
    by None e = refl
    by (Some i) e = absurd (clash i (key_is (tells_of orders) keys n bound i e))

-- ---- one more key

-- rows that are those that they were
pub rows_same : (keys : List Key) (rows now : List (List ℕ)) → SameRows rows now → AreRows keys rows → AreRows keys now
rows_same keys rows now same are = record {
  row = λ n. subst (λ row. IsRow keys n row) (sym (same n)) (are.row n);
  all = λ i key e. subst (λ row. Member i row) (sym (same key.number)) (are.all i key e);
}

row_more : (keys : List Key) (key : Key) (n : ℕ) (row : List ℕ) → IsRow keys n row → IsRow (keys ++ key ∷ []) n row
row_more keys key n row is = record {
  ascending = subst Ascending (sym (bounds_more keys key n row is.numbers)) is.ascending;
  numbers = λ i h. (let of = is.numbers i h in let o : IsOf (keys ++ key ∷ []) n i = record { key = of.key; there = get_front keys key of.key i of.there; same = of.same } in o);
}

row_put : (keys : List Key) (key : Key) (row : List ℕ) (at : ℕ) → IsRow keys key.number row → IsPlace (bounds_of keys row) key.bound at
    → IsRow (keys ++ key ∷ []) key.number (take at row ++ length keys ∷ drop at row)
row_put keys key row at is place = record {
  ascending =
      (let more : bounds_of (keys ++ key ∷ []) row ≡ bounds_of keys row = bounds_more keys key key.number row is.numbers in
      let here : bound_at (keys ++ key ∷ []) (length keys) ≡ key.bound = ap bound_of (get_last keys key) in
      subst Ascending (sym (bounds_put (keys ++ key ∷ []) row at (length keys) ∙ ap₂ (λ b bs. take at bs ++ b ∷ drop at bs) here more))
      (ascending_put key.bound (bounds_of keys row) at is.ascending place.below place.above));
  numbers = λ i h. elim (member_of row at i (length keys) h) [
    | inl e ↦ subst (λ j. IsOf (keys ++ key ∷ []) key.number j) e (record { key = key; there = get_last keys key; same = refl })
    | inr m ↦ (row_more keys key key.number row is).numbers i m
  ];
}

abbrev pub put_row : List (List ℕ) → ℕ → ℕ → ℕ → List (List ℕ)
put_row rows n at i = set rows n (take at (row_at rows n) ++ i ∷ drop at (row_at rows n))

same_or : (a b : ℕ) → (a ≡ b) ⊎ (a ≢ b)
same_or zero zero = inl refl
same_or zero (suc b) = inr (λ e. (omega arith))
same_or (suc a) zero = inr (λ e. (omega arith))
same_or (suc a) (suc b) = elim (same_or a b) [
  | inl e ↦ inl (ap suc e)
  | inr h ↦ inr (λ e. h (omega arith))
]

-- the rows with one more key at its place
pub rows_put : (keys : List Key) (rows : List (List ℕ)) (key : Key) (at : ℕ) → AreRows keys rows → key.number < length rows → IsPlace (bounds_of keys (row_at rows key.number)) key.bound at
    → AreRows (keys ++ key ∷ []) (put_row rows key.number at (length keys))
rows_put keys rows key at are less place = record {
  row = λ n. elim (same_or n key.number) [
    | inl e ↦ subst (λ m. IsRow (keys ++ key ∷ []) m (row_at now m)) (sym e)
        (subst (λ row. IsRow (keys ++ key ∷ []) key.number row) (sym here) (row_put keys key (row_at rows key.number) at (are.row key.number) place))
    | inr h ↦ subst (λ row. IsRow (keys ++ key ∷ []) n row) (sym (other n h)) (row_more keys key n (row_at rows n) (are.row n))
  ];
  all = λ i k e. elim (at_push keys key i k e) [
    | inl old ↦ kept i k old (same_or k.number key.number)
    | inr new ↦ subst (λ (x : Key). Member i (row_at now x.number)) new.1 (subst (λ row. Member i row) (sym here) (subst (λ j. Member j (take at (row_at rows key.number) ++ length keys ∷ drop at (row_at rows key.number))) (sym new.0) (put_member (row_at rows key.number) at (length keys))))
  ];
} where
  now : List (List ℕ)
  now = put_row rows key.number at (length keys)

  here : row_at now key.number ≡ take at (row_at rows key.number) ++ length keys ∷ drop at (row_at rows key.number)
  here = get_or-set_same rows key.number (take at (row_at rows key.number) ++ length keys ∷ drop at (row_at rows key.number)) [] less

  other : (n : ℕ) → n ≢ key.number → row_at now n ≡ row_at rows n
  other n h = get_or-set_other rows key.number n (take at (row_at rows key.number) ++ length keys ∷ drop at (row_at rows key.number)) [] h

  kept : (i : ℕ) (k : Key) → slice_get keys i ≡ Some k → (k.number ≡ key.number) ⊎ (k.number ≢ key.number) → Member i (row_at now k.number)
  kept i k e (inl s) = subst (λ n. Member i (row_at now n)) (sym s) (subst (λ row. Member i row) (sym here)
      (member_put (row_at rows key.number) at i (length keys) (subst (λ n. Member i (row_at rows n)) s (are.all i k e))))
  kept i k e (inr h) = subst (λ row. Member i row) (sym (other k.number h)) (are.all i k e)

-- ---- rows as they are read

pub row_there : (rows : List (List ℕ)) (n : ℕ) (row : List ℕ) → slice_get rows n ≡ Some row → row_at rows n ≡ row
row_there rows n row e = get_or_from_slice_get rows n row [] e

pub row_none : (rows : List (List ℕ)) (n : ℕ) → slice_get rows n ≡ None → row_at rows n ≡ []
row_none rows n e = sym (unwrap_or-slice_get rows n []) ∙ ap (λ o. unwrap_or o []) e

of_within : (keys : List Key) (n i : ℕ) → IsOf keys n i → i < length keys
of_within keys n i of = slice_get_within keys i of.key of.there

pub row_within : (keys : List Key) (n : ℕ) (row : List ℕ) → IsRow keys n row → AreWithin (length keys) row
row_within keys n row is m l = of_within keys n (get_or row m 0) (is.numbers (get_or row m 0) (member_at row m l))

pub found_there : Orders → (keys : List Key) (rows : List (List ℕ)) → AreRows keys rows → (n : ℕ) (row : List ℕ) (bound : List Value) → slice_get rows n ≡ Some row
    → (r : Result ℕ ℕ) → IfOk r (IsFound keys row bound) → IfOk r (λ i. key_at keys n bound ≡ Some i)
found_there orders keys rows are n row bound e (Ok i) h = found_is orders keys rows are n i bound (subst (λ row. Member i row) (sym (row_there rows n row e)) h.member) h.values
found_there orders keys rows are n row bound e (Err at) h = h

pub free_there : Orders → (keys : List Key) (rows : List (List ℕ)) → AreRows keys rows → (n : ℕ) (row : List ℕ) (bound : List Value) → slice_get rows n ≡ Some row
    → (r : Result ℕ ℕ) → IfErr r (IsPlace (bounds_of keys row) bound) → IfErr r (IsFree keys rows n bound)
free_there orders keys rows are n row bound e (Ok i) h = h
free_there orders keys rows are n row bound e (Err at) h =
    let place : IsPlace (bounds_of keys (row_at rows n)) bound at = subst (λ row. IsPlace (bounds_of keys row) bound at) (sym (row_there rows n row e)) h in
    record { absent = absent_is orders keys rows are n at bound place; place = place }

pub free_past : Orders → (keys : List Key) (rows : List (List ℕ)) → AreRows keys rows → (n : ℕ) (bound : List Value) → slice_get rows n ≡ None → IsFree keys rows n bound 0
free_past orders keys rows are n bound e =
    let empty : IsPlace (bounds_of keys []) bound 0 = record { within = omega arith; below = tt; above = tt } in
    let place : IsPlace (bounds_of keys (row_at rows n)) bound 0 = subst (λ row. IsPlace (bounds_of keys row) bound 0) (sym (row_none rows n e)) empty in
    record { absent = absent_is orders keys rows are n 0 bound place; place = place }

-- the same, by what the code says of each part
pub rows_add : (keys more : List Key) (rows : List (List ℕ)) (key : Key) (at index : ℕ) (old now : List ℕ) → AreRows keys rows → key.number < length rows
    → IsPlace (bounds_of keys (row_at rows key.number)) key.bound at → more ≡ keys ++ key ∷ [] → old ≡ row_at rows key.number → index ≡ length keys → now ≡ take at old ++ index ∷ drop at old
    → AreRows more (set rows key.number now)
rows_add keys more rows key at index old now are less place e f g h =
    let row : now ≡ take at (row_at rows key.number) ++ length keys ∷ drop at (row_at rows key.number) = h ∙ ap₂ (λ o i. take at o ++ i ∷ drop at o) f g in
    subst (λ ks. AreRows ks (set rows key.number now)) (sym e) (subst (λ r. AreRows (keys ++ key ∷ []) (set rows key.number r)) (sym row) (rows_put keys rows key at are less place))
