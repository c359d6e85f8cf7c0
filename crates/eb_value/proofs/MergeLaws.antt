-- What the merges of ascending lists have.
use Rattle.std.proofs.Common.{◌≡◌, ◌∙◌, ◌↔◌, ⊎_elim, inl, inr, ◌⊎◌, Bool, true, false, not, if◌then◌else◌, List, [], ◌∷◌, ◌++◌, Option, Some, None, refl, sym, ap, subst}
use Rattle.std.specs.List.{Contains}
use Rattle.std.specs.Ordering.{is_eq}
use Rattle.std.specs.declared.cmp.Ordering.{Ordering}
use Rattle.std.specs.declared.cmp.Ordering.TheVariants.{Less, Equal, Greater}
use Rattle.std.proofs.lemmas.List.Elements.{Contains-append_cases, Contains-append_left, Contains-append_right}
use Rattle.eb_value.specs.declared.value.Value.{Value}
use Rattle.eb_value.specs.Values.{compare, is_less, is_ascending}
use Rattle.eb_value.specs.Sets.{IsSetOf, InUnion, InMeet, InMinus}
use Rattle.eb_value.specs.steps.Merges
use Rattle.eb_value.specs.declared.merges.Key.TheVariants.{Itself}
use Rattle.eb_value.proofs.OrderLaws.{reflexive, exact, reversed, transitive}
use Rattle.eb_value.proofs.Members.{contains_none, contains_cases, contains_here, contains_there}
use Rattle.eb_value.proofs.Ascending.{Rises, Below, not_below, not_both_below, rises, ascending, rises_append, filter_split, filter_join, filter_rises}

-- facts that say the same have the same set
pub same_set : (P Q : Value → Type 0) (xs : List Value) → ((v : Value) → P v ↔ Q v) → IsSetOf P xs → IsSetOf Q xs
same_set P Q xs h s = record { ascending = s.ascending; members = λ v. (λ m. (h v).0 ((s.members v).0 m), λ q. (s.members v).1 ((h v).1 q)) }

pub set_from : (P : Value → Type 0) (xs : List Value) → Rises Below xs → ((v : Value) → Contains xs v ↔ P v) → IsSetOf P xs
set_from P xs h m = record { ascending = ascending xs h; members = m }

-- ---- the front below a value, and the rest

above : (x v : Value) → compare x v ≡ Greater → Below v x
above x v h = reversed x v ∙ rw h refl

-- by the order of the first element and the value
module _ (v x : Value) (xs : List Value) where
  from_cases : (P : List Value → Type 0) → (Below x v → P (Merges.from_value v xs)) → ((Below x v → ⊥) → P (x ∷ xs)) → (o : Ordering) → compare x v ≡ o → P (if is_less (compare x v) then Merges.from_value v xs else (x ∷ xs))
  from_cases P f g Less e = rw e (f e)
  from_cases P f g Equal e = rw e (g (λ b. let k : Equal ≡ Less = sym e ∙ b in cc))
  from_cases P f g Greater e = rw e (g (λ b. let k : Greater ≡ Less = sym e ∙ b in cc))

pub from_in : (v : Value) (xs : List Value) (w : Value) → Contains (Merges.from_value v xs) w → Contains xs w
from_in v [] w m = m
from_in v (x ∷ xs) w m = from_cases v x xs (λ r. Contains r w → Contains (x ∷ xs) w) (λ b n. contains_there x xs w (from_in v xs w n)) (λ b n. n) (compare x v) refl m

pub in_from : (v : Value) (xs : List Value) (w : Value) → Contains xs w → (Below w v → ⊥) → Contains (Merges.from_value v xs) w
in_from v [] w m n = m
in_from v (x ∷ xs) w m n = from_cases v x xs (λ r. Contains r w)
    (λ b. ⊎_elim (λ e. absurd (n (subst (λ z. Below z v) e b))) (λ o. in_from v xs w o n) (contains_cases x xs w m))
    (λ b. m) (compare x v) refl

pub from_rises : (v : Value) (xs : List Value) → Rises Below xs → Rises Below (Merges.from_value v xs)
from_rises v [] h = tt
from_rises v (x ∷ xs) h = from_cases v x xs (Rises Below) (λ b. from_rises v xs h.1) (λ b. h) (compare x v) refl

below_cases : (v x : Value) (xs : List Value) (P : List Value → List Value → Type 0) → (Below x v → P (x ∷ Merges.below v xs) (Merges.from_value v xs)) → P [] (x ∷ xs) → (o : Ordering) → compare x v ≡ o → P (if is_less (compare x v) then (x ∷ Merges.below v xs) else []) (if is_less (compare x v) then Merges.from_value v xs else (x ∷ xs))
below_cases v x xs P f g Less e = rw e (f e)
below_cases v x xs P f g Equal e = rw e g
below_cases v x xs P f g Greater e = rw e g

below_split : (v : Value) (xs : List Value) → Merges.below v xs ++ Merges.from_value v xs ≡ xs
below_split v [] = refl
below_split v (x ∷ xs) = below_cases v x xs (λ a b. a ++ b ≡ x ∷ xs) (λ b. ap (λ r. x ∷ r) (below_split v xs)) refl (compare x v) refl

below_below : (v : Value) (xs : List Value) (w : Value) → Contains (Merges.below v xs) w → Below w v
below_below v [] w m = absurd (contains_none w m)
below_below v (x ∷ xs) w m = below_cases v x xs (λ a b. Contains a w → Below w v)
    (λ b n. ⊎_elim (λ e. subst (λ z. Below z v) e b) (below_below v xs w) (contains_cases x (Merges.below v xs) w n))
    (λ n. absurd (contains_none w n)) (compare x v) refl m

below_in : (v : Value) (xs : List Value) (w : Value) → Contains (Merges.below v xs) w → Contains xs w
below_in v xs w m = subst (λ ys. Contains ys w) (below_split v xs) (Contains-append_left (Merges.below v xs) (Merges.from_value v xs) w m)

below_rises : (v : Value) (xs : List Value) → Rises Below xs → Rises Below (Merges.below v xs)
below_rises v [] h = tt
below_rises v (x ∷ xs) h = below_cases v x xs (λ a b. Rises Below a) (λ b. (λ w m. h.0 w (below_in v xs w m), below_rises v xs h.1)) tt (compare x v) refl

-- ---- the front of the rest

pub is_eq-Equal : (v x : Value) → is_eq (compare x v) ≡ true → x ≡ v
is_eq-Equal v x = equal_so v x (compare x v) refl where
  equal_so : (v x : Value) (o : Ordering) → compare x v ≡ o → is_eq (compare x v) ≡ true → x ≡ v
  equal_so v x Equal e h = exact x v e
  equal_so v x Less e h = let k : false ≡ true = ap is_eq (sym e) ∙ h in cc
  equal_so v x Greater e h = let k : false ≡ true = ap is_eq (sym e) ∙ h in cc

begins_in : (v : Value) (xs : List Value) → Merges.begins_with v xs ≡ true → Contains xs v
begins_in v [] h = cc
begins_in v (x ∷ xs) h = contains_here x xs v (is_eq-Equal v x h)

-- a list with v, of which nothing is below v, begins with it
in_begins : (v : Value) (xs : List Value) → Rises Below xs → Contains xs v → Merges.begins_with v (Merges.from_value v xs) ≡ true
in_begins v [] h m = absurd (contains_none v m)
in_begins v (x ∷ xs) h m = from_cases v x xs (λ r. Merges.begins_with v r ≡ true)
    (λ b. in_begins v xs h.1 (⊎_elim (λ e. absurd (not_below v (subst (λ z. Below z v) e b))) (λ n. n) (contains_cases x xs v m)))
    (λ b. ⊎_elim (λ e. ap is_eq (ap (λ z. compare z v) e ∙ reflexive v)) (λ n. absurd (b (h.0 v n))) (contains_cases x xs v m))
    (compare x v) refl

pub begins : (v : Value) (xs : List Value) → Rises Below xs → (Merges.begins_with v (Merges.from_value v xs) ≡ true) ↔ Contains xs v
begins v xs h = (λ b. from_in v xs v (begins_in v (Merges.from_value v xs) b), in_begins v xs h)

-- ---- the rest after a value

after_cases : (v x : Value) (xs : List Value) (P : List Value → Type 0) → (x ≡ v → P xs) → P (x ∷ xs) → (o : Ordering) → compare x v ≡ o → P (if is_eq (compare x v) then xs else (x ∷ xs))
after_cases v x xs P f g Less e = rw e g
after_cases v x xs P f g Equal e = rw e (f (exact x v e))
after_cases v x xs P f g Greater e = rw e g

after_in : (v : Value) (xs : List Value) (w : Value) → Contains (Merges.after_value v xs) w → Contains xs w
after_in v [] w m = m
after_in v (x ∷ xs) w m = after_cases v x xs (λ r. Contains r w → Contains (x ∷ xs) w) (λ e n. contains_there x xs w n) (λ n. n) (compare x v) refl m

in_after : (v : Value) (xs : List Value) (w : Value) → Contains xs w → (v ≡ w) ⊎ Contains (Merges.after_value v xs) w
in_after v [] w m = inr m
in_after v (x ∷ xs) w m = after_cases v x xs (λ r. (v ≡ w) ⊎ Contains r w) (λ e. ⊎_elim (λ f. inl (sym e ∙ f)) inr (contains_cases x xs w m)) (inr m) (compare x v) refl

after_rises : (v : Value) (xs : List Value) → Rises Below xs → Rises Below (Merges.after_value v xs)
after_rises v [] h = tt
after_rises v (x ∷ xs) h = after_cases v x xs (Rises Below) (λ e. h.1) h (compare x v) refl

-- what is left after v is above it
after_first : (v x : Value) (xs : List Value) → Rises Below (x ∷ xs) → (Below x v → ⊥) → (o : Ordering) → compare x v ≡ o → (w : Value) → Contains (if is_eq (compare x v) then xs else (x ∷ xs)) w → Below v w
after_first v x xs h n Less e w m = absurd (n e)
after_first v x xs h n Equal e w m = subst (λ z. Below z w) (exact x v e) (h.0 w (rw e at m))
after_first v x xs h n Greater e w m =
    let k : Contains (x ∷ xs) w = rw e at m in
    ⊎_elim (λ f. subst (Below v) f (above x v e)) (λ o. transitive v x w (above x v e) (h.0 w o)) (contains_cases x xs w k)

after_above : (v : Value) (xs : List Value) → Rises Below xs → (w : Value) → Contains (Merges.after_value v (Merges.from_value v xs)) w → Below v w
after_above v [] h w m = absurd (contains_none w m)
after_above v (x ∷ xs) h w m = from_cases v x xs (λ r. Contains (Merges.after_value v r) w → Below v w) (λ b. after_above v xs h.1 w) (λ b. after_first v x xs h b (compare x v) refl w) (compare x v) refl m

-- ---- a union

merged_in : (xs ys : List Value) (v : Value) → Contains (Merges.merged xs ys) v → InUnion xs ys v
merged_in [] ys v m = inr m
merged_in (x ∷ xs) ys v m = ⊎_elim
    (λ n. inr (below_in x ys v n))
    (λ n. ⊎_elim (λ e. inl (contains_here x xs v e))
    (λ o. ⊎_elim (λ p. inl (contains_there x xs v p)) (λ p. inr (from_in x ys v (after_in x (Merges.from_value x ys) v p)))
    (merged_in xs (Merges.after_value x (Merges.from_value x ys)) v o))
    (contains_cases x (Merges.merged xs (Merges.after_value x (Merges.from_value x ys))) v n))
    (Contains-append_cases (Merges.below x ys) (x ∷ Merges.merged xs (Merges.after_value x (Merges.from_value x ys))) v m)

in_merged : (xs ys : List Value) (v : Value) → InUnion xs ys v → Contains (Merges.merged xs ys) v
in_merged [] ys v m = ⊎_elim (λ n. absurd (contains_none v n)) (λ n. n) m
in_merged (x ∷ xs) ys v m =
    let rest = Merges.merged xs (Merges.after_value x (Merges.from_value x ys)) in
    let later : Contains (x ∷ rest) v → Contains (Merges.merged (x ∷ xs) ys) v = Contains-append_right (Merges.below x ys) (x ∷ rest) v in
    ⊎_elim
    (λ n. later (⊎_elim (λ e. contains_here x rest v e) (λ o. contains_there x rest v (in_merged xs (Merges.after_value x (Merges.from_value x ys)) v (inl o))) (contains_cases x xs v n)))
    (λ n. ⊎_elim (Contains-append_left (Merges.below x ys) (x ∷ rest) v)
    (λ o. later (⊎_elim (λ e. contains_here x rest v e) (λ p. contains_there x rest v (in_merged xs (Merges.after_value x (Merges.from_value x ys)) v (inr p))) (in_after x (Merges.from_value x ys) v o)))
    (Contains-append_cases (Merges.below x ys) (Merges.from_value x ys) v (subst (λ zs. Contains zs v) (sym (below_split x ys)) n)))
    m

merged_rises : (xs ys : List Value) → Rises Below xs → Rises Below ys → Rises Below (Merges.merged xs ys)
merged_rises [] ys h k = k
merged_rises (x ∷ xs) ys h k =
    let left = Merges.after_value x (Merges.from_value x ys) in
    let above_x : (w : Value) → Contains (Merges.merged xs left) w → Below x w = λ w m. ⊎_elim (h.0 w) (after_above x ys k w) (merged_in xs left w m) in
    rises_append Below (Merges.below x ys) (x ∷ Merges.merged xs left)
    (below_rises x ys k)
    (above_x, merged_rises xs left h.1 (after_rises x (Merges.from_value x ys) (from_rises x ys k)))
    (λ u w m n. ⊎_elim (λ e. subst (Below u) e (below_below x ys u m)) (λ o. transitive u x w (below_below x ys u m) (above_x w o)) (contains_cases x (Merges.merged xs left) w n))

pub merged_set : (xs ys : List Value) → is_ascending xs ≡ true → is_ascending ys ≡ true → IsSetOf (InUnion xs ys) (Merges.merged xs ys)
merged_set xs ys h k = set_from (InUnion xs ys) (Merges.merged xs ys) (merged_rises xs ys (rises xs h) (rises ys k)) (λ v. (merged_in xs ys v, in_merged xs ys v))

-- ---- the values whose key is in a list, or is not

abbrev pub Meets : Bool → Option Value → List Value → Type 0
Meets keep None rest = ⊥
Meets true (Some k) rest = Contains rest k
Meets false (Some k) rest = ¬ Contains rest k

abbrev pub Upto : Option Value → Option Value → Type 0
Upto None p = Unit {0}
Upto (Some k) None = Unit {0}
Upto (Some k) (Some l) = (k ≡ l) ⊎ Below k l

pub not_false : (b : Bool) → not b ≡ true → b ≡ true → ⊥
not_false true h k = cc
not_false false h k = cc

pub not_true : (b : Bool) → (b ≡ true → ⊥) → not b ≡ true
not_true true h = absurd (h refl)
not_true false h = refl

passes_meets : (keep : Bool) (o : Option Value) (rest : List Value) → Rises Below rest → (Merges.passes keep o (Merges.rest_at o rest) ≡ true) ↔ Meets keep o rest
passes_meets true None rest h = (λ e. cc, λ m. absurd m)
passes_meets false None rest h = (λ e. cc, λ m. absurd m)
passes_meets true (Some k) rest h = begins k rest h
passes_meets false (Some k) rest h = (
  λ e m. not_false (Merges.begins_with k (Merges.from_value k rest)) e ((begins k rest h).1 m),
  λ n. not_true (Merges.begins_with k (Merges.from_value k rest)) (λ b. n ((begins k rest h).0 b)),
)

not_under : (k l : Value) → (k ≡ l) ⊎ Below k l → Below l k → ⊥
not_under k l u b = ⊎_elim (λ e. not_below k (subst (λ z. Below z k) (sym e) b)) (λ c. not_both_below k l c b) u

meets_later : (keep : Bool) (o p : Option Value) (rest : List Value) → Upto o p → Meets keep p (Merges.rest_at o rest) ↔ Meets keep p rest
meets_later keep None p rest u = (λ m. m, λ m. m)
meets_later keep (Some k) None rest u = (λ m. m, λ m. m)
meets_later true (Some k) (Some l) rest u = (from_in k rest l, λ m. in_from k rest l m (not_under k l u))
meets_later false (Some k) (Some l) rest u = (λ n m. n (in_from k rest l m (not_under k l u)), λ n m. n (from_in k rest l m))

rest_rises : (o : Option Value) (rest : List Value) → Rises Below rest → Rises Below (Merges.rest_at o rest)
rest_rises None rest h = h
rest_rises (Some k) rest h = from_rises k rest h

module _ (key : Value → Option Value) (keep : Bool) where
  kept_in : (vs rest : List Value) (v : Value) → Contains (Merges.kept key keep vs rest) v → Contains vs v
  kept_in [] rest v m = absurd (contains_none v m)
  kept_in (x ∷ vs) rest v m =
      let r = Merges.rest_at (key x) rest in
      ⊎_elim (λ e. contains_here x vs v e.0) (λ n. contains_there x vs v (kept_in vs r v n)) (filter_split x (Merges.kept key keep vs r) (Merges.passes keep (key x) r) v m)

  kept_rises : (vs rest : List Value) → Rises Below vs → Rises Below (Merges.kept key keep vs rest)
  kept_rises [] rest h = tt
  kept_rises (x ∷ vs) rest h =
      let r = Merges.rest_at (key x) rest in
      filter_rises Below x (Merges.kept key keep vs r) (Merges.passes keep (key x) r) (λ y m. h.0 y (kept_in vs r y m)) (kept_rises vs r h.1)

  kept_members : ((v w : Value) → Below v w → Upto (key v) (key w)) → (vs rest : List Value) → Rises Below vs → Rises Below rest → (v : Value) → Contains (Merges.kept key keep vs rest) v ↔ (Contains vs v × Meets keep (key v) rest)
  kept_members mono [] rest h k v = (λ m. absurd (contains_none v m), λ m. absurd (contains_none v m.0))
  kept_members mono (x ∷ vs) rest h k v =
      let r = Merges.rest_at (key x) rest in
      let later = kept_members mono vs r h.1 (rest_rises (key x) rest k) v in (
        λ m. ⊎_elim
            (λ e. (contains_here x vs v e.0, subst (λ z. Meets keep (key z) rest) e.0 ((passes_meets keep (key x) rest k).0 e.1)))
            (λ n. let t = later.0 n in (contains_there x vs v t.0, (meets_later keep (key x) (key v) rest (mono x v (h.0 v t.0))).0 t.1))
            (filter_split x (Merges.kept key keep vs r) (Merges.passes keep (key x) r) v m),
        λ m. filter_join x (Merges.kept key keep vs r) (Merges.passes keep (key x) r) v (⊎_elim
            (λ e. inl (e, (passes_meets keep (key x) rest k).1 (subst (λ z. Meets keep (key z) rest) (sym e) m.1)))
            (λ n. inr (later.1 (n, (meets_later keep (key x) (key v) rest (mono x v (h.0 v n))).1 m.1)))
            (contains_cases x vs v m.0)),
      )

  pub kept_set : ((v w : Value) → Below v w → Upto (key v) (key w)) → (vs rest : List Value) → is_ascending vs ≡ true → is_ascending rest ≡ true → IsSetOf (λ v. Contains vs v × Meets keep (key v) rest) (Merges.kept key keep vs rest)
  kept_set mono vs rest h k = set_from (λ v. Contains vs v × Meets keep (key v) rest) (Merges.kept key keep vs rest) (kept_rises vs rest (rises vs h)) (kept_members mono vs rest (rises vs h) (rises rest k))

-- a value is its own key
pub itself_set : (keep : Bool) (vs rest : List Value) → is_ascending vs ≡ true → is_ascending rest ≡ true → IsSetOf (λ v. Contains vs v × Meets keep (Some v) rest) (Merges.kept (Merges.key_of Itself) keep vs rest)
itself_set keep = kept_set (Merges.key_of Itself) keep (λ v w b. inr b)

pub meet_set : (xs ys : List Value) → is_ascending xs ≡ true → is_ascending ys ≡ true → IsSetOf (InMeet xs ys) (Merges.kept (Merges.key_of Itself) true xs ys)
meet_set = itself_set true

pub minus_set : (xs ys : List Value) → is_ascending xs ≡ true → is_ascending ys ≡ true → IsSetOf (InMinus xs ys) (Merges.kept (Merges.key_of Itself) false xs ys)
minus_set = itself_set false
