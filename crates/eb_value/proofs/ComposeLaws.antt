-- What the composition of relations has.
use Rattle.std.proofs.Common.{◌≡◌, ◌∙◌, ℕ, suc, ◌+◌, ◌≤◌, ◌↔◌, ⊎_elim, inl, inr, ◌⊎◌, Bool, true, false, cond, List, [], ◌∷◌, ◌++◌, map, take, length, Option, Some, None, refl, sym, ap, subst, arith}
use Rattle.std.specs.Prelude.{take_while}
use Rattle.std.specs.List.{Contains}
use Rattle.std.proofs.lemmas.List.Elements.{Contains-append_cases, Contains-append_left, Contains-append_right}
use Rattle.std.proofs.lemmas.List.Sums.{take_while-cons, prefix_len-le-length}
use Rattle.std.proofs.lemmas.List.{length-take}
use Rattle.std.specs.List.{prefix_len}
use Rattle.eb_value.specs.declared.value.Value.{Value}
use Rattle.eb_value.specs.Values.{pair}
use Rattle.eb_value.specs.Sets.{IsSetOf}
use Rattle.eb_value.specs.Relations
use Rattle.eb_value.specs.steps.Merges.{first_of, second_of, same_key}
use Rattle.eb_value.specs.steps.Joins
use Rattle.eb_value.proofs.Members.{contains_none, contains_cases}
use Rattle.eb_value.proofs.Ascending.{contains_map, map_contains}
use Rattle.eb_value.proofs.MergeLaws.{same_set, is_eq-Equal}
use Rattle.eb_value.proofs.PairLaws.{first_of-pair, second_of-pair, with_first, with_second, same_some, contains_filter_map, filter_map_contains, contains_flat_map, flat_map_contains}
use Rattle.eb_value.proofs.ProductLaws.{image_in, in_image}

-- ---- the ends of a run

pair_by : (w y z : Value) → first_of w ≡ Some y → second_of w ≡ Some z → w ≡ pair y z
pair_by w y z h k = let p = with_first w y h in p.1 ∙ ap (pair y) (same_some p.0 z (sym (second_of-pair y p.0) ∙ ap second_of (sym p.1) ∙ k))

behind_has : (s : List Value) (o : Option Value) (z : Value) → Contains (Joins.ends_behind s o) z → (y : Value) × (o ≡ Some y) × Relations.Relates s y z
behind_has s None z m = absurd (contains_none z m)
behind_has s (Some y) z m =
    let f = contains_filter_map second_of (Joins.images y s) z m in
    let i = image_in y s f.0 f.1 in
    (y, refl, subst (Contains s) (pair_by f.0 y z i.1 f.2) i.0)

ends_has : (run s : List Value) (z : Value) → Contains (Joins.ends s run) z ↔ Joins.InEnds run s z
ends_has run s z = (
  λ m. let f = contains_flat_map (λ v. Joins.ends_behind s (second_of v)) run z m in
      let e = behind_has s (second_of f.0) z f.2 in
      let p = with_second f.0 e.0 e.1 in
      (p.0, e.0, subst (Contains run) p.1 f.1, e.2),
  λ m. flat_map_contains (λ v. Joins.ends_behind s (second_of v)) run (pair m.0 m.1) z m.2
      (subst (λ o. Contains (Joins.ends_behind s o) z) (sym (second_of-pair m.0 m.1))
      (filter_map_contains second_of (Joins.images m.1 s) (pair m.1 z) z (in_image m.1 s (pair m.1 z) m.3 (first_of-pair m.1 z)) (second_of-pair m.1 z))),
)

pub ends_set : (run s all : List Value) → IsSetOf (Contains (Joins.ends s run)) all → IsSetOf (Joins.InEnds run s) all
ends_set run s all = same_set (Contains (Joins.ends s run)) (Joins.InEnds run s) all (ends_has run s)

-- ---- what a run composes to

same_first : (value a b : Value) (run : List Value) (o : Option Value) → first_of value ≡ o → Joins.HaveFirstOf value run → Contains run (pair a b) → Some a ≡ o
same_first value a b run o f same m = sym (first_of-pair a b) ∙ same (pair a b) m ∙ f

run_composes : (value x : Value) (run s zs : List Value) → first_of value ≡ Some x → Joins.HaveFirstOf value run → IsSetOf (Joins.InEnds run s) zs → (v : Value) → Contains (map (pair x) zs) v ↔ Relations.InCompose run s v
run_composes value x run s zs f same e v = (
  λ m. let g = contains_map (pair x) zs v m in
      let i = (e.members g.0).0 g.1 in
      let k : i.0 ≡ x = same_some i.0 x (same_first value i.0 i.1 run (Some x) f same i.2) in
      (x, i.1, g.0, sym g.2, subst (λ a. Relations.Relates run a i.1) k i.2, i.3),
  λ m. let k : m.0 ≡ x = same_some m.0 x (same_first value m.0 m.1 run (Some x) f same m.4) in
      subst (Contains (map (pair x) zs)) (ap (λ a. pair a m.2) (sym k) ∙ sym m.3) (map_contains (pair x) zs m.2 ((e.members m.2).1 (m.0, m.1, m.4, m.5))),
)

pub run_added : (value x : Value) (run s zs old new : List Value) → first_of value ≡ Some x → Joins.HaveFirstOf value run → IsSetOf (Joins.InEnds run s) zs → new ≡ old ++ map (pair x) zs → (v : Value) → Contains new v ↔ (Contains old v ⊎ Relations.InCompose run s v)
run_added value x run s zs old new f same e is v = (
  λ m. ⊎_elim inl (λ n. inr ((run_composes value x run s zs f same e v).0 n)) (Contains-append_cases old (map (pair x) zs) v (subst (λ ys. Contains ys v) is m)),
  λ m. subst (λ ys. Contains ys v) (sym is) (⊎_elim (Contains-append_left old (map (pair x) zs) v) (λ n. Contains-append_right old (map (pair x) zs) v ((run_composes value x run s zs f same e v).1 n)) m),
)

pub run_empty : (value : Value) (run s old new : List Value) → first_of value ≡ None → Joins.HaveFirstOf value run → new ≡ old → (v : Value) → Contains new v ↔ (Contains old v ⊎ Relations.InCompose run s v)
run_empty value run s old new f same is v = (
  λ m. inl (subst (λ ys. Contains ys v) is m),
  λ m. ⊎_elim (subst (λ ys. Contains ys v) (sym is)) (λ n. absurd (let e : Some n.0 ≡ None = same_first value n.0 n.1 run None f same n.4 in cc)) m,
)

-- ---- run by run

abbrev pub Composes : List Value → List Value → List Value → List Value → Type 0
Composes r s all rest = (v : Value) → (Contains all v ⊎ Relations.InCompose rest s v) ↔ Relations.InCompose r s v

composes_apart : (run after s : List Value) (v : Value) → Relations.InCompose (run ++ after) s v ↔ (Relations.InCompose run s v ⊎ Relations.InCompose after s v)
composes_apart run after s v = (
  λ m. ⊎_elim (λ n. inl (m.0, m.1, m.2, m.3, n, m.5)) (λ n. inr (m.0, m.1, m.2, m.3, n, m.5)) (Contains-append_cases run after (pair m.0 m.1) m.4),
  λ m. ⊎_elim (λ n. (n.0, n.1, n.2, n.3, Contains-append_left run after (pair n.0 n.1) n.4, n.5)) (λ n. (n.0, n.1, n.2, n.3, Contains-append_right run after (pair n.0 n.1) n.4, n.5)) m,
)

pub composes_none : (r s : List Value) → Composes r s [] r
composes_none r s v = (λ m. ⊎_elim (λ n. absurd (contains_none v n)) (λ n. n) m, inr)

pub composes_on : (r s run after rest old new : List Value) → run ++ after ≡ rest → ((v : Value) → Contains new v ↔ (Contains old v ⊎ Relations.InCompose run s v)) → Composes r s old rest → Composes r s new after
composes_on r s run after rest old new split added h v =
    let apart : (Relations.InCompose rest s v) ↔ (Relations.InCompose run s v ⊎ Relations.InCompose after s v) = subst (λ z. Relations.InCompose z s v ↔ (Relations.InCompose run s v ⊎ Relations.InCompose after s v)) split (composes_apart run after s v) in (
      λ m. (h v).0 (⊎_elim (λ n. ⊎_elim inl (λ k. inr (apart.1 (inl k))) ((added v).0 n)) (λ n. inr (apart.1 (inr n))) m),
      λ m. ⊎_elim (λ n. inl ((added v).1 (inl n))) (λ n. ⊎_elim (λ k. inl ((added v).1 (inr k))) inr (apart.0 n)) ((h v).1 m),
    )

pub compose_set : (r s all result : List Value) → Composes r s all [] → IsSetOf (Contains all) result → IsSetOf (Relations.InCompose r s) result
compose_set r s all result h = same_set (Contains all) (Relations.InCompose r s) result
    (λ v. (λ m. (h v).0 (inl m), λ m. ⊎_elim (λ n. n) (λ n. absurd (contains_none (pair n.0 n.1) n.4)) ((h v).1 m)))

-- ---- where a run ends

passes_by : {A : Type 0} (p : A → Bool) (x : A) (xs : List A) (w : A) (b : Bool) → p x ≡ b → (Contains (take (length (take_while p xs)) xs) w → p w ≡ true) → Contains (take (length (cond b (x ∷ take_while p xs) [])) (x ∷ xs)) w → p w ≡ true
passes_by p x xs w true e later m = ⊎_elim (λ k. ap p (sym k) ∙ e) later (contains_cases x (take (length (take_while p xs)) xs) w m)
passes_by p x xs w false e later m = absurd (contains_none w m)

run_passes : {A : Type 0} (p : A → Bool) (xs : List A) (w : A) → Contains (take (length (take_while p xs)) xs) w → p w ≡ true
run_passes p [] w m = absurd (contains_none w m)
run_passes p (x ∷ xs) w m = passes_by p x xs w (p x) refl (run_passes p xs w) (subst (λ ys. Contains (take (length ys) (x ∷ xs)) w) (take_while-cons p x xs) m)

pub run_bound : {A : Type 0} (p : A → Bool) (xs : List A) → length (take_while p xs) ≤ length xs
run_bound p xs = rw (length-take (prefix_len p xs) xs) (omega (arith, prefix_len-le-length p xs))

keys_agree : (o p : Option Value) → same_key o p ≡ true → p ≡ o
keys_agree None p h = cc
keys_agree (Some a) None h = cc
keys_agree (Some a) (Some b) h = ap Some (sym (is_eq-Equal b a h))

pub runs_have_first : (value : Value) (others run : List Value) (k : ℕ) → k ≡ length (take_while (Joins.has_first_of value) others) → run ≡ value ∷ take k others → Joins.HaveFirstOf value run
runs_have_first value others run k is r w m = ⊎_elim (λ e. ap first_of (sym e))
    (λ n. keys_agree (first_of value) (first_of w) (run_passes (Joins.has_first_of value) others w (subst (λ n. Contains (take n others) w) is n)))
    (contains_cases value (take k others) w (subst (λ ys. Contains ys w) r m))

-- the front of a list with a run of this length
pub run_front : (rest others run : List Value) (value : Value) (k : ℕ) → rest ≡ value ∷ others → run ≡ take (k + 1) rest → run ≡ value ∷ take k others
run_front rest others run value k whole is =
    let e : k + 1 ≡ suc k = omega arith in
    is ∙ ap (take (k + 1)) whole ∙ ap (λ n. take n (value ∷ others)) e
