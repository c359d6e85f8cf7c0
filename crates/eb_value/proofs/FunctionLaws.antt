-- Function application.
use Rattle.std.proofs.Common.{◌≡◌, ◌∙◌, ◌↔◌, ⊎_elim, inl, inr, ◌⊎◌, Bool, true, false, not, ◌&&◌, if◌then◌else◌, List, [], ◌∷◌, Option, Some, None, IsNone, IfSome, Bor, refl, sym, ap, subst}
use Rattle.std.specs.List.{Contains}
use Rattle.std.specs.Option.{option_copied}
use Rattle.std.specs.Cmp.{second_so}
use Rattle.std.specs.declared.cmp.Ordering.TheVariants.{Equal}
use Rattle.eb_value.specs.declared.value.Value.{Value}
use Rattle.eb_value.specs.Values.{pair, is_ascending}
use Rattle.eb_value.specs.Relations
use Rattle.eb_value.specs.steps.Merges
use Rattle.eb_value.specs.steps.Merges.{first_of, second_of}
use Rattle.eb_value.specs.steps.Joins
use Rattle.eb_value.specs.Comprehensions as set
use Rattle.eb_value.proofs.OrderLaws.{reflexive}
use Rattle.eb_value.proofs.ComprehensionLaws.{functional_by, apply_is}
use Rattle.eb_value.proofs.Members.{contains_none, contains_cases, contains_here, contains_there}
use Rattle.eb_value.proofs.Ascending.{Rises, Below, not_below, rises, first_true}
use Rattle.eb_value.proofs.MergeLaws.{is_eq-Equal}
use Rattle.eb_value.proofs.PairLaws.{first_of-pair, second_of-pair, with_first, same_pair}
use Rattle.eb_value.proofs.ProductLaws.{side_between, side_equal, equal_side, image_in, in_image}

key_same : (a : Value) (o p : Option Value) → o ≡ Some a → p ≡ Some a → Merges.same_key o p ≡ true
key_same a o p h k = rw (h, k, reflexive a) refl

same_key_is : (o p : Option Value) → Merges.same_key o p ≡ true → (a : Value) × (o ≡ Some a) × (p ≡ Some a)
same_key_is None p h = cc
same_key_is (Some a) None h = cc
same_key_is (Some a) (Some b) h = (a, refl, ap Some (sym (is_eq-Equal b a h)))

not_so : (b : Bool) → not b ≡ true → b ≡ true → ⊥
not_so true h k = cc
not_so false h k = cc

-- no later pair has the first of the first one
apart : (v : Value) (vs : List Value) → Rises Below (v ∷ vs) → Joins.is_functional (v ∷ vs) ≡ true → (a : Value) → first_of v ≡ Some a → (w : Value) → Contains vs w → first_of w ≡ Some a → ⊥
apart v [] h f a e w m k = contains_none w m
apart v (u ∷ vs) h f a e w m k =
    let differ = not_so (Merges.same_key (first_of v) (first_of u)) (first_true (not (Merges.same_key (first_of v) (first_of u))) (Joins.is_functional (u ∷ vs)) f) in
    ⊎_elim
    (λ same. differ (key_same a (first_of v) (first_of u) e (ap first_of same ∙ k)))
    (λ later.
    let between : Joins.side a u ≡ Equal = side_between a v u w (h.0 u (contains_here u vs u refl)) (h.1.0 w later) (equal_side a v e) (equal_side a w k) in
    differ (key_same a (first_of v) (first_of u) e (side_equal a u between)))
    (contains_cases u vs w m)

tail_functional : (v : Value) (vs : List Value) → Joins.is_functional (v ∷ vs) ≡ true → Joins.is_functional vs ≡ true
tail_functional v [] f = refl
tail_functional v (u ∷ vs) f = second_so (not (Merges.same_key (first_of v) (first_of u))) (Joins.is_functional (u ∷ vs)) f

pub one_second : (f : List Value) → Rises Below f → Joins.is_functional f ≡ true → (x y z : Value) → Relations.Relates f x y → Relations.Relates f x z → y ≡ z
one_second [] h g x y z m n = absurd (contains_none (pair x y) m)
one_second (v ∷ vs) h g x y z m n =
    ⊎_elim
    (λ e. ⊎_elim
    (λ d. let p = same_pair x y x z (sym e ∙ d) in p.1)
    (λ o. absurd (apart v vs h g x (ap first_of e ∙ first_of-pair x y) (pair x z) o (first_of-pair x z)))
    (contains_cases v vs (pair x z) n))
    (λ q. ⊎_elim
    (λ d. absurd (apart v vs h g x (ap first_of d ∙ first_of-pair x z) (pair x y) q (first_of-pair x y)))
    (λ o. one_second vs h.1 (tail_functional v vs g) x y z q o)
    (contains_cases v vs (pair x z) n))
    (contains_cases v vs (pair x y) m)

more_ambiguous : (v : Value) (vs : List Value) → Relations.IsAmbiguous vs → Relations.IsAmbiguous (v ∷ vs)
more_ambiguous v vs a = (a.0, a.1, a.2, contains_there v vs (pair a.0 a.1) a.3, contains_there v vs (pair a.0 a.2) a.4, a.5)

-- two neighbours with one first have different seconds
neighbours : (v u : Value) (vs : List Value) → Below v u → Merges.same_key (first_of v) (first_of u) ≡ true → Relations.IsAmbiguous (v ∷ u ∷ vs)
neighbours v u vs b s =
    let k = same_key_is (first_of v) (first_of u) s in
    let p = with_first v k.0 k.1 in
    let q = with_first u k.0 k.2 in (
      k.0,
      p.0,
      q.0,
      contains_here v (u ∷ vs) (pair k.0 p.0) p.1,
      contains_there v (u ∷ vs) (pair k.0 q.0) (contains_here u vs (pair k.0 q.0) q.1),
      λ e. not_below u (subst (λ z. Below z u) (p.1 ∙ ap (pair k.0) e ∙ sym q.1) b),
    )

ambiguous_by : (v u : Value) (vs : List Value) → Below v u → (Joins.is_functional (u ∷ vs) ≡ false → Relations.IsAmbiguous (u ∷ vs)) → (b : Bool) → Merges.same_key (first_of v) (first_of u) ≡ b → (not b && Joins.is_functional (u ∷ vs)) ≡ false → Relations.IsAmbiguous (v ∷ u ∷ vs)
ambiguous_by v u vs below later true e h = neighbours v u vs below e
ambiguous_by v u vs below later false e h = more_ambiguous v (u ∷ vs) (later h)

pub ambiguous : (f : List Value) → Rises Below f → Joins.is_functional f ≡ false → Relations.IsAmbiguous f
ambiguous [] h g = cc
ambiguous (v ∷ []) h g = cc
ambiguous (v ∷ u ∷ vs) h g = ambiguous_by v u vs (h.0 u (contains_here u vs u refl)) (ambiguous (u ∷ vs) h.1) (Merges.same_key (first_of v) (first_of u)) refl g

-- ---- what is applied

-- by the test and the images
module _ (f : List Value) (x : Value) (h : Rises Below f) where
  abbrev Answers : Option Value → Type 0
  Answers o = (IsNone o ↔ (Relations.IsAmbiguous f ⊎ ¬ Relations.InDomain f x)) × IfSome o (λ y. Relations.Relates f x y)

  no_image : Joins.images x f ≡ [] → ¬ Relations.InDomain f x
  no_image e d = contains_none (pair x d.0) (subst (λ xs. Contains xs (pair x d.0)) e (in_image x f (pair x d.0) d.1 (first_of-pair x d.0)))

  by_images : Joins.is_functional f ≡ true → (vs : List Value) → Joins.images x f ≡ vs → Answers (Joins.second_of_front vs)
  by_images g [] e = ((λ n. inr (no_image e), λ a. refl), tt)
  by_images g (v ∷ vs) e =
      let m = image_in x f v (subst (λ xs. Contains xs v) (sym e) (contains_here v vs v refl)) in
      let p = with_first v x m.1 in
      let related : Relations.Relates f x p.0 = subst (Contains f) p.1 m.0 in
      subst Answers (sym (ap second_of p.1 ∙ second_of-pair x p.0))
      ((λ n. cc, λ a. absurd (⊎_elim (λ b. b.5 (one_second f h g b.0 b.1 b.2 b.3 b.4)) (λ n. n (p.0, related)) a)), related)

  by_test : (b : Bool) → Joins.is_functional f ≡ b → Answers (if b then Joins.second_of_front (Joins.images x f) else None)
  by_test true g = by_images g (Joins.images x f) refl
  by_test false g = ((λ n. inl (ambiguous f h g), λ a. refl), tt)

  answers : Answers (Joins.applied f x)
  answers = by_test (Joins.is_functional f) refl

pub applied_none : (f : List Value) (x : Value) (o : Option Value) → is_ascending f ≡ true → o ≡ Joins.applied f x → IsNone o ↔ (Relations.IsAmbiguous f ⊎ ¬ Relations.InDomain f x)
applied_none f x o h e = subst (λ q. IsNone q ↔ (Relations.IsAmbiguous f ⊎ ¬ Relations.InDomain f x)) (sym e) ((answers f x (rises f h)).0)

pub applied_some : (f : List Value) (x : Value) (o : Option Value) → is_ascending f ≡ true → o ≡ Joins.applied f x → IfSome o (λ y. Relations.Relates f x y)
applied_some f x o h e = subst (λ q. IfSome q (λ y. Relations.Relates f x y)) (sym e) ((answers f x (rises f h)).1)

-- the two ways to tell whether a relation is functional
pub functional_is : (f : List Value) → is_ascending f ≡ true → Joins.is_functional f ≡ set.is_functional f
functional_is f h = functional_by f (Joins.is_functional f) (ambiguous f (rises f h)) (one_second f (rises f h))

pub applied_is : (f : List Value) (x : Value) → is_ascending f ≡ true → Joins.applied f x ≡ set.apply f x
applied_is f x h = let a = answers f x (rises f h) in apply_is f x (Joins.applied f x) a.0 a.1

-- the same of an optional reference
pub none_behind : (o : Option (Bor Value)) (P : Type 0) → (IsNone (option_copied o) ↔ P) → (IsNone o ↔ P)
none_behind None P h = h
none_behind (Some b) P h = h

pub some_behind : (o : Option (Bor Value)) (P : Value → Type 0) → IfSome (option_copied o) P → IfSome o (λ y. P y.now)
some_behind None P h = h
some_behind (Some b) P h = h
