-- Narrow form refers to no other places than the term.
use Rattle.std.proofs.Common.{◌≡◌, refl, sym, subst, ℕ, zero, suc, ◌<◌, List, [], ◌∷◌, ◌++◌, length, map, arith, rules}
use Rattle.std.specs.Prelude.{get_or}
use Rattle.std.specs.List.{AllByRecursion, Contains, flat_map}
use Rattle.eb_value.specs.declared.types.EbType.{EbType}
use Rattle.eb_value.specs.declared.value.Value.{Value}
use Rattle.eb_term.specs.declared.operators.Unary.{Unary}
use Rattle.eb_term.specs.declared.operators.Binary.{Binary}
use Rattle.eb_term.specs.declared.operators.Many.{Many}
use Rattle.eb_term.specs.declared.operators.Binder.{Binder}
use Rattle.eb_term.specs.declared.operators.Side.{Side}
use Rattle.eb_term.specs.declared.term.Term.{Term}
use Rattle.eb_term.specs.declared.term.Head.{the_lemmas}
use Rattle.eb_term.specs.Terms as term
use Rattle.eb_term.specs.Leaves.{references, references_step}
use Rattle.eb_narrow.specs.Narrow.{narrowed}
use Rattle.narrow_typing.proofs.Built.{all_joined}
use Rattle.narrow_typing.proofs.Shifted.{kept}
use Rattle.narrow_typing.proofs.Keeping.{Closed}
use Rattle.narrow_typing.proofs.KeepingParts.{Splits, narrowed_keeps}

-- ---- what is in a list

contains_here : {A : Type 0} (x : A) (xs : List A) → Contains (x ∷ xs) x
contains_here x xs = (0, omega arith, refl)

contains_there : {A : Type 0} (x : A) (xs : List A) (v : A) → Contains xs v → Contains (x ∷ xs) v
contains_there x xs v h = let l : h.0 < length xs = h.1 in (suc h.0, omega arith, h.2)

each_of : {A : Type 0} (P : A → Type 0) (xs : List A) → ((v : A) → Contains xs v → P v) → AllByRecursion P xs
each_of P [] h = tt
each_of P (x ∷ xs) h = (h x (contains_here x xs), each_of P xs (λ v m. h v (contains_there x xs v m)))

at_place : {A : Type 0} (P : A → Type 0) (xs : List A) (v : A) (k : ℕ) → AllByRecursion P xs → k < length xs → get_or xs k v ≡ v → P v
at_place P [] v k h l e = let none : k < 0 = l in absurd (omega arith)
at_place P (x ∷ xs) v zero h l e = subst P e h.0
at_place P (x ∷ xs) v (suc k) h l e = at_place P xs v k h.1 (omega arith) e

any_of : {A : Type 0} (P : A → Type 0) (xs : List A) (v : A) → AllByRecursion P xs → Contains xs v → P v
any_of P xs v h m = at_place P xs v m.0 h m.1 m.2

first_part : {A : Type 0} (P : A → Type 0) (xs ys : List A) → AllByRecursion P (xs ++ ys) → AllByRecursion P xs
first_part P [] ys h = tt
first_part P (x ∷ xs) ys h = (h.0, first_part P xs ys h.1)

second_part : {A : Type 0} (P : A → Type 0) (xs ys : List A) → AllByRecursion P (xs ++ ys) → AllByRecursion P ys
second_part P [] ys h = h
second_part P (x ∷ xs) ys h = second_part P xs ys h.1

-- ---- the references of a term by its parts

places-unary : (o : Unary) (a : Term) → references (term.unary o a) ≡ references a
places-unary o a = search (rules, the_lemmas)

places-binary : (o : Binary) (a b : Term) → references (term.binary o a b) ≡ references a ++ references b
places-binary o a b = search (rules, the_lemmas)

places-many : (o : Many) (es : List Term) → references (term.many o es) ≡ flat_map (λ e. e) (map references es)
places-many o es = search (rules, the_lemmas)

places-over : (o : Binder) (a b : Term) → references (term.over o a b) ≡ references a ++ references b
places-over o a b = search (rules, the_lemmas)

places-all : (o : Binder) (t : EbType) (b : Term) → references (term.all o t b) ≡ references b
places-all o t b = search (rules, the_lemmas)

none-truth : (b : _) → references (term.truth b) ≡ []
none-truth b = search (rules, the_lemmas)

none-literal : (v : Value) (t : EbType) → references (term.literal v t) ≡ []
none-literal v t = search (rules, the_lemmas)

none-variable : (k : ℕ) (path : List Side) (t : EbType) → references (term.variable k path t) ≡ []
none-variable k path t = search (rules, the_lemmas)

module _ (P : ℕ → Type 0) where
  -- each place that the term refers to is one of these
  abbrev Within : Term → Type 0
  Within t = AllByRecursion P (references t)

  moved : (xs ys : List ℕ) → xs ≡ ys → AllByRecursion P ys → AllByRecursion P xs
  moved xs ys e h = subst (AllByRecursion P) (sym e) h

  joined : (es : List Term) → AllByRecursion Within es → AllByRecursion P (flat_map (λ e. e) (map references es))
  joined [] h = tt
  joined (e ∷ es) h = all_joined P (references e) (flat_map (λ e. e) (map references es)) h.0 (joined es h.1)

  parted : (es : List Term) → AllByRecursion P (flat_map (λ e. e) (map references es)) → AllByRecursion Within es
  parted [] h = tt
  parted (e ∷ es) h =
      let rest : List ℕ = flat_map (λ e. e) (map references es) in
      (first_part P (references e) rest h, parted es (second_part P (references e) rest h))

  closed : Closed Within
  closed = record {
    truth = λ b. moved _ [] (none-truth b) tt;
    literal = λ v t. moved _ [] (none-literal v t) tt;
    variable = λ k path t. moved _ [] (none-variable k path t) tt;
    unary = λ o a h. moved _ (references a) (places-unary o a) h;
    binary = λ o a b h k. moved _ (references a ++ references b) (places-binary o a b) (all_joined P (references a) (references b) h k);
    many = λ o es h. moved _ (flat_map (λ e. e) (map references es)) (places-many o es) (joined es h);
    over = λ o a b h k. moved _ (references a ++ references b) (places-over o a b) (all_joined P (references a) (references b) h k);
    all = λ o t b h. moved _ (references b) (places-all o t b) h;
    shifted = λ from by a h. moved _ (references a) (kept (List ℕ) references_step (λ j k path t. refl) from by a) h;
  }

  splits : Splits Within closed
  splits = record {
    unary = λ o a h. moved _ _ (sym (places-unary o a)) h;
    left = λ o a b h. first_part P (references a) (references b) (moved _ _ (sym (places-binary o a b)) h);
    right = λ o a b h. second_part P (references a) (references b) (moved _ _ (sym (places-binary o a b)) h);
    many = λ o es h. parted es (moved _ _ (sym (places-many o es)) h);
    range = λ o a b h. first_part P (references a) (references b) (moved _ _ (sym (places-over o a b)) h);
    body = λ o a b h. second_part P (references a) (references b) (moved _ _ (sym (places-over o a b)) h);
    all = λ o t b h. moved _ _ (sym (places-all o t b)) h;
  }

  pub narrow_within : (t : Term) (d : ℕ) → AllByRecursion P (references t) → AllByRecursion P (references ((narrowed t).term d))
  narrow_within t d h = (narrowed_keeps Within closed splits t h).term d

pub narrow_refers : (t : Term) (d number : ℕ) → Contains (references ((narrowed t).term d)) number → Contains (references t) number
narrow_refers t d number m =
    any_of (Contains (references t)) (references ((narrowed t).term d)) number
    (narrow_within (Contains (references t)) t d (each_of (Contains (references t)) (references t) (λ v m. m))) m
