-- What a merge of two entries means.
use Rattle.std.proofs.Common.{◌≡◌, ◌∙◌, ℕ, ◌+◌, ◌≤◌, Bool, true, false, nat_eq, cond, [], ◌∷◌, ◌++◌, length, refl, sym, ap, subst, arith}
use Rattle.std.specs.Prelude.{Option, Some, None}
use Rattle.std.proofs.lemmas.Bool.{eqb-true, eqb-false}
use Rattle.eb_value.specs.declared.types.EbType.{EbType}
use Rattle.eb_value.specs.Types.{product, power}
use Rattle.type_equations.specs.declared.store.Entry.{Entry}
use Rattle.type_equations.specs.declared.store.Entry.TheVariants.{Free, Link, Integer, Boolean, Carrier, Product, Power}
use Rattle.type_equations.specs.Stores.{Fits, is_link, IsPlaced}
use Rattle.type_equations.specs.steps.Merging.{Pairs, AreSame, PairsBelow, merge, Gives}
use Rattle.type_equations.proofs.TypeLaws.{kind, kind-integer, kind-boolean, kind-carrier, kind-product, kind-power, product_parts, power_part}

-- no type fits both entries
abbrev pub Clashes : Entry → Entry → Type 0
Clashes first second = (σ : ℕ → EbType) (k : ℕ) → Fits σ k first → Fits σ k second → ⊥

-- the one entry and the pairs say just what the two entries say
pub record Merges (first second one : Entry) (parts : Pairs) : Type 0 where
  pub root : is_link one ≡ false
  pub few : length parts ≤ 2
  pub placed : (n j k : ℕ) → IsPlaced n j first → IsPlaced n k second → IsPlaced n j one
  pub below : (n j k : ℕ) → IsPlaced n j first → IsPlaced n k second → PairsBelow n parts
  pub to : (σ : ℕ → EbType) (k : ℕ) → Fits σ k first → Fits σ k second → Fits σ k one × AreSame σ parts
  pub back : (σ : ℕ → EbType) (k : ℕ) → Fits σ k one → AreSame σ parts → Fits σ k first × Fits σ k second

abbrev pub MergeOf : Entry → Entry → Option (Entry × Pairs) → Type 0
MergeOf first second None = Clashes first second
MergeOf first second (Some m) = Merges first second m.0 m.1

abbrev entry_kind : Entry → ℕ
entry_kind Free = 0
entry_kind (Link other) = 0
entry_kind Integer = 0
entry_kind Boolean = 1
entry_kind (Product first second) = 2
entry_kind (Power members) = 3
entry_kind (Carrier place) = 4 + place

abbrev is_shape : Entry → Bool
is_shape Free = false
is_shape (Link other) = false
is_shape _ = true

fits_kind : (σ : ℕ → EbType) (k : ℕ) (e : Entry) → is_shape e ≡ true → Fits σ k e → kind (σ k) ≡ entry_kind e
fits_kind σ k Free s f = absurd (cc)
fits_kind σ k (Link other) s f = absurd (cc)
fits_kind σ k Integer s f = ap kind f ∙ kind-integer
fits_kind σ k Boolean s f = ap kind f ∙ kind-boolean
fits_kind σ k (Product a b) s f = ap kind f ∙ kind-product (σ a) (σ b)
fits_kind σ k (Power a) s f = ap kind f ∙ kind-power (σ a)
fits_kind σ k (Carrier place) s f = ap kind f ∙ kind-carrier place

clash : (first second : Entry) → is_shape first ≡ true → is_shape second ≡ true → (entry_kind first ≡ entry_kind second → ⊥) → Clashes first second
clash first second a b differ = λ σ k f g. differ (sym (fits_kind σ k first a f) ∙ fits_kind σ k second b g)

-- an entry that says nothing
keeps_second : (second : Entry) → is_link second ≡ false → (n j k : ℕ) → IsPlaced n k second → IsPlaced n j second
keeps_second Free l n j k p = p
keeps_second (Link other) l n j k p = absurd (cc)
keeps_second Integer l n j k p = p
keeps_second Boolean l n j k p = p
keeps_second (Carrier place) l n j k p = p
keeps_second (Product a b) l n j k p = p
keeps_second (Power a) l n j k p = p

free_first : (second : Entry) → is_link second ≡ false → Merges Free second second []
free_first second l = record {
  root = l;
  few = omega arith;
  placed = λ n j k p q. keeps_second second l n j k q;
  below = λ n j k p q. tt;
  to = λ σ k f g. (g, tt);
  back = λ σ k f s. (tt, f);
}

free_second : (first : Entry) → is_link first ≡ false → Merges first Free first []
free_second first l = record {
  root = l;
  few = omega arith;
  placed = λ n j k p q. p;
  below = λ n j k p q. tt;
  to = λ σ k f g. (f, tt);
  back = λ σ k f s. (f, tt);
}

-- an entry twice
twice : (e : Entry) → is_link e ≡ false → Merges e e e []
twice e l = record {
  root = l;
  few = omega arith;
  placed = λ n j k p q. p;
  below = λ n j k p q. tt;
  to = λ σ k f g. (f, tt);
  back = λ σ k f s. (f, f);
}

carriers : (a b : ℕ) (same : Bool) → nat_eq a b ≡ same → MergeOf (Carrier a) (Carrier b) (cond same (Some (Carrier a, [])) None)
carriers a b true e = subst (λ z. Merges (Carrier a) (Carrier z) (Carrier a) []) (eqb-true a b e) (twice (Carrier a) refl)
carriers a b false e = clash (Carrier a) (Carrier b) refl refl (λ same. eqb-false a b e (omega (arith, same)))

products : (a b c d : ℕ) → Merges (Product a b) (Product c d) (Product a b) ((a, c) ∷ (b, d) ∷ [])
products a b c d = record {
  root = refl;
  few = omega arith;
  placed = λ n j k p q. p;
  below = λ n j k p q. (p.0, q.0, (p.1, q.1, tt));
  to = λ σ k f g. (let parts = product_parts (σ a) (σ b) (σ c) (σ d) (sym f ∙ g) in (f, (parts.0, (parts.1, tt))));
  back = λ σ k f s. (f, subst (λ z. σ k ≡ product z (σ d)) s.0 (subst (λ z. σ k ≡ product (σ a) z) s.1.0 f));
}

powers : (a b : ℕ) → Merges (Power a) (Power b) (Power a) ((a, b) ∷ [])
powers a b = record {
  root = refl;
  few = omega arith;
  placed = λ n j k p q. p;
  below = λ n j k p q. (p, q, tt);
  to = λ σ k f g. (f, (power_part (σ a) (σ b) (sym f ∙ g), tt));
  back = λ σ k f s. (f, subst (λ z. σ k ≡ power z) s.0 f);
}

pub merges : (first second : Entry) → is_link first ≡ false → is_link second ≡ false → MergeOf first second (merge first second)
merges Free second a b = free_first second b
merges (Link other) second a b = absurd (cc)
merges first (Link other) a b = absurd (cc)
merges first Free a b = free_second first a
merges Integer Integer a b = twice Integer refl
merges Boolean Boolean a b = twice Boolean refl
merges (Carrier a) (Carrier b) l r = carriers a b (nat_eq a b) refl
merges (Product a b) (Product c d) l r = products a b c d
merges (Power a) (Power b) l r = powers a b
merges first second a b = clash first second refl refl (λ same. omega (arith, same))

-- what a merge gave
pub record MergedTo (first second one : Entry) (before after : Pairs) : Type 0 where
  pub parts : Pairs
  pub merges : Merges first second one parts
  pub pairs : after ≡ before ++ parts

given : (first second one : Entry) (before after : Pairs) (o : Option (Entry × Pairs)) → MergeOf first second o → Gives o one before after → MergedTo first second one before after
given first second one before after None m g = absurd g
given first second one before after (Some p) m g = record { parts = p.1; merges = subst (λ z. Merges first second z p.1) (sym g.0) m; pairs = g.1 }

pub merged_to : (first second one : Entry) (before after : Pairs) → is_link first ≡ false → is_link second ≡ false → Gives (merge first second) one before after → MergedTo first second one before after
merged_to first second one before after a b g = given first second one before after (merge first second) (merges first second a b) g

pub clashes : (first second : Entry) → is_link first ≡ false → is_link second ≡ false → merge first second ≡ None → Clashes first second
clashes first second a b none = subst (λ z. MergeOf first second z) none (merges first second a b)

pub same_append : (σ : ℕ → EbType) (xs ys : Pairs) → AreSame σ xs → AreSame σ ys → AreSame σ (xs ++ ys)
same_append σ [] ys a b = b
same_append σ (x ∷ xs) ys a b = (a.0, same_append σ xs ys a.1 b)

pub same_parts : (σ : ℕ → EbType) (xs ys : Pairs) → AreSame σ (xs ++ ys) → AreSame σ xs × AreSame σ ys
same_parts σ [] ys a = (tt, a)
same_parts σ (x ∷ xs) ys a = let more = same_parts σ xs ys a.1 in ((a.0, more.0), more.1)

pub below_append : (n : ℕ) (xs ys : Pairs) → PairsBelow n xs → PairsBelow n ys → PairsBelow n (xs ++ ys)
below_append n [] ys a b = b
below_append n (x ∷ xs) ys a b = (a.0, a.1, below_append n xs ys a.2 b)

pub below_parts : (n : ℕ) (xs ys : Pairs) → PairsBelow n (xs ++ ys) → PairsBelow n xs × PairsBelow n ys
below_parts n [] ys a = (tt, a)
below_parts n (x ∷ xs) ys a = let more = below_parts n xs ys a.2 in ((a.0, a.1, more.0), more.1)
