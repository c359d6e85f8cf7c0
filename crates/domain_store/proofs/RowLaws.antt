-- Lists of values in order.
use Rattle.std.proofs.Common.{◌≡◌, ◌∙◌, refl, sym, ap, subst, ℕ, zero, suc, ◌<◌, List, [], ◌∷◌, ◌++◌, length, take, drop, get_or, arith, rules}
use Rattle.std.specs.declared.cmp.Ordering.TheVariants.{Less, Equal, Greater}
use Rattle.std.specs.Ordering.{ordering_reverse}
use Rattle.eb_value.specs.declared.value.Value.{Value, the_lemmas}
use Rattle.eb_value.specs.declared.value.Form.TheOpen as val
use Rattle.eb_value.specs.Values.{compare, compare_all, set, layer}
use Rattle.domain_store.proofs.SlotLaws.{Tells}
use Rattle.domain_store.specs.steps.Rows.{AllLess, AllOver, Ascending}

-- the order of values is total
pub record Orders : Type 0 where
  pub reflexive : (v : Value) → compare v v ≡ Equal
  pub exact : (v w : Value) → compare v w ≡ Equal → v ≡ w
  pub reversed : (v w : Value) → compare w v ≡ ordering_reverse (compare v w)
  pub transitive : (u v w : Value) → compare u v ≡ Less → compare v w ≡ Less → compare u w ≡ Less

pub tells_of : Orders → Tells
tells_of orders = record { exact = orders.exact; reflexive = orders.reflexive }

as_set : (xs ys : List Value) → compare (set xs) (set ys) ≡ compare_all xs ys
as_set xs ys = search (rules, the_lemmas)

layer_set : (xs : List Value) → layer (set xs) ≡ val.Set xs
layer_set xs = search (rules, the_lemmas)

set_tells : (xs ys : List Value) → set xs ≡ set ys → xs ≡ ys
set_tells xs ys e = let same : val.Set xs ≡ val.Set ys = sym (layer_set xs) ∙ ap layer e ∙ layer_set ys in cc

pub all_itself : Orders → (xs : List Value) → compare_all xs xs ≡ Equal
all_itself orders xs = sym (as_set xs xs) ∙ orders.reflexive (set xs)

pub all_exact : Orders → (xs ys : List Value) → compare_all xs ys ≡ Equal → xs ≡ ys
all_exact orders xs ys e = set_tells xs ys (orders.exact (set xs) (set ys) (as_set xs ys ∙ e))

pub all_turned : Orders → (xs ys : List Value) → compare_all xs ys ≡ Greater → compare_all ys xs ≡ Less
all_turned orders xs ys e = sym (as_set ys xs) ∙ orders.reversed (set xs) (set ys) ∙ ap ordering_reverse (as_set xs ys ∙ e)

pub all_through : Orders → (xs ys zs : List Value) → compare_all xs ys ≡ Less → compare_all ys zs ≡ Less → compare_all xs zs ≡ Less
all_through orders xs ys zs e f = sym (as_set xs zs) ∙ orders.transitive (set xs) (set ys) (set zs) (as_set xs ys ∙ e) (as_set ys zs ∙ f)

-- ---- a search

over_at : (bound : List Value) (bs : List (List Value)) (m : ℕ) → m < length bs → AllOver bound bs → compare_all bound (get_or bs m []) ≡ Less
over_at bound [] m l h = absurd (omega arith)
over_at bound (b ∷ bs) zero l h = h.0
over_at bound (b ∷ bs) (suc m) l h = over_at bound bs m (omega arith) h.1

-- what stands up to one that is below, is below
pub less_front : Orders → (bs : List (List Value)) (m : ℕ) (bound : List Value) → Ascending bs → m < length bs → compare_all (get_or bs m []) bound ≡ Less → AllLess (take (suc m) bs) bound
less_front orders [] m bound asc l h = absurd (omega arith)
less_front orders (b ∷ bs) zero bound asc l h = (h, tt)
less_front orders (b ∷ bs) (suc m) bound asc l h =
    let less : m < length bs = omega arith in
    (all_through orders b (get_or bs m []) bound (over_at b bs m less asc.0) h, less_front orders bs m bound asc.1 less h)

over_all : Orders → (bound b : List Value) (bs : List (List Value)) → compare_all bound b ≡ Less → AllOver b bs → AllOver bound bs
over_all orders bound b [] h k = tt
over_all orders bound b (c ∷ bs) h k = (all_through orders bound b c h k.0, over_all orders bound b bs h k.1)

-- what stands from one on that is above, is above
pub over_back : Orders → (bs : List (List Value)) (m : ℕ) (bound : List Value) → Ascending bs → m < length bs → compare_all (get_or bs m []) bound ≡ Greater → AllOver bound (drop m bs)
over_back orders [] m bound asc l h = absurd (omega arith)
over_back orders (b ∷ bs) zero bound asc l h = let less : compare_all bound b ≡ Less = all_turned orders b bound h in (less, over_all orders bound b bs less asc.0)
over_back orders (b ∷ bs) (suc m) bound asc l h = over_back orders bs m bound asc.1 (omega arith) h

-- ---- one more at its place

over_put : (x bound : List Value) (bs : List (List Value)) (at : ℕ) → AllOver x bs → compare_all x bound ≡ Less → AllOver x (take at bs ++ bound ∷ drop at bs)
over_put x bound [] zero h l = (l, tt)
over_put x bound [] (suc at) h l = (l, tt)
over_put x bound (b ∷ bs) zero h l = (l, h)
over_put x bound (b ∷ bs) (suc at) h l = (h.0, over_put x bound bs at h.1 l)

pub ascending_put : (bound : List Value) (bs : List (List Value)) (at : ℕ) → Ascending bs → AllLess (take at bs) bound → AllOver bound (drop at bs) → Ascending (take at bs ++ bound ∷ drop at bs)
ascending_put bound [] zero asc below above = (tt, tt)
ascending_put bound [] (suc at) asc below above = (tt, tt)
ascending_put bound (b ∷ bs) zero asc below above = (above, asc)
ascending_put bound (b ∷ bs) (suc at) asc below above = (over_put b bound bs at asc.0 below.0, ascending_put bound bs at asc.1 below.1 above)

-- ---- what has its place isn't there

clash : Orders → (b : List Value) → compare_all b b ≡ Less → ⊥
clash orders b h = let e : compare_all b b ≡ Equal = all_itself orders b in absurd (cc)

-- two places of an ascending list with one value are one
pub ascending_tells : Orders → (bs : List (List Value)) (m n : ℕ) → Ascending bs → m < length bs → n < length bs → get_or bs m [] ≡ get_or bs n [] → m ≡ n
ascending_tells orders [] m n asc l k e = absurd (omega arith)
ascending_tells orders (b ∷ bs) zero zero asc l k e = refl
ascending_tells orders (b ∷ bs) zero (suc n) asc l k e = absurd (clash orders b (subst (λ x. compare_all b x ≡ Less) (sym e) (over_at b bs n (omega arith) asc.0)))
ascending_tells orders (b ∷ bs) (suc m) zero asc l k e = absurd (clash orders b (subst (λ x. compare_all b x ≡ Less) e (over_at b bs m (omega arith) asc.0)))
ascending_tells orders (b ∷ bs) (suc m) (suc n) asc l k e = ap suc (ascending_tells orders bs m n asc.1 (omega arith) (omega arith) e)

pub not_there : Orders → (bs : List (List Value)) (bound : List Value) (at m : ℕ) → AllLess (take at bs) bound → AllOver bound (drop at bs) → m < length bs → get_or bs m [] ≡ bound → ⊥
not_there orders [] bound at m below above l e = omega arith
not_there orders (b ∷ bs) bound zero m below above l e = clash orders bound (subst (λ x. compare_all bound x ≡ Less) e (over_at bound (b ∷ bs) m l above))
not_there orders (b ∷ bs) bound (suc at) zero below above l e = clash orders bound (subst (λ x. compare_all x bound ≡ Less) e below.0)
not_there orders (b ∷ bs) bound (suc at) (suc m) below above l e = not_there orders bs bound at m below.1 above (omega arith) e
