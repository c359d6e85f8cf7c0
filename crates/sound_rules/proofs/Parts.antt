-- Parts of typed terms are typed, and fit and refer as the whole does.
use Rattle.std.proofs.Common.{◌≡◌, ◌∙◌, sym, subst, ℕ, zero, suc, Bool, true, ◌&&◌, List, [], ◌∷◌, ◌++◌, map, slice_get, Some, Contains, rules}
use Rattle.std.specs.List.{list_all, flat_map}
use Rattle.std.specs.Cmp.{first_so, second_so}
use Rattle.std.proofs.lemmas.Option.{same_Some}
use Rattle.std.proofs.lemmas.List.Elements.{Contains-append_left, Contains-append_right}
use Rattle.eb_value.specs.declared.scope.Scope.{Scope}
use Rattle.eb_term.specs.declared.term.Term.{Term, fold_out-Term}
use Rattle.eb_term.specs.declared.term.Head.{Head, Head-F, map-Head, the_lemmas}
use Rattle.eb_term.specs.declared.term.Head.TheOpen as head
use Rattle.eb_term.specs.Terms.{by_parts, layer, of_head}
use Rattle.eb_term.specs.Leaves.{references, references_step}
use Rattle.eb_meaning.specs.Meaning.{Slot}
use Rattle.eb_meaning.specs.Fitting.{fits, fits_step}
use Rattle.problem_nodes.specs.Places.{parts, parts_of_layer}

-- ---- a function by one step, at the layer of a term

-- the layer with the function's results at the parts
unfoldable pub mapped : (A : Type 0) → (Head-F A A → A) → Head-F Head Term → Head-F A A
mapped A f = map-Head Head Term A A (λ h. by_parts A f (of_head h)) (by_parts A f)

pub at_layer : (A : Type 0) (f : Head-F A A → A) (t : Term) → by_parts A f t ≡ f (mapped A f (layer t))
unfolding mapped
at_layer A f t = search (rules, fold_out-Term, the_lemmas)

-- ---- elements of lists

at_one : {A : Type 0} (P : A → Type 0) (x u : A) (n : ℕ) → slice_get (x ∷ []) n ≡ Some u → P x → P u
at_one P x u zero e h = subst P (same_Some x u e) h
at_one P x u (suc n) e h = absurd (cc)

at_two : {A : Type 0} (P : A → Type 0) (x y u : A) (n : ℕ) → slice_get (x ∷ y ∷ []) n ≡ Some u → P x → P y → P u
at_two P x y u zero e h g = subst P (same_Some x u e) h
at_two P x y u (suc n) e h g = at_one P y u n e g

-- ---- what fits

module _ (scope : Scope) (refs : List Slot) where
  each_fits : (ts : List Term) (n : ℕ) (u : Term) → slice_get ts n ≡ Some u → list_all (λ e. e) (map (fits scope refs) ts) ≡ true → fits scope refs u ≡ true
  each_fits [] n u e f = absurd (cc)
  each_fits (t ∷ ts) zero u e f = subst (λ x. fits scope refs x ≡ true) (same_Some t u e) (first_so (fits scope refs t) (list_all (λ e. e) (map (fits scope refs) ts)) f)
  each_fits (t ∷ ts) (suc n) u e f = each_fits ts n u e (second_so (fits scope refs t) (list_all (λ e. e) (map (fits scope refs) ts)) f)

  two_fit : (a b u : Term) (n : ℕ) → slice_get (a ∷ b ∷ []) n ≡ Some u → (fits scope refs a && fits scope refs b) ≡ true → fits scope refs u ≡ true
  two_fit a b u n e f = at_two (λ x. fits scope refs x ≡ true) a b u n e (first_so (fits scope refs a) (fits scope refs b) f) (second_so (fits scope refs a) (fits scope refs b) f)

  fits_in : (y : Head-F Head Term) (n : ℕ) (u : Term) → slice_get (parts_of_layer y) n ≡ Some u → fits_step scope refs (mapped Bool (fits_step scope refs) y) ≡ true → fits scope refs u ≡ true
  unfolding mapped
  fits_in (head.Unary o a) n u e f = at_one (λ x. fits scope refs x ≡ true) a u n e f
  fits_in (head.Binary o a b) n u e f = two_fit a b u n e f
  fits_in (head.Many o ts) n u e f = each_fits ts n u e f
  fits_in (head.Over o a b) n u e f = two_fit a b u n e f
  fits_in (head.All o ty a) n u e f = at_one (λ x. fits scope refs x ≡ true) a u n e f
  fits_in _ n u e f = absurd (cc)

  -- where a term fits, each of its parts does
  pub part_fits : (t u : Term) (n : ℕ) → slice_get (parts t) n ≡ Some u → fits scope refs t ≡ true → fits scope refs u ≡ true
  part_fits t u n e f = fits_in (layer t) n u e (sym (at_layer Bool (fits_step scope refs) t) ∙ f)

-- ---- what is referred to

each_refers : (ts : List Term) (n : ℕ) (u : Term) (m : ℕ) → slice_get ts n ≡ Some u → Contains (references u) m → Contains (flat_map (λ e. e) (map references ts)) m
each_refers [] n u m e h = absurd (cc)
each_refers (t ∷ ts) zero u m e h =
    Contains-append_left (references t) (flat_map (λ e. e) (map references ts)) m (subst (λ x. Contains (references x) m) (sym (same_Some t u e)) h)
each_refers (t ∷ ts) (suc n) u m e h = Contains-append_right (references t) (flat_map (λ e. e) (map references ts)) m (each_refers ts n u m e h)

one_refers : (a u : Term) (n m : ℕ) → slice_get (a ∷ []) n ≡ Some u → Contains (references u) m → Contains (references a) m
one_refers a u n m e = at_one (λ x. Contains (references x) m → Contains (references a) m) a u n e (λ h. h)

two_refer : (a b u : Term) (n m : ℕ) → slice_get (a ∷ b ∷ []) n ≡ Some u → Contains (references u) m → Contains (references a ++ references b) m
two_refer a b u n m e = at_two (λ x. Contains (references x) m → Contains (references a ++ references b) m) a b u n e
    (Contains-append_left (references a) (references b) m) (Contains-append_right (references a) (references b) m)

refers_in : (y : Head-F Head Term) (n : ℕ) (u : Term) (m : ℕ) → slice_get (parts_of_layer y) n ≡ Some u → Contains (references u) m
    → Contains (references_step (mapped (List ℕ) references_step y)) m
unfolding mapped
refers_in (head.Unary o a) n u m e h = one_refers a u n m e h
refers_in (head.Binary o a b) n u m e h = two_refer a b u n m e h
refers_in (head.Many o ts) n u m e h = each_refers ts n u m e h
refers_in (head.Over o a b) n u m e h = two_refer a b u n m e h
refers_in (head.All o ty a) n u m e h = one_refers a u n m e h
refers_in _ n u m e h = absurd (cc)

-- what a part refers to, the term refers to
pub part_refers : (t u : Term) (n m : ℕ) → slice_get (parts t) n ≡ Some u → Contains (references u) m → Contains (references t) m
part_refers t u n m e h = subst (λ ns. Contains ns m) (sym (at_layer (List ℕ) references_step t)) (refers_in (layer t) n u m e h)
