-- The types over whose values a term goes, and the nodes of terms.
use Rattle.std.proofs.Common.{◌≡◌, ◌∙◌, sym, ap, subst, ℕ, ◌+◌, ◌<◌, Bool, ◌||◌, List, ◌∷◌, ◌++◌, length, map, drop, get_or, append_assoc, Result, OnOk, rules}
use Rattle.std.specs.List.{flat_map, list_any}
use Rattle.std.proofs.lemmas.Grind.{flat_map-append}
use Rattle.std.proofs.lemmas.List.{drop_more}
use Rattle.std.proofs.lemmas.List.Folds.{flat_map-map, list_any-append}
use Rattle.eb_value.specs.declared.types.EbType.{EbType}
use Rattle.eb_term.specs.declared.operators.Binder.{Binder}
use Rattle.eb_term.specs.declared.operators.Many.{Many}
use Rattle.eb_term.specs.declared.term.Term.{Term, fold_out-Term}
use Rattle.eb_term.specs.declared.term.Head.{the_lemmas}
use Rattle.eb_term.specs.declared.term.Head.TheVariants as head
use Rattle.cbc_query.specs.Limits.{range_types}

many_by_parts : (t : Term) (o : Many) (ts : List Term) → t.head ≡ head.Many o ts → range_types t ≡ flat_map (λ e. e) (map range_types ts)
many_by_parts t o ts p = search (rules, fold_out-Term, the_lemmas, p)

pub many_ranges : (t : Term) (o : Many) (ts : List Term) → t.head ≡ head.Many o ts → range_types t ≡ flat_map range_types ts
many_ranges t o ts p = many_by_parts t o ts p ∙ flat_map-map (λ e. e) range_types ts

over_ranges : (t range body : Term) (o : Binder) → t.head ≡ head.Over o range body → range_types t ≡ range_types range ++ range_types body
over_ranges t range body o p = search (rules, fold_out-Term, the_lemmas, p)

all_ranges : (t body : Term) (o : Binder) (ty : EbType) → t.head ≡ head.All o ty body → range_types t ≡ ty ∷ range_types body
all_ranges t body o ty p = search (rules, fold_out-Term, the_lemmas, p)

pub over_any : (test : EbType → Bool) (t range body : Term) (o : Binder) → t.head ≡ head.Over o range body
    → list_any test (range_types t) ≡ (list_any test (range_types range) || list_any test (range_types body))
over_any test t range body o p = ap (list_any test) (over_ranges t range body o p) ∙ list_any-append test (range_types range) (range_types body)

pub over_flat : {A : Type 0} (f : EbType → List A) (t range body : Term) (o : Binder) → t.head ≡ head.Over o range body
    → flat_map f (range_types t) ≡ flat_map f (range_types range) ++ flat_map f (range_types body)
over_flat f t range body o p = ap (flat_map f) (over_ranges t range body o p) ∙ flat_map-append f (range_types range) (range_types body)

pub all_flat : {A : Type 0} (f : EbType → List A) (t body : Term) (o : Binder) (ty : EbType) → t.head ≡ head.All o ty body
    → flat_map f (range_types t) ≡ f ty ++ flat_map f (range_types body)
all_flat f t body o ty p = ap (flat_map f) (all_ranges t body o ty p)

-- ---- what is written to the end of a list

pub after_one : {T E A : Type 0} (r : Result T E) (new old part all : List A) → OnOk r (new ≡ old ++ part) → all ≡ part → OnOk r (new ≡ old ++ all)
after_one r new old part all h e = subst (λ z. OnOk r (new ≡ old ++ z)) (sym e) h

pub after_two : {T E A : Type 0} (r : Result T E) (new between old left right all : List A)
    → OnOk r (new ≡ between ++ right) → between ≡ old ++ left → all ≡ left ++ right → OnOk r (new ≡ old ++ all)
after_two r new between old left right all h e u =
    subst (λ z. OnOk r (new ≡ z)) (ap (λ z. z ++ right) e ∙ (append_assoc old left right ∙ ap (λ z. old ++ z) (sym u))) h

-- one term more
pub any_next : (test : EbType → Bool) (ts : List Term) (i : ℕ) (t : Term) → i < length ts → t ≡ get_or ts i t
    → list_any test (flat_map range_types (drop i ts)) ≡ (list_any test (range_types t) || list_any test (flat_map range_types (drop (i + 1) ts)))
any_next test ts i t h e =
    let next : drop i ts ≡ t ∷ drop (i + 1) ts = drop_more ts i t h ∙ ap (λ z. z ∷ drop (i + 1) ts) (sym e) in
    ap (λ z. list_any test (flat_map range_types z)) next ∙ list_any-append test (range_types t) (flat_map range_types (drop (i + 1) ts))
