-- The terms of carrier sets and constants: closed terms of their types, which fit where the constants have values of theirs.
use Rattle.std.proofs.Common.{◌≡◌, ◌∙◌, ◌==◌, ◌<◌, ℕ, zero, suc, ◌+◌, Bool, true, false, ◌&&◌, cond, List, [], ◌∷◌, ◌++◌, map, fold, length, Option, Some, None, slice_get, IfSome, refl, sym, subst, ap, arith, rules}
use Rattle.std.specs.Prelude.{⊤, unwrap_or}
use Rattle.std.specs.List.{Contains, list_all, flat_map}
use Rattle.std.proofs.lemmas.Bool.{eqb-true}
use Rattle.type_table.specs.Rows.{predicate, expression}
use Rattle.eb_value.specs.declared.scope.Scope.{Scope}
use Rattle.eb_value.specs.declared.types.EbType.{EbType}
use Rattle.eb_value.specs.declared.types.EbType as type_module
use Rattle.eb_value.specs.declared.value.Value.{Value}
use Rattle.eb_value.specs.declared.value.Value as value_module
use Rattle.eb_value.specs.Types.{boolean, carrier, power}
use Rattle.eb_value.specs.Scopes.{vals}
use Rattle.eb_value.specs.Typing.{has_type, have_type}
use Rattle.eb_value.specs.Values.{set, is_ascending}
use Rattle.eb_term.specs.declared.term.Term.{Term, the_lemmas}
use Rattle.eb_term.specs.Terms as term
use Rattle.eb_term.specs.Typed as typing
use Rattle.eb_term.specs.Typed.{HasSort}
use Rattle.eb_meaning.specs.Meaning.{Slot, slot_at}
use Rattle.eb_meaning.specs.Problems.{IsValuation}
use Rattle.eb_meaning.specs.Fitting.{slot_has_type, fits}
use Rattle.eb_model.specs.declared.model.ModelPart.{ModelPart}
use Rattle.eb_model.specs.declared.model.ModelPart.TheVariants as part
use Rattle.eb_model.specs.declared.model.EbModel.{EbModel}
use Rattle.eb_typing.specs.Numbering.{Numbered}
use Rattle.eb_typing.specs.Typing as types_of
use Rattle.eb_typing.specs.Typing.{ArePredicates}
use Rattle.eb_typing.specs.Models.{Typed, is_carrier, owed_by_part}
use Rattle.cbc_query.specs.Parts.{part_constants}
use Rattle.cbc_query.specs.Settings.{type_in, carrier_term, terms_from, known_at, numbers_from}
use Rattle.cbc_query.specs.Problems.{choice_of, choices_of}
use Rattle.witness_laws.proofs.Hypotheses.{Laws, IsBounded}

-- a closed term of the type, which fits where the choices have these values
pub record IsKnown (scope : Scope) (values : List Value) (ty : EbType) (t : Term) : Type 0 where
  pub sort : (bound : List EbType) → HasSort bound t (expression ty)
  pub fitting : fits scope (map (λ v. Some v) values) t ≡ true

-- each of the terms is one of the type of its number
abbrev pub EachKnown : Scope → List Value → List EbType → List (ℕ × Term) → Type 0
EachKnown scope values types [] = ⊤
EachKnown scope values types (p ∷ ps) = IsKnown scope values (type_in types p.0) p.1 × EachKnown scope values types ps

-- ---- values and types

has_type-set : (scope : Scope) (xs : List Value) (t : EbType) → has_type scope (set xs) (power t) ≡ (is_ascending xs && have_type scope xs t)
has_type-set scope xs t = search (rules, value_module.the_lemmas, type_module.the_lemmas)

fits-literal : (scope : Scope) (refs : List Slot) (v : Value) (t : EbType) → fits scope refs (term.literal v t) ≡ has_type scope v t
fits-literal scope refs v t = search (rules, the_lemmas)

fits-reference : (scope : Scope) (refs : List Slot) (place : ℕ) (t : EbType) → fits scope refs (term.reference place t) ≡ slot_has_type scope (slot_at refs place) t
fits-reference scope refs place t = search (rules, the_lemmas)

both_so : (s t : Bool) → s ≡ true → t ≡ true → (s && t) ≡ true
both_so s t h k = rw (h, k) refl

contains_here : {A : Type 0} (x : A) (xs : List A) → Contains (x ∷ xs) x
contains_here x xs = (0, omega arith, refl)

contains_there : {A : Type 0} (x : A) (xs : List A) (v : A) → Contains xs v → Contains (x ∷ xs) v
contains_there x xs v h = let l : h.0 < length xs = h.1 in (suc h.0, omega arith, h.2)

so_all : {A : Type 0} (p : A → Bool) (xs : List A) → ((v : A) → Contains xs v → p v ≡ true) → list_all p xs ≡ true
so_all p [] h = refl
so_all p (x ∷ xs) h = both_so (p x) (list_all p xs) (h x (contains_here x xs)) (so_all p xs (λ v m. h v (contains_there x xs v m)))

in_scope : Laws → (scope : Scope) → IsBounded scope → (ty : EbType) (v : Value) → Contains (vals scope ty) v → has_type scope v ty ≡ true
in_scope laws scope b ty v h = ((laws.complete scope b.low b.high ty v).0 h).0

all_atoms : Laws → (scope : Scope) → IsBounded scope → (ty : EbType) → has_type scope (set (vals scope ty)) (power ty) ≡ true
all_atoms laws scope b ty = has_type-set scope (vals scope ty) ty
    ∙ both_so (is_ascending (vals scope ty)) (have_type scope (vals scope ty) ty) (laws.ascending scope ty)
    (so_all (λ v. has_type scope v ty) (vals scope ty) (in_scope laws scope b ty))

-- ---- one term

carrier_type : (types : List EbType) (s k : ℕ) → types_of.HasSort types (is_carrier s k) predicate → type_in types k ≡ power (carrier s)
carrier_type types s k h = ap (λ o. unwrap_or o boolean) h.1.0.1 ∙ expressed (power (carrier s)) h.1.0.0 h.1.0.2 where
  expressed : (t u : EbType) → expression t ≡ expression u → u ≡ t
  expressed t u e = cc

carrier_known : Laws → (scope : Scope) → IsBounded scope → (types : List EbType) (values : List Value) (s k : ℕ) → types_of.HasSort types (is_carrier s k) predicate
    → IsKnown scope values (type_in types k) (carrier_term scope s)
carrier_known laws scope b types values s k h = subst (λ ty. IsKnown scope values ty (carrier_term scope s)) (sym (carrier_type types s k h)) (record {
  sort = λ bound. typing.literal (set (vals scope (carrier s))) (power (carrier s));
  fitting = fits-literal scope (map (λ v. Some v) values) (set (vals scope (carrier s))) (power (carrier s)) ∙ all_atoms laws scope b (carrier s);
})

constant_known : (scope : Scope) (values : List Value) (c : ℕ) (ty : EbType) (v : Value) → slot_at (map (λ v. Some v) values) c ≡ Some v → has_type scope v ty ≡ true
    → IsKnown scope values ty (term.reference c ty)
constant_known scope values c ty v here h = record {
  sort = λ bound. typing.reference c ty;
  fitting = fits-reference scope (map (λ v. Some v) values) c ty ∙ ap (λ o. slot_has_type scope o ty) here ∙ h;
}

-- ---- all terms

-- from this place on the values are those
pub record Follows (values : List Value) (c : ℕ) (vs : List Value) : Type 0 where
  pub at : (j : ℕ) → slot_at (map (λ v. Some v) values) (c + j) ≡ slot_at (map (λ v. Some v) vs) j

follows_here : (values : List Value) (c : ℕ) (v : Value) (vs : List Value) → Follows values c (v ∷ vs) → slot_at (map (λ v. Some v) values) c ≡ Some v
follows_here values c v vs f =
    let e : c ≡ c + 0 = omega arith in
    ap (λ n. slot_at (map (λ v. Some v) values) n) e ∙ f.at 0

follows_next : (values : List Value) (c : ℕ) (v : Value) (vs : List Value) → Follows values c (v ∷ vs) → Follows values (c + 1) vs
follows_next values c v vs f = record { at = λ (j : ℕ). let e : c + 1 + j ≡ c + suc j = omega arith in ap (λ n. slot_at (map (λ v. Some v) values) n) e ∙ f.at (suc j) }

follows_all : (values : List Value) → Follows values 0 values
follows_all values = record { at = λ (j : ℕ). let e : 0 + j ≡ j = omega arith in ap (λ n. slot_at (map (λ v. Some v) values) n) e }

pub later : (types : List EbType) (xs ys : List Numbered) → ArePredicates types (xs ++ ys) → ArePredicates types ys
later types [] ys h = h
later types (x ∷ xs) ys h = later types xs ys h.1

pub each_from : Laws → (scope : Scope) → IsBounded scope → (types : List EbType) (values : List Value) (c : ℕ) (ps : List ModelPart) (vs : List Value)
    → Follows values c vs → IsValuation scope (map (choice_of types) (flat_map part_constants ps)) vs → ArePredicates types (flat_map owed_by_part ps)
    → EachKnown scope values types (terms_from scope types c ps)
each_from laws scope b types values c [] vs follows valuation typed = tt
each_from laws scope b types values c (part.Carrier s x ∷ ps) vs follows valuation typed =
    (carrier_known laws scope b types values s x.number typed.0, each_from laws scope b types values c ps vs follows valuation typed.1)
each_from laws scope b types values c (part.Constant x ∷ ps) [] follows valuation typed = absurd valuation
each_from laws scope b types values c (part.Constant x ∷ ps) (v ∷ vs) follows valuation typed = (
  constant_known scope values c (type_in types x.number) v (follows_here values c v vs follows) (in_scope laws scope b (type_in types x.number) v valuation.0),
  each_from laws scope b types values (c + 1) ps vs (follows_next values c v vs follows) valuation.1 typed,
)
each_from laws scope b types values c (part.Variable x ∷ ps) vs follows valuation typed = each_from laws scope b types values c ps vs follows valuation typed
each_from laws scope b types values c (part.Axiom l ∷ ps) vs follows valuation typed = each_from laws scope b types values c ps vs follows valuation typed.1
each_from laws scope b types values c (part.Invariant l ∷ ps) vs follows valuation typed = each_from laws scope b types values c ps vs follows valuation typed.1
each_from laws scope b types values c (part.Event e ∷ ps) vs follows valuation typed =
    each_from laws scope b types values c ps vs follows valuation (later types (owed_by_part (part.Event e)) (flat_map owed_by_part ps) typed)

-- ---- the term of a number

found_more : (scope : Scope) (values : List Value) (types : List EbType) (k j : ℕ) (t : Term) (found : Option Term) (is_it : Bool) → (is_it ≡ true → j ≡ k)
    → IsKnown scope values (type_in types j) t → IfSome found (IsKnown scope values (type_in types k))
    → IfSome (cond is_it (Some t) found) (IsKnown scope values (type_in types k))
found_more scope values types k j t found true same known h = subst (λ n. IsKnown scope values (type_in types n) t) (same refl) known
found_more scope values types k j t found false same known h = h

found_known : (scope : Scope) (values : List Value) (types : List EbType) (k : ℕ) (ts : List (ℕ × Term)) (found : Option Term)
    → IfSome found (IsKnown scope values (type_in types k)) → EachKnown scope values types ts
    → IfSome (fold (λ found t. cond (t.0 == k) (Some t.1) found) found ts) (IsKnown scope values (type_in types k))
found_known scope values types k [] found h each = h
found_known scope values types k (p ∷ ts) found h each = found_known scope values types k ts (cond (p.0 == k) (Some p.1) found)
    (found_more scope values types k p.0 p.1 found (p.0 == k) (eqb-true p.0 k) each.0 h) each.1

known_number : (f : ℕ → Option Term) (n j k : ℕ) (o : Option Term) → slice_get (map f (numbers_from j n)) k ≡ Some o → o ≡ f (j + k)
known_number f zero j k o e = absurd (cc)
known_number f (suc n) j zero o e =
    let same : f j ≡ o = cc in
    let here : j ≡ j + 0 = omega arith in
    sym same ∙ ap f here
known_number f (suc n) j (suc k) o e =
    let there : j + 1 + k ≡ j + suc k = omega arith in
    known_number f n (j + 1) k o e ∙ ap f there

some_known : (scope : Scope) (values : List Value) (ty : EbType) (o : Option Term) (t : Term) → Some t ≡ o → IfSome o (IsKnown scope values ty) → IsKnown scope values ty t
some_known scope values ty None t e h = absurd (cc)
some_known scope values ty (Some u) t e h = let same : u ≡ t = cc in subst (IsKnown scope values ty) same h

-- each term of the table is a closed one of the type of its number, and fits
pub known_terms : Laws → (scope : Scope) → IsBounded scope → (m : EbModel) (types : List EbType) → Typed m types
    → (values : List Value) → IsValuation scope (choices_of m types) values
    → (k : ℕ) (t : Term) → slice_get (map (known_at (terms_from scope types 0 m.parts)) (numbers_from 0 m.numbers)) k ≡ Some (Some t)
    → IsKnown scope values (type_in types k) t
known_terms laws scope b m types typed values valuation k t e =
    let each = each_from laws scope b types values 0 m.parts values (follows_all values) valuation typed.predicates in
    let first : 0 + k ≡ k = omega arith in
    let there : Some t ≡ known_at (terms_from scope types 0 m.parts) k = known_number (known_at (terms_from scope types 0 m.parts)) m.numbers 0 k (Some t) e ∙ ap (λ n. known_at (terms_from scope types 0 m.parts) n) first in
    some_known scope values (type_in types k) (known_at (terms_from scope types 0 m.parts) k) t there (found_known scope values types k (terms_from scope types 0 m.parts) None tt each)
