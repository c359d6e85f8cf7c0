-- The meaning of a term looks at the places to which the term refers alone.
use Rattle.std.proofs.Common.{◌≡◌, refl, ap, ap₂, ℕ, List, [], ◌∷◌, ◌++◌, map, option_map, Some, Contains, arith, rules}
use Rattle.std.specs.List.{AllByRecursion, flat_map}
use Rattle.std.proofs.lemmas.List.Elements.{Contains-append_left, Contains-append_right}
use Rattle.eb_value.specs.declared.scope.Scope.{Scope}
use Rattle.eb_value.specs.declared.types.EbType.{EbType}
use Rattle.eb_value.specs.declared.value.Value.{Value}
use Rattle.eb_value.specs.Comprehensions.{members}
use Rattle.eb_value.specs.Scopes.{vals}
use Rattle.eb_term.specs.declared.operators.Unary.{Unary}
use Rattle.eb_term.specs.declared.operators.Binary.{Binary}
use Rattle.eb_term.specs.declared.operators.Binder.{Binder}
use Rattle.eb_term.specs.declared.operators.Many.{Many}
use Rattle.eb_term.specs.declared.term.Term.{Term}
use Rattle.eb_term.specs.declared.term.Head.{the_lemmas}
use Rattle.eb_term.specs.Terms as term
use Rattle.eb_term.specs.Leaves.{references}
use Rattle.eb_meaning.specs.Meaning.{Slot, Env, slot_at, by_unary, by_binary, by_many, by_binder, expression, meaning}
use Rattle.eb_meaning.proofs.TermInduction.{ind_term}
use Rattle.eb_meaning.proofs.Sights.{seen, of_value, unary_alike, binary_alike, many_alike, binder_alike}

-- ---- terms by their heads

reference_is : (scope : Scope) (place : ℕ) (ty : EbType) → meaning scope (term.reference place ty) ≡ expression (λ env. slot_at env.refs place)
reference_is scope place ty = search (rules, the_lemmas)

unary_is : (scope : Scope) (o : Unary) (a : Term) → meaning scope (term.unary o a) ≡ by_unary o (meaning scope a)
unary_is scope o a = search (rules, the_lemmas)

binary_is : (scope : Scope) (o : Binary) (a b : Term) → meaning scope (term.binary o a b) ≡ by_binary o (meaning scope a) (meaning scope b)
binary_is scope o a b = search (rules, the_lemmas)

many_is : (scope : Scope) (o : Many) (ts : List Term) → meaning scope (term.many o ts) ≡ by_many o (map (meaning scope) ts)
many_is scope o ts = search (rules, the_lemmas)

over_is : (scope : Scope) (o : Binder) (range body : Term)
    → meaning scope (term.over o range body) ≡ by_binder o (λ env. option_map members ((meaning scope range).value env)) (meaning scope body)
over_is scope o range body = search (rules, the_lemmas)

all_is : (scope : Scope) (o : Binder) (ty : EbType) (body : Term)
    → meaning scope (term.all o ty body) ≡ by_binder o (λ env. Some (vals scope ty)) (meaning scope body)
all_is scope o ty body = search (rules, the_lemmas)

reference_places : (place : ℕ) (ty : EbType) → references (term.reference place ty) ≡ place ∷ []
reference_places place ty = search (rules, the_lemmas)

unary_places : (o : Unary) (a : Term) → references (term.unary o a) ≡ references a
unary_places o a = search (rules, the_lemmas)

binary_places : (o : Binary) (a b : Term) → references (term.binary o a b) ≡ references a ++ references b
binary_places o a b = search (rules, the_lemmas)

many_places : (o : Many) (ts : List Term) → references (term.many o ts) ≡ flat_map (λ e. e) (map references ts)
many_places o ts = search (rules, the_lemmas)

over_places : (o : Binder) (range body : Term) → references (term.over o range body) ≡ references range ++ references body
over_places o range body = search (rules, the_lemmas)

all_places : (o : Binder) (ty : EbType) (body : Term) → references (term.all o ty body) ≡ references body
all_places o ty body = search (rules, the_lemmas)

-- ---- references that agree

-- the two lists agree at the places
pub record Agree (refs others : List Slot) (places : List ℕ) : Type 0 where
  pub each : (place : ℕ) → Contains places place → slot_at refs place ≡ slot_at others place

left : (refs others : List Slot) (xs ys : List ℕ) → Agree refs others (xs ++ ys) → Agree refs others xs
left refs others xs ys h = record { each = λ place c. h.each place (Contains-append_left xs ys place c) }

right : (refs others : List Slot) (xs ys : List ℕ) → Agree refs others (xs ++ ys) → Agree refs others ys
right refs others xs ys h = record { each = λ place c. h.each place (Contains-append_right xs ys place c) }

abbrev env_of : List Slot → List Value → Env
env_of refs bound = record { refs = refs; bound = bound }

-- inside any binders, the term is the same over both
abbrev IsAlike : Scope → List Slot → List Slot → Term → Type 0
IsAlike scope refs others t = (bound : List Value) → Agree refs others (references t)
    → seen (env_of refs bound) (meaning scope t) ≡ seen (env_of others bound) (meaning scope t)

values_alike : (scope : Scope) (refs others : List Slot) (ts : List Term) → AllByRecursion (IsAlike scope refs others) ts → (bound : List Value)
    → Agree refs others (flat_map (λ e. e) (map references ts))
    → map (λ e. e.value (env_of refs bound)) (map (meaning scope) ts) ≡ map (λ e. e.value (env_of others bound)) (map (meaning scope) ts)
values_alike scope refs others [] hs bound agree = refl
values_alike scope refs others (t ∷ ts) hs bound agree =
    ap₂ (λ v vs. v ∷ vs)
    (ap (λ s. s.value) (hs.0 bound (left refs others (references t) _ agree)))
    (values_alike scope refs others ts hs.1 bound (right refs others (references t) _ agree))

pub alike : (scope : Scope) (refs others : List Slot) (t : Term) → IsAlike scope refs others t
alike scope refs others = ind_term (IsAlike scope refs others) (record {
  truth = λ b bound agree. search (rules, the_lemmas);
  literal = λ v ty bound agree. search (rules, the_lemmas);
  reference = λ place ty bound agree. let one : Agree refs others (place ∷ []) = rw (reference_places place ty) at agree in
      rw (reference_is scope place ty) (ap of_value (one.each place (0, omega arith, refl)));
  variable = λ k path ty bound agree. search (rules, the_lemmas);
  infinite = λ i bound agree. search (rules, the_lemmas);
  identity = λ ty bound agree. search (rules, the_lemmas);
  projection = λ s a b bound agree. search (rules, the_lemmas);
  unary = λ o a p bound agree. rw (unary_is scope o a) (unary_alike o (meaning scope a) _ _ (p bound (rw (unary_places o a) at agree)));
  binary = λ o a b p q bound agree. let both : Agree refs others (references a ++ references b) = rw (binary_places o a b) at agree in
      rw (binary_is scope o a b) (binary_alike o (meaning scope a) (meaning scope b) _ _ (p bound (left refs others _ _ both)) (q bound (right refs others _ _ both)));
  many = λ o ts p bound agree. rw (many_is scope o ts) (many_alike o (map (meaning scope) ts) _ _ (values_alike scope refs others ts p bound (rw (many_places o ts) at agree)));
  over = λ o range body p q bound agree. let both : Agree refs others (references range ++ references body) = rw (over_places o range body) at agree in
      rw (over_is scope o range body) (binder_alike o (λ env. option_map members ((meaning scope range).value env)) (meaning scope body) _ _
      (ap (λ s. option_map members s.value) (p bound (left refs others _ _ both))) (λ v. q (bound ++ v ∷ []) (right refs others _ _ both)));
  all = λ o ty body p bound agree. rw (all_is scope o ty body) (binder_alike o (λ env. Some (vals scope ty)) (meaning scope body) _ _ refl
      (λ v. p (bound ++ v ∷ []) (rw (all_places o ty body) at agree)));
})
