-- A term put under more binders is there what it was.
use Rattle.std.proofs.Common.{◌≡◌, ◌∙◌, refl, sym, ap, ap₂, ℕ, zero, suc, ◌+◌, nat_lt, Bool, true, false, if◌then◌else◌, List, [], ◌∷◌, ◌++◌, length, map, option_map, option_and_then, Some, append_assoc, append-nil, arith, rules}
use Rattle.std.proofs.lemmas.Bool.Decides.{nat_tests}
use Rattle.std.specs.List.{AllByRecursion, slice_get}
use Rattle.eb_value.specs.declared.scope.Scope.{Scope}
use Rattle.eb_value.specs.declared.types.EbType.{EbType}
use Rattle.eb_value.specs.declared.value.Value.{Value}
use Rattle.eb_value.specs.Comprehensions.{members}
use Rattle.eb_value.specs.Scopes.{vals}
use Rattle.eb_term.specs.declared.operators.Unary.{Unary}
use Rattle.eb_term.specs.declared.operators.Binary.{Binary}
use Rattle.eb_term.specs.declared.operators.Binder.{Binder}
use Rattle.eb_term.specs.declared.operators.Many.{Many}
use Rattle.eb_term.specs.declared.operators.Side.{Side}
use Rattle.eb_term.specs.declared.term.Term.{Term}
use Rattle.eb_term.specs.declared.term.Head.{the_lemmas}
use Rattle.eb_term.specs.Terms as term
use Rattle.eb_meaning.specs.Meaning.{Slot, Env, variable_at, part_at, by_unary, by_binary, by_many, by_binder, expression, meaning}
use Rattle.narrow_terms.specs.Shifting.{shift}
use Rattle.eb_narrow.proofs.TermInduction.{ind_term}
use Rattle.eb_narrow.proofs.Sights.{seen, of_value, unary_alike, binary_alike, many_alike, binder_alike}

-- ---- terms by their heads

pub variable_is : (scope : Scope) (k : ℕ) (path : List Side) (ty : EbType) → meaning scope (term.variable k path ty) ≡ expression (λ env. variable_at env k path)
variable_is scope k path ty = search (rules, the_lemmas)

pub unary_is : (scope : Scope) (o : Unary) (a : Term) → meaning scope (term.unary o a) ≡ by_unary o (meaning scope a)
unary_is scope o a = search (rules, the_lemmas)

pub binary_is : (scope : Scope) (o : Binary) (a b : Term) → meaning scope (term.binary o a b) ≡ by_binary o (meaning scope a) (meaning scope b)
binary_is scope o a b = search (rules, the_lemmas)

pub many_is : (scope : Scope) (o : Many) (ts : List Term) → meaning scope (term.many o ts) ≡ by_many o (map (meaning scope) ts)
many_is scope o ts = search (rules, the_lemmas)

pub over_is : (scope : Scope) (o : Binder) (range body : Term)
    → meaning scope (term.over o range body) ≡ by_binder o (λ env. option_map members ((meaning scope range).value env)) (meaning scope body)
over_is scope o range body = search (rules, the_lemmas)

pub all_is : (scope : Scope) (o : Binder) (ty : EbType) (body : Term)
    → meaning scope (term.all o ty body) ≡ by_binder o (λ env. Some (vals scope ty)) (meaning scope body)
all_is scope o ty body = search (rules, the_lemmas)

pub shift_variable : (from by k : ℕ) (path : List Side) (ty : EbType) → shift from by (term.variable k path ty) ≡ term.variable (if nat_lt k from then k else k + by) path ty
shift_variable from by k path ty = search (rules, the_lemmas)

pub shift_unary : (from by : ℕ) (o : Unary) (a : Term) → shift from by (term.unary o a) ≡ term.unary o (shift from by a)
shift_unary from by o a = search (rules, the_lemmas)

pub shift_binary : (from by : ℕ) (o : Binary) (a b : Term) → shift from by (term.binary o a b) ≡ term.binary o (shift from by a) (shift from by b)
shift_binary from by o a b = search (rules, the_lemmas)

pub shift_many : (from by : ℕ) (o : Many) (ts : List Term) → shift from by (term.many o ts) ≡ term.many o (map (shift from by) ts)
shift_many from by o ts = search (rules, the_lemmas)

pub shift_over : (from by : ℕ) (o : Binder) (range body : Term) → shift from by (term.over o range body) ≡ term.over o (shift from by range) (shift from by body)
shift_over from by o range body = search (rules, the_lemmas)

pub shift_all : (from by : ℕ) (o : Binder) (ty : EbType) (body : Term) → shift from by (term.all o ty body) ≡ term.all o ty (shift from by body)
shift_all from by o ty body = search (rules, the_lemmas)

-- ---- places past others

past : (more back : List Value) (k : ℕ) → slice_get (more ++ back) (k + length more) ≡ slice_get back k
past [] back k = ap (slice_get back) (omega arith)
past (v ∷ more) back k = ap (slice_get (v ∷ (more ++ back))) (add_suc k (length more)) ∙ past more back k
  where
    add_suc : (a b : ℕ) → a + suc b ≡ suc (a + b)
    add_suc a b = omega arith

add_suc_left : (k by : ℕ) → suc k + by ≡ suc (k + by)
add_suc_left k by = omega arith

next_if : (v : Value) (vs : List Value) (b : Bool) (k by : ℕ) → slice_get (v ∷ vs) (if b then suc k else suc k + by) ≡ slice_get vs (if b then k else k + by)
next_if v vs true k by = refl
next_if v vs false k by = ap (slice_get (v ∷ vs)) (add_suc_left k by)

none_below : (k : ℕ) → nat_lt k 0 ≡ false
none_below k = grind (arith, nat_tests)

both_less : (k n : ℕ) → nat_lt (suc k) (suc n) ≡ nat_lt k n
both_less k n = grind (arith, nat_tests)

first_below : (n : ℕ) → nat_lt 0 (suc n) ≡ true
first_below n = grind (arith, nat_tests)

at_shifted : (front more back : List Value) (k : ℕ) → slice_get (front ++ (more ++ back)) (if nat_lt k (length front) then k else k + length more) ≡ slice_get (front ++ back) k
at_shifted [] more back k = rw (none_below k) (past more back k)
at_shifted (v ∷ front) more back zero = rw (first_below (length front)) refl
at_shifted (v ∷ front) more back (suc k) = rw (both_less k (length front)) (next_if v (front ++ (more ++ back)) (nat_lt k (length front)) k (length more) ∙ at_shifted front more back k)

abbrev pub env_of : List Slot → List Value → Env
env_of refs bound = record { refs = refs; bound = bound }

module _ (scope : Scope) (refs : List Slot) (front more : List Value) where
  abbrev put : Term → Term
  put = shift (length front) (length more)

  abbrev IsAlike : Term → Type 0
  IsAlike t = (back : List Value) → seen (env_of refs (front ++ (more ++ back))) (meaning scope (put t)) ≡ seen (env_of refs (front ++ back)) (meaning scope t)

  variables_alike : (k : ℕ) (path : List Side) (ty : EbType) → IsAlike (term.variable k path ty)
  variables_alike k path ty back =
      rw (shift_variable (length front) (length more) k path ty, variable_is scope k path ty, variable_is scope (if nat_lt k (length front) then k else k + length more) path ty)
      (ap (λ o. of_value (option_and_then (part_at path) o)) (at_shifted front more back k))

  values_alike : (ts : List Term) → AllByRecursion IsAlike ts → (back : List Value)
      → map (λ e. e.value (env_of refs (front ++ (more ++ back)))) (map (meaning scope) (map put ts)) ≡ map (λ e. e.value (env_of refs (front ++ back))) (map (meaning scope) ts)
  values_alike [] hs back = refl
  values_alike (t ∷ ts) hs back = ap₂ (λ v vs. v ∷ vs) (ap (λ s. s.value) (hs.0 back)) (values_alike ts hs.1 back)

  deeper : (vs : List Value) (v : Value) → (front ++ vs) ++ v ∷ [] ≡ front ++ (vs ++ v ∷ [])
  deeper vs v = append_assoc front vs (v ∷ [])

  deepest : (back : List Value) (v : Value) → (front ++ (more ++ back)) ++ v ∷ [] ≡ front ++ (more ++ (back ++ v ∷ []))
  deepest back v = append_assoc front (more ++ back) (v ∷ []) ∙ ap (λ vs. front ++ vs) (append_assoc more back (v ∷ []))

  bodies_alike : (body : Term) → IsAlike body → (back : List Value) (v : Value)
      → seen (env_of refs ((front ++ (more ++ back)) ++ v ∷ [])) (meaning scope (put body)) ≡ seen (env_of refs ((front ++ back) ++ v ∷ [])) (meaning scope body)
  bodies_alike body p back v = ap (λ vs. seen (env_of refs vs) (meaning scope (put body))) (deepest back v) ∙ (p (back ++ v ∷ []) ∙ ap (λ vs. seen (env_of refs vs) (meaning scope body)) (sym (deeper back v)))

  pub alike : (t : Term) → IsAlike t
  alike = ind_term IsAlike (record {
    truth = λ b back. search (rules, the_lemmas);
    literal = λ v ty back. search (rules, the_lemmas);
    reference = λ place ty back. search (rules, the_lemmas);
    variable = variables_alike;
    infinite = λ i back. search (rules, the_lemmas);
    identity = λ ty back. search (rules, the_lemmas);
    projection = λ s a b back. search (rules, the_lemmas);
    unary = λ o a p back. rw (shift_unary (length front) (length more) o a, unary_is scope o a, unary_is scope o (put a)) (unary_alike o (meaning scope (put a)) (meaning scope a) _ _ (p back));
    binary = λ o a b p q back. rw (shift_binary (length front) (length more) o a b, binary_is scope o a b, binary_is scope o (put a) (put b))
        (binary_alike o (meaning scope (put a)) (meaning scope (put b)) (meaning scope a) (meaning scope b) _ _ (p back) (q back));
    many = λ o ts p back. rw (shift_many (length front) (length more) o ts, many_is scope o ts, many_is scope o (map put ts))
        (many_alike o (map (meaning scope) (map put ts)) (map (meaning scope) ts) _ _ (values_alike ts p back));
    over = λ o range body p q back. rw (shift_over (length front) (length more) o range body, over_is scope o range body, over_is scope o (put range) (put body))
        (binder_alike o (λ env. option_map members ((meaning scope (put range)).value env)) (λ env. option_map members ((meaning scope range).value env)) (meaning scope (put body)) (meaning scope body) _ _
        (ap (λ s. option_map members s.value) (p back)) (bodies_alike body q back));
    all = λ o ty body p back. rw (shift_all (length front) (length more) o ty body, all_is scope o ty body, all_is scope o ty (put body))
        (binder_alike o (λ env. Some (vals scope ty)) (λ env. Some (vals scope ty)) (meaning scope (put body)) (meaning scope body) _ _ refl (bodies_alike body p back));
  })

  -- the term of the outer binders, put under more
  pub shifted : (t : Term) → seen (env_of refs (front ++ more)) (meaning scope (shift (length front) (length more) t)) ≡ seen (env_of refs front) (meaning scope t)
  shifted t =
      ap (λ vs. seen (env_of refs (front ++ vs)) (meaning scope (shift (length front) (length more) t))) (sym (append-nil more))
      ∙ (alike t [] ∙ ap (λ vs. seen (env_of refs vs) (meaning scope t)) (append-nil front))
