-- Operators in narrow form mean what they meant.
use Rattle.std.proofs.Common.{◌≡◌, ◌∙◌, ℕ, Bool, true, false, not, ◌&&◌, ◌||◌, if◌then◌else◌, List, [], length, Option, Some, None, option_map, option_and_then, ℤ, int_le, int_lt, refl, sym, ap, ap₂, subst, arith, append-nil}
use Rattle.std.specs.List.{list_all}
use Rattle.std.proofs.lemmas.Int.{ints}
use Rattle.eb_syntax.specs.declared.ast.Operator.{Operator}
use Rattle.eb_syntax.specs.declared.ast.Operator.TheVariants as op
use Rattle.type_table.specs.Rows.{Sort, predicate, expression, Choice, sort, relation, operator_row}
use Rattle.eb_value.specs.declared.scope.Scope.{Scope}
use Rattle.eb_value.specs.declared.types.EbType.{EbType}
use Rattle.eb_value.specs.declared.value.Value.{Value}
use Rattle.eb_value.specs.Types.{integer, product, power}
use Rattle.eb_value.specs.Values.{layer, set}
use Rattle.eb_value.specs.Comprehensions as sets
use Rattle.eb_value.specs.Comprehensions.{members}
use Rattle.eb_term.specs.declared.operators.Binary.TheVariants as binary
use Rattle.eb_term.specs.declared.term.Term.{Term}
use Rattle.eb_operations.specs.declared.truth3.Truth3.{Truth3}
use Rattle.eb_operations.specs.declared.truth3.Truth3.TheVariants.{Undefined}
use Rattle.eb_meaning.specs.Truths as truths
use Rattle.eb_meaning.specs.Truths.{truth_of, tested}
use Rattle.eb_meaning.specs.Arithmetic.{int_of}
use Rattle.eb_meaning.specs.Meaning.{Slot, Env, Meaning, meaning, value_of, truth_in, with_two, with_ints, with_set, with_sets, set_in, set_by, int_by, test_by, value_by, where_given, is_value, has_value, is_value_of}
use Rattle.eb_meaning.specs.Meaning as means
use Rattle.narrow_terms.specs.Building as built
use Rattle.narrow_terms.specs.Building.{operation}
use Rattle.eb_narrow.specs.Narrow as narrow
use Rattle.eb_narrow.specs.Narrow.{Narrowed}
use Rattle.eb_narrow.proofs.Hypotheses.{Laws}
use Rattle.eb_narrow.proofs.Sights.{Sight, seen, of_value, fixed}
use Rattle.eb_narrow.proofs.Shifts.{env_of, binary_is}
use Rattle.eb_narrow.proofs.Truths.{negation_truth}
use Rattle.eb_narrow.proofs.Pieces.{truth_operation, truth_not, truth_equal, truth_at_most}
use Rattle.eb_narrow.proofs.Represents.{Fits, MayBeIn, Represents, of_form, may_be_in, plain_represents}
use Rattle.eb_narrow.proofs.Forms.{interval_represents}
use Rattle.eb_narrow.proofs.Relations.{product_plain, product_represents, arrow_represents}

-- A narrowed predicate has the truth of the predicate; what a narrowed expression says is right.
abbrev pub KeepsAs : Scope → List Slot → List Value → Sort → Narrowed → Meaning → Type 0
KeepsAs scope refs bound predicate n m = truth_in scope (env_of refs bound) (n.term (length bound)) ≡ m.truth (env_of refs bound)
KeepsAs scope refs bound (expression ty) n m = Represents scope refs bound ty n (seen (env_of refs bound) m)

-- A predicate may have any value; an expression is Undefined or has one of its type.
abbrev pub IsOf : Scope → Sort → Slot → Type 0
IsOf scope predicate o = Unit {0}
IsOf scope (expression t) o = Fits scope t o

-- ---- tests the other way round

not_le : (m n : ℤ) → not (int_le n m) ≡ int_lt m n
not_le m n = grind (arith, ints)

ints_turned : (i j : Option ℤ) → truths.negation (tested (option_and_then (λ n. option_and_then (λ m. Some (int_le n m)) i) j)) ≡ tested (option_and_then (λ m. option_and_then (λ n. Some (int_lt m n)) j) i)
ints_turned None None = refl
ints_turned None (Some n) = refl
ints_turned (Some m) None = refl
ints_turned (Some m) (Some n) = negation_truth (int_le n m) ∙ ap truth_of (not_le m n)

ints_negated : (i j : Option ℤ) → truths.negation (tested (option_and_then (λ m. option_and_then (λ n. Some (int_le m n)) j) i)) ≡ tested (option_and_then (λ m. option_and_then (λ n. Some (int_lt n m)) j) i)
ints_negated None None = refl
ints_negated None (Some n) = refl
ints_negated (Some m) None = refl
ints_negated (Some m) (Some n) = negation_truth (int_le m n) ∙ ap truth_of (not_le n m)

ints_swapped : (i j : Option ℤ) → tested (option_and_then (λ n. option_and_then (λ m. Some (int_le n m)) i) j) ≡ tested (option_and_then (λ m. option_and_then (λ n. Some (int_le n m)) j) i)
ints_swapped None None = refl
ints_swapped None (Some n) = refl
ints_swapped (Some m) None = refl
ints_swapped (Some m) (Some n) = refl

less_by : (a b : Slot) → truths.negation (tested (with_two (test_by op.AtMost) b a)) ≡ tested (with_two (test_by op.Less) a b)
less_by None None = refl
less_by None (Some w) = refl
less_by (Some v) None = refl
less_by (Some v) (Some w) = ints_turned (int_of v) (int_of w)

greater_by : (a b : Slot) → truths.negation (tested (with_two (test_by op.AtMost) a b)) ≡ tested (with_two (test_by op.Greater) a b)
greater_by None None = refl
greater_by None (Some w) = refl
greater_by (Some v) None = refl
greater_by (Some v) (Some w) = ints_negated (int_of v) (int_of w)

at_least_by : (a b : Slot) → tested (with_two (test_by op.AtMost) b a) ≡ tested (with_two (test_by op.AtLeast) a b)
at_least_by None None = refl
at_least_by None (Some w) = refl
at_least_by (Some v) None = refl
at_least_by (Some v) (Some w) = ints_swapped (int_of v) (int_of w)

unequal_by : (a b : Slot) → truths.negation (tested (with_two (test_by op.Equal) a b)) ≡ tested (with_two (test_by op.Unequal) a b)
unequal_by None None = refl
unequal_by None (Some w) = refl
unequal_by (Some v) None = refl
unequal_by (Some v) (Some w) = negation_truth (sets.same v w)

sets_turned : (i j : Option (List Value)) → option_and_then (λ s. option_and_then (λ r. option_map set (set_by op.ForwardComposition s r)) i) j ≡ option_and_then (λ r. option_and_then (λ s. option_map set (set_by op.BackwardComposition r s)) j) i
sets_turned None None = refl
sets_turned None (Some s) = refl
sets_turned (Some r) None = refl
sets_turned (Some r) (Some s) = refl

backward_by : (a b : Slot) → with_two (value_by op.ForwardComposition) b a ≡ with_two (value_by op.BackwardComposition) a b
backward_by None None = refl
backward_by None (Some w) = refl
backward_by (Some v) None = refl
backward_by (Some v) (Some w) = sets_turned (set_in (layer v)) (set_in (layer w))

abbrev nothing : Slot
nothing = None

no_set : (i j : Option (List Value)) → option_and_then (λ s. option_and_then (λ t. nothing) j) i ≡ None
no_set None j = refl
no_set (Some s) None = refl
no_set (Some s) (Some t) = refl

-- the sets of relations have no value
arrow_none : (a b : Slot) → with_two (with_sets (λ s t. nothing)) a b ≡ None
arrow_none None b = refl
arrow_none (Some v) None = refl
arrow_none (Some v) (Some w) = no_set (set_in (layer v)) (set_in (layer w))

none_first : (f : Value → Value → Slot) (a b : Slot) → a ≡ None → with_two f a b ≡ None
none_first f a b e = rw e refl

none_second : (f : Value → Value → Slot) (a b : Slot) → b ≡ None → with_two f a b ≡ None
none_second f None b e = refl
none_second f (Some v) b e = rw e refl

form_sight : (o : Slot) (g : Bool) (h : Value → Bool) → o ≡ None → of_form g h ≡ record { value = o; truth = Undefined; is_given = g; has = h }
form_sight o g h e = ap (λ x. record { value = x; truth = Undefined; is_given = g; has = h }) (sym e)

may_be_member : (scope : Scope) (u : EbType) (a : Slot) → Fits scope u a → MayBeIn scope (power u) a
may_be_member scope u None h = refl
may_be_member scope u (Some v) h = may_be_in scope u v h

and_true : (b : Bool) → b ≡ (b && true)
and_true true = refl
and_true false = refl

conjunction_bools : (p q : Bool) → truths.conjunction (truth_of p) (truths.negation (truth_of q)) ≡ truth_of (p && not q)
conjunction_bools true true = refl
conjunction_bools true false = refl
conjunction_bools false true = refl
conjunction_bools false false = refl

-- within a set, and not the set itself
proper_by : (a o : Slot) → truths.conjunction (where_given (is_value o) (λ v. list_all (has_value o) (members v)) a) (truths.negation (tested (with_two (test_by op.Equal) a o)))
    ≡ where_given (is_value o) (λ v. list_all (has_value o) (members v) && not (is_value_of o v)) a
proper_by None None = refl
proper_by None (Some w) = refl
proper_by (Some v) None = refl
proper_by (Some v) (Some w) = conjunction_bools (list_all (has_value (Some w)) (members v)) (sets.same v w)

within_form : (g : Bool) (p : Value → Bool) (o : Slot) (a : Slot) → o ≡ None → where_given g p a ≡ where_given g (λ v. p v && not (is_value_of o v)) a
within_form false p o a e = refl
within_form true p o None e = refl
within_form true p o (Some v) e = rw e (ap truth_of (and_true (p v)))

module _ (laws : Laws) (scope : Scope) (refs : List Slot) (bound : List Value) where
  abbrev env : Env
  env = env_of refs bound

  abbrev Keeps : Sort → Narrowed → Meaning → Type 0
  Keeps = KeepsAs scope refs bound

  abbrev Right : EbType → Narrowed → Sight → Type 0
  Right = Represents scope refs bound

  -- ---- memberships where the term stands

  has_here : (ty : EbType) (n : Narrowed) (s : Sight) → Right ty n s → (e : Term) → MayBeIn scope ty (value_of scope env e) → truth_in scope env (n.has (length bound) 0 e) ≡ where_given s.is_given s.has (value_of scope env e)
  has_here ty n s r e = subst (λ vs. MayBeIn scope ty (value_of scope (env_of refs vs) e) → truth_in scope (env_of refs vs) (n.has (length bound) 0 e) ≡ where_given s.is_given s.has (value_of scope (env_of refs vs) e)) (append-nil bound) (r.has [] e)

  within_here : (ty : EbType) (n : Narrowed) (s : Sight) → Right ty n s → (e : Term) → Fits scope ty (value_of scope env e) → truth_in scope env (n.has_members (length bound) 0 e) ≡ where_given s.is_given (λ v. list_all s.has (members v)) (value_of scope env e)
  within_here ty n s r e = subst (λ vs. Fits scope ty (value_of scope (env_of refs vs) e) → truth_in scope (env_of refs vs) (n.has_members (length bound) 0 e) ≡ where_given s.is_given (λ v. list_all s.has (members v)) (value_of scope (env_of refs vs) e)) (append-nil bound) (r.within [] e)

  member_keeps : (u : EbType) (a b : Narrowed) (A B : Sight) → Right u a A → Right (power u) b B → truth_in scope env (b.has (length bound) 0 (a.term (length bound))) ≡ where_given B.is_given B.has A.value
  member_keeps u a b A B l r = has_here (power u) b B r (a.term (length bound)) (subst (MayBeIn scope (power u)) (sym l.value) (may_be_member scope u A.value l.fits)) ∙ ap (where_given B.is_given B.has) l.value

  subset_keeps : (u : EbType) (a b : Narrowed) (A B : Sight) → Right u a A → Right u b B → truth_in scope env (b.has_members (length bound) 0 (a.term (length bound))) ≡ where_given B.is_given (λ v. list_all B.has (members v)) A.value
  subset_keeps u a b A B l r = within_here u b B r (a.term (length bound)) (subst (Fits scope u) (sym l.value) l.fits) ∙ ap (where_given B.is_given (λ v. list_all B.has (members v))) l.value

  proper_subset_if : (u : EbType) (a b : Narrowed) (A B : Sight) → Right u a A → Right u b B → (x : Bool) → b.is_form ≡ x
      → truth_in scope env (if x then b.has_members (length bound) 0 (a.term (length bound)) else built.conjunction (built.subset (a.term (length bound)) (b.term (length bound))) (built.negation (built.equal (a.term (length bound)) (b.term (length bound)))))
      ≡ where_given B.is_given (λ v. list_all B.has (members v) && not (is_value_of B.value v)) A.value
  proper_subset_if u a b A B l r true e = subset_keeps u a b A B l r ∙ within_form B.is_given (λ v. list_all B.has (members v)) B.value A.value (r.formless e)
  proper_subset_if u a b A B l r false e =
      let s : Term = a.term (length bound) in
      let t : Term = b.term (length bound) in
      truth_operation scope env op.And (built.subset s t) (built.negation (built.equal s t))
      ∙ (ap₂ truths.conjunction
      (truth_operation scope env op.SubsetOf s t ∙ ap₂ (λ (x : Sight) a. where_given x.is_given (λ v. list_all x.has (members v)) a) (r.plain e).0 l.value)
      (truth_not scope env (built.equal s t) ∙ ap truths.negation (truth_equal scope env s t ∙ ap₂ (λ a b. tested (with_two (test_by op.Equal) a b)) l.value r.value))
      ∙ (proper_by A.value B.value ∙ ap (λ (x : Sight). where_given x.is_given (λ v. list_all x.has (members v) && not (is_value_of B.value v)) A.value) (sym (r.plain e).1)))

  proper_subset_keeps : (u : EbType) (a b : Narrowed) (A B : Sight) → Right u a A → Right u b B
      → truth_in scope env (narrow.proper_subset a b (length bound)) ≡ where_given B.is_given (λ v. list_all B.has (members v) && not (is_value_of B.value v)) A.value
  proper_subset_keeps u a b A B l r = proper_subset_if u a b A B l r b.is_form refl

  -- ---- comparisons

  compared_keeps : (o : Operator) (a b : Term) (x y : Slot) → truth_in scope env (operation o a b) ≡ tested (with_two (test_by o) (value_of scope env a) (value_of scope env b)) → value_of scope env a ≡ x → value_of scope env b ≡ y
      → truth_in scope env (operation o a b) ≡ tested (with_two (test_by o) x y)
  compared_keeps o a b x y h p q = h ∙ ap₂ (λ x y. tested (with_two (test_by o) x y)) p q

  negated : (p : Term) (t : Truth3) → truth_in scope env p ≡ t → truth_in scope env (built.negation p) ≡ truths.negation t
  negated p t h = truth_not scope env p ∙ ap truths.negation h

  -- ---- operations

  -- an operation that stays, whose meaning depends on the values alone
  plain_operator : (o : Operator) (ty : Option EbType) (u : EbType) (a b : ℕ → Term) (A B : Meaning) → value_of scope env (a (length bound)) ≡ A.value env → value_of scope env (b (length bound)) ≡ B.value env
      → ((x y : Meaning) → seen env (means.by_operator o x y) ≡ of_value (with_two (value_by o) (x.value env) (y.value env)))
      → Fits scope u (with_two (value_by o) (A.value env) (B.value env))
      → Right u (narrow.expression ty (λ d. operation o (a d) (b d))) (seen env (means.by_operator o A B))
  plain_operator o ty u a b A B p q is f =
      subst (λ s. Right u (narrow.expression ty (λ d. operation o (a d) (b d))) s) (sym (is A B))
      (plain_represents scope refs bound ty (λ d. operation o (a d) (b d)) (with_two (value_by o) (A.value env) (B.value env)) u f
      (ap (seen env) (binary_is scope (binary.Operator o) (a (length bound)) (b (length bound))) ∙ (is (meaning scope (a (length bound))) (meaning scope (b (length bound))) ∙ ap of_value (ap₂ (λ x y. with_two (value_by o) x y) p q))))

  -- r ; s in place of s circ r
  backward_keeps : (ty : Option EbType) (u : EbType) (a b : ℕ → Term) (A B : Meaning) → value_of scope env (a (length bound)) ≡ A.value env → value_of scope env (b (length bound)) ≡ B.value env
      → Fits scope u (with_two (value_by op.BackwardComposition) (A.value env) (B.value env))
      → Right u (narrow.expression ty (λ d. operation op.ForwardComposition (b d) (a d))) (of_value (with_two (value_by op.BackwardComposition) (A.value env) (B.value env)))
  backward_keeps ty u a b A B p q f =
      plain_represents scope refs bound ty (λ d. operation op.ForwardComposition (b d) (a d)) (with_two (value_by op.BackwardComposition) (A.value env) (B.value env)) u f
      (ap (seen env) (binary_is scope (binary.Operator op.ForwardComposition) (b (length bound)) (a (length bound))) ∙ ap of_value (ap₂ (λ x y. with_two (value_by op.ForwardComposition) x y) q p ∙ backward_by (A.value env) (B.value env)))

  arrow_keeps : (o : Operator) (s t : EbType) (ty : Option EbType) (a b : Narrowed) (A B : Meaning) → Right (power s) a (seen env A) → Right (power t) b (seen env B) → (m : Sight)
      → m ≡ record { value = with_two (with_sets (λ s t. nothing)) (A.value env) (B.value env); truth = Undefined; is_given = A.is_given env && B.is_given env; has = λ v. means.is_relation v && means.is_related o env (fixed (seen env A)) (fixed (seen env B)) (members v) }
      → Right (power (power (product s t))) (narrow.arrow_form o ty a b) m
  arrow_keeps o s t ty a b A B l r m e =
      subst (λ x. Right (power (power (product s t))) (narrow.arrow_form o ty a b) x)
      (form_sight (with_two (with_sets (λ s t. nothing)) (A.value env) (B.value env)) (A.is_given env && B.is_given env) (λ v. means.is_relation v && means.is_related o env (fixed (seen env A)) (fixed (seen env B)) (members v)) (arrow_none (A.value env) (B.value env)) ∙ sym e)
      (arrow_represents laws scope refs bound s t ty a b (seen env A) (seen env B) l r o)

  abbrev product_of : Meaning → Meaning → Sight
  product_of A B = seen env (means.by_operator op.Product A B)

  product_form_keeps : (s t : EbType) (ty : Option EbType) (a b : Narrowed) (A B : Meaning) → Right (power s) a (seen env A) → Right (power t) b (seen env B) → with_two (value_by op.Product) (A.value env) (B.value env) ≡ None
      → Right (power (product s t)) (narrow.product_form ty a b) (product_of A B)
  product_form_keeps s t ty a b A B l r e =
      subst (λ x. Right (power (product s t)) (narrow.product_form ty a b) x) (form_sight (with_two (value_by op.Product) (A.value env) (B.value env)) (A.is_given env && B.is_given env) (means.is_pair_of env A B) e)
      (product_represents laws scope refs bound s t ty a b (seen env A) (seen env B) l r)

  product_alike : (s t : EbType) (A B : Meaning) (x y : Slot) → Fits scope (power s) x → Fits scope (power t) y → seen env A ≡ of_value x → seen env B ≡ of_value y → product_of A B ≡ of_value (with_two (value_by op.Product) x y)
  product_alike s t A B x y f g p q =
      ap₂ (λ (X Y : Sight). record { value = with_two (value_by op.Product) X.value Y.value; truth = Undefined; is_given = X.is_given && Y.is_given; has = λ v. means.maplet_passes (λ m. X.has m.first && Y.has m.second) (sets.maplet_in (layer v)) }) p q
      ∙ product_plain laws scope s t x y f g

  product_plain_keeps : (s t : EbType) (ty : Option EbType) (a b : Narrowed) (A B : Meaning) → Right (power s) a (seen env A) → Right (power t) b (seen env B) → a.is_form ≡ false → b.is_form ≡ false
      → Fits scope (power (product s t)) (with_two (value_by op.Product) (A.value env) (B.value env))
      → Right (power (product s t)) (narrow.expression ty (λ d. operation op.Product (a.term d) (b.term d))) (product_of A B)
  product_plain_keeps s t ty a b A B l r x y f =
      subst (λ z. Right (power (product s t)) (narrow.expression ty (λ d. operation op.Product (a.term d) (b.term d))) z)
      (sym (product_alike s t A B (A.value env) (B.value env) l.fits r.fits (l.plain x).1 (r.plain y).1))
      (plain_represents scope refs bound ty (λ d. operation op.Product (a.term d) (b.term d)) (with_two (value_by op.Product) (A.value env) (B.value env)) (power (product s t)) f
      (ap (seen env) (binary_is scope (binary.Operator op.Product) (a.term (length bound)) (b.term (length bound)))
      ∙ product_alike s t (meaning scope (a.term (length bound))) (meaning scope (b.term (length bound))) (A.value env) (B.value env) l.fits r.fits (l.plain x).0 (r.plain y).0))

  product_if : (s t : EbType) (ty : Option EbType) (a b : Narrowed) (A B : Meaning) → Right (power s) a (seen env A) → Right (power t) b (seen env B) → (x y : Bool) → a.is_form ≡ x → b.is_form ≡ y
      → Fits scope (power (product s t)) (with_two (value_by op.Product) (A.value env) (B.value env))
      → Right (power (product s t)) (if x || y then narrow.product_form ty a b else narrow.by_relation op.Product ty a b) (product_of A B)
  product_if s t ty a b A B l r true y p q f = product_form_keeps s t ty a b A B l r (none_first (value_by op.Product) (A.value env) (B.value env) (l.formless p))
  product_if s t ty a b A B l r false true p q f = product_form_keeps s t ty a b A B l r (none_second (value_by op.Product) (A.value env) (B.value env) (r.formless q))
  product_if s t ty a b A B l r false false p q f = product_plain_keeps s t ty a b A B l r p q f

  pub operator_keeps : (o : Operator) (v : Choice) (ty : Option EbType) (a b : Narrowed) (A B : Meaning) → Keeps (sort v (operator_row o).left) a A → Keeps (sort v (operator_row o).right) b B
      → IsOf scope (sort v (operator_row o).whole) (with_two (value_by o) (A.value env) (B.value env)) → Keeps (sort v (operator_row o).whole) (narrow.by_operator o ty a b) (means.by_operator o A B)
  operator_keeps op.And v ty a b A B l r f = truth_operation scope env op.And (a.term (length bound)) (b.term (length bound)) ∙ ap₂ truths.conjunction l r
  operator_keeps op.Or v ty a b A B l r f = truth_operation scope env op.Or (a.term (length bound)) (b.term (length bound)) ∙ ap₂ truths.disjunction l r
  operator_keeps op.Implies v ty a b A B l r f = truth_operation scope env op.Implies (a.term (length bound)) (b.term (length bound)) ∙ ap₂ truths.implication l r
  operator_keeps op.Equivalent v ty a b A B l r f = truth_operation scope env op.Equivalent (a.term (length bound)) (b.term (length bound)) ∙ ap₂ truths.equivalence l r
  operator_keeps op.Equal v ty a b A B l r f = compared_keeps op.Equal (a.term (length bound)) (b.term (length bound)) (A.value env) (B.value env) (truth_equal scope env (a.term (length bound)) (b.term (length bound))) l.value r.value
  operator_keeps op.Unequal v ty a b A B l r f = negated (built.equal (a.term (length bound)) (b.term (length bound))) (tested (with_two (test_by op.Equal) (A.value env) (B.value env))) (compared_keeps op.Equal (a.term (length bound)) (b.term (length bound)) (A.value env) (B.value env) (truth_equal scope env (a.term (length bound)) (b.term (length bound))) l.value r.value) ∙ unequal_by (A.value env) (B.value env)
  operator_keeps op.Less v ty a b A B l r f = negated (built.at_most (b.term (length bound)) (a.term (length bound))) (tested (with_two (test_by op.AtMost) (B.value env) (A.value env))) (compared_keeps op.AtMost (b.term (length bound)) (a.term (length bound)) (B.value env) (A.value env) (truth_at_most scope env (b.term (length bound)) (a.term (length bound))) r.value l.value) ∙ less_by (A.value env) (B.value env)
  operator_keeps op.Greater v ty a b A B l r f = negated (built.at_most (a.term (length bound)) (b.term (length bound))) (tested (with_two (test_by op.AtMost) (A.value env) (B.value env))) (compared_keeps op.AtMost (a.term (length bound)) (b.term (length bound)) (A.value env) (B.value env) (truth_at_most scope env (a.term (length bound)) (b.term (length bound))) l.value r.value) ∙ greater_by (A.value env) (B.value env)
  operator_keeps op.AtMost v ty a b A B l r f = compared_keeps op.AtMost (a.term (length bound)) (b.term (length bound)) (A.value env) (B.value env) (truth_at_most scope env (a.term (length bound)) (b.term (length bound))) l.value r.value
  operator_keeps op.AtLeast v ty a b A B l r f = compared_keeps op.AtMost (b.term (length bound)) (a.term (length bound)) (B.value env) (A.value env) (truth_at_most scope env (b.term (length bound)) (a.term (length bound))) r.value l.value ∙ at_least_by (A.value env) (B.value env)
  operator_keeps op.MemberOf v ty a b A B l r f = member_keeps v.for_a a b (seen env A) (seen env B) l r
  operator_keeps op.NotMemberOf v ty a b A B l r f = negated (b.has (length bound) 0 (a.term (length bound))) (where_given (B.is_given env) (B.has env) (A.value env)) (member_keeps v.for_a a b (seen env A) (seen env B) l r)
  operator_keeps op.SubsetOf v ty a b A B l r f = subset_keeps (power v.for_a) a b (seen env A) (seen env B) l r
  operator_keeps op.NotSubsetOf v ty a b A B l r f = negated (b.has_members (length bound) 0 (a.term (length bound))) (where_given (B.is_given env) (means.is_within env B) (A.value env)) (subset_keeps (power v.for_a) a b (seen env A) (seen env B) l r)
  operator_keeps op.ProperSubsetOf v ty a b A B l r f = proper_subset_keeps (power v.for_a) a b (seen env A) (seen env B) l r
  operator_keeps op.NotProperSubsetOf v ty a b A B l r f = negated (narrow.proper_subset a b (length bound)) (means.proper_subset env A B) (proper_subset_keeps (power v.for_a) a b (seen env A) (seen env B) l r)
  operator_keeps op.MapsTo v ty a b A B l r f = plain_operator op.MapsTo ty (product v.for_a v.for_b) a.term b.term A B l.value r.value (λ x y. refl) f
  operator_keeps op.Plus v ty a b A B l r f = plain_operator op.Plus ty integer a.term b.term A B l.value r.value (λ x y. refl) f
  operator_keeps op.Minus v ty a b A B l r f = plain_operator op.Minus ty integer a.term b.term A B l.value r.value (λ x y. refl) f
  operator_keeps op.Times v ty a b A B l r f = plain_operator op.Times ty integer a.term b.term A B l.value r.value (λ x y. refl) f
  operator_keeps op.Divide v ty a b A B l r f = plain_operator op.Divide ty integer a.term b.term A B l.value r.value (λ x y. refl) f
  operator_keeps op.Modulo v ty a b A B l r f = plain_operator op.Modulo ty integer a.term b.term A B l.value r.value (λ x y. refl) f
  operator_keeps op.Power v ty a b A B l r f = plain_operator op.Power ty integer a.term b.term A B l.value r.value (λ x y. refl) f
  operator_keeps op.Union v ty a b A B l r f = plain_operator op.Union ty (power v.for_a) a.term b.term A B l.value r.value (λ x y. refl) f
  operator_keeps op.Intersection v ty a b A B l r f = plain_operator op.Intersection ty (power v.for_a) a.term b.term A B l.value r.value (λ x y. refl) f
  operator_keeps op.Difference v ty a b A B l r f = plain_operator op.Difference ty (power v.for_a) a.term b.term A B l.value r.value (λ x y. refl) f
  operator_keeps op.ForwardComposition v ty a b A B l r f = plain_operator op.ForwardComposition ty (relation v.for_a v.for_c) a.term b.term A B l.value r.value (λ x y. refl) f
  operator_keeps op.DomainRestriction v ty a b A B l r f = plain_operator op.DomainRestriction ty (relation v.for_a v.for_b) a.term b.term A B l.value r.value (λ x y. refl) f
  operator_keeps op.DomainSubtraction v ty a b A B l r f = plain_operator op.DomainSubtraction ty (relation v.for_a v.for_b) a.term b.term A B l.value r.value (λ x y. refl) f
  operator_keeps op.RangeRestriction v ty a b A B l r f = plain_operator op.RangeRestriction ty (relation v.for_a v.for_b) a.term b.term A B l.value r.value (λ x y. refl) f
  operator_keeps op.RangeSubtraction v ty a b A B l r f = plain_operator op.RangeSubtraction ty (relation v.for_a v.for_b) a.term b.term A B l.value r.value (λ x y. refl) f
  operator_keeps op.Override v ty a b A B l r f = plain_operator op.Override ty (relation v.for_a v.for_b) a.term b.term A B l.value r.value (λ x y. refl) f
  operator_keeps op.DirectProduct v ty a b A B l r f = plain_operator op.DirectProduct ty (relation v.for_a (product v.for_b v.for_c)) a.term b.term A B l.value r.value (λ x y. refl) f
  operator_keeps op.ParallelProduct v ty a b A B l r f = plain_operator op.ParallelProduct ty (relation (product v.for_a v.for_b) (product v.for_c v.for_d)) a.term b.term A B l.value r.value (λ x y. refl) f
  operator_keeps op.Image v ty a b A B l r f = plain_operator op.Image ty (power v.for_b) a.term b.term A B l.value r.value (λ x y. refl) f
  operator_keeps op.Apply v ty a b A B l r f = plain_operator op.Apply ty v.for_b a.term b.term A B l.value r.value (λ x y. refl) f
  operator_keeps op.BackwardComposition v ty a b A B l r f = backward_keeps ty (relation v.for_a v.for_c) a.term b.term A B l.value r.value f
  operator_keeps op.UpTo v ty a b A B l r f = interval_represents laws scope refs bound ty a b (seen env A) (seen env B) l r (with_two (value_by op.UpTo) (A.value env) (B.value env)) refl f
  operator_keeps op.Product v ty a b A B l r f = product_if v.for_a v.for_b ty a b A B l r a.is_form b.is_form refl refl f
  operator_keeps op.Relation v ty a b A B l r f = arrow_keeps op.Relation v.for_a v.for_b ty a b A B l r (seen env (means.by_operator op.Relation A B)) refl
  operator_keeps op.TotalRelation v ty a b A B l r f = arrow_keeps op.TotalRelation v.for_a v.for_b ty a b A B l r (seen env (means.by_operator op.TotalRelation A B)) refl
  operator_keeps op.SurjectiveRelation v ty a b A B l r f = arrow_keeps op.SurjectiveRelation v.for_a v.for_b ty a b A B l r (seen env (means.by_operator op.SurjectiveRelation A B)) refl
  operator_keeps op.TotalSurjectiveRelation v ty a b A B l r f = arrow_keeps op.TotalSurjectiveRelation v.for_a v.for_b ty a b A B l r (seen env (means.by_operator op.TotalSurjectiveRelation A B)) refl
  operator_keeps op.PartialFunction v ty a b A B l r f = arrow_keeps op.PartialFunction v.for_a v.for_b ty a b A B l r (seen env (means.by_operator op.PartialFunction A B)) refl
  operator_keeps op.TotalFunction v ty a b A B l r f = arrow_keeps op.TotalFunction v.for_a v.for_b ty a b A B l r (seen env (means.by_operator op.TotalFunction A B)) refl
  operator_keeps op.PartialInjection v ty a b A B l r f = arrow_keeps op.PartialInjection v.for_a v.for_b ty a b A B l r (seen env (means.by_operator op.PartialInjection A B)) refl
  operator_keeps op.TotalInjection v ty a b A B l r f = arrow_keeps op.TotalInjection v.for_a v.for_b ty a b A B l r (seen env (means.by_operator op.TotalInjection A B)) refl
  operator_keeps op.PartialSurjection v ty a b A B l r f = arrow_keeps op.PartialSurjection v.for_a v.for_b ty a b A B l r (seen env (means.by_operator op.PartialSurjection A B)) refl
  operator_keeps op.TotalSurjection v ty a b A B l r f = arrow_keeps op.TotalSurjection v.for_a v.for_b ty a b A B l r (seen env (means.by_operator op.TotalSurjection A B)) refl
  operator_keeps op.Bijection v ty a b A B l r f = arrow_keeps op.Bijection v.for_a v.for_b ty a b A B l r (seen env (means.by_operator op.Bijection A B)) refl
