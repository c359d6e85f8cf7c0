-- A term that is put under no more binders is the same.
use Rattle.std.proofs.Common.{◌≡◌, ◌∙◌, refl, ap, ap₂, ℕ, ◌+◌, nat_lt, Bool, true, false, if◌then◌else◌, List, [], ◌∷◌, map, arith, rules}
use Rattle.std.specs.List.{AllByRecursion}
use Rattle.eb_value.specs.declared.types.EbType.{EbType}
use Rattle.eb_term.specs.declared.operators.Unary.{Unary}
use Rattle.eb_term.specs.declared.operators.Binary.{Binary}
use Rattle.eb_term.specs.declared.operators.Binder.{Binder}
use Rattle.eb_term.specs.declared.operators.Many.{Many}
use Rattle.eb_term.specs.declared.operators.Side.{Side}
use Rattle.eb_term.specs.declared.term.Term.{Term}
use Rattle.eb_term.specs.declared.term.Head.{the_lemmas}
use Rattle.eb_term.specs.Terms as term
use Rattle.narrow_terms.specs.Shifting.{shift}
use Rattle.narrow_terms.proofs.TermInduction.{ind_term}

variable_is : (from k : ℕ) (path : List Side) (ty : EbType) → shift from 0 (term.variable k path ty) ≡ term.variable (if nat_lt k from then k else k + 0) path ty
variable_is from k path ty = search (rules, the_lemmas)

same_number : (k : ℕ) (b : Bool) → (if b then k else k + 0) ≡ k
same_number k true = refl
same_number k false = omega arith

unary_is : (from : ℕ) (o : Unary) (a : Term) → shift from 0 (term.unary o a) ≡ term.unary o (shift from 0 a)
unary_is from o a = search (rules, the_lemmas)

binary_is : (from : ℕ) (o : Binary) (a b : Term) → shift from 0 (term.binary o a b) ≡ term.binary o (shift from 0 a) (shift from 0 b)
binary_is from o a b = search (rules, the_lemmas)

many_is : (from : ℕ) (o : Many) (ts : List Term) → shift from 0 (term.many o ts) ≡ term.many o (map (shift from 0) ts)
many_is from o ts = search (rules, the_lemmas)

over_is : (from : ℕ) (o : Binder) (range body : Term) → shift from 0 (term.over o range body) ≡ term.over o (shift from 0 range) (shift from 0 body)
over_is from o range body = search (rules, the_lemmas)

all_is : (from : ℕ) (o : Binder) (ty : EbType) (body : Term) → shift from 0 (term.all o ty body) ≡ term.all o ty (shift from 0 body)
all_is from o ty body = search (rules, the_lemmas)

each_same : (from : ℕ) (ts : List Term) → AllByRecursion (λ t. shift from 0 t ≡ t) ts → map (shift from 0) ts ≡ ts
each_same from [] h = refl
each_same from (t ∷ ts) h = ap₂ (λ x xs. x ∷ xs) h.0 (each_same from ts h.1)

pub same : (from : ℕ) (t : Term) → shift from 0 t ≡ t
same from = ind_term (λ t. shift from 0 t ≡ t) (record {
  truth = λ b. search (rules, the_lemmas);
  literal = λ v ty. search (rules, the_lemmas);
  reference = λ place ty. search (rules, the_lemmas);
  variable = λ k path ty. variable_is from k path ty ∙ ap (λ n. term.variable n path ty) (same_number k (nat_lt k from));
  infinite = λ i. search (rules, the_lemmas);
  identity = λ ty. search (rules, the_lemmas);
  projection = λ s a b. search (rules, the_lemmas);
  unary = λ o a p. unary_is from o a ∙ ap (term.unary o) p;
  binary = λ o a b p q. binary_is from o a b ∙ ap₂ (term.binary o) p q;
  many = λ o ts p. many_is from o ts ∙ ap (term.many o) (each_same from ts p);
  over = λ o range body p q. over_is from o range body ∙ ap₂ (term.over o) p q;
  all = λ o ty body p. all_is from o ty body ∙ ap (term.all o ty) p;
})
