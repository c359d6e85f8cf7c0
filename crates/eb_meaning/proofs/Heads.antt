-- What a term means by its head.
use Rattle.std.proofs.Common.{◌≡◌, rules, option_map}
use Rattle.eb_syntax.specs.declared.ast.Operator.{Operator}
use Rattle.eb_value.specs.declared.scope.Scope.{Scope}
use Rattle.eb_value.specs.declared.types.EbType.{EbType}
use Rattle.eb_value.specs.Comprehensions.{members}
use Rattle.eb_value.specs.Scopes.{vals}
use Rattle.eb_term.specs.declared.operators.Binary.{Binary}
use Rattle.eb_term.specs.declared.operators.Binary.TheVariants as binary
use Rattle.eb_term.specs.declared.operators.Binder.{Binder}
use Rattle.eb_term.specs.declared.term.Term.{Term, fold_out-Term}
use Rattle.eb_term.specs.declared.term.Head.{the_lemmas}
use Rattle.eb_term.specs.declared.term.Head.TheVariants as head
use Rattle.eb_meaning.specs.Meaning.{meaning, by_operator, by_binder}
use Rattle.std.proofs.Common.{Some}

pub operator_is : (scope : Scope) (t first second : Term) (b : Binary) (o : Operator) → t.head ≡ head.Binary b first second → b ≡ binary.Operator o
    → meaning scope t ≡ by_operator o (meaning scope first) (meaning scope second)
operator_is scope t first second b o p q = search (rules, fold_out-Term, the_lemmas, p, q)

pub over_is : (scope : Scope) (t range body : Term) (o k : Binder) → t.head ≡ head.Over o range body → o ≡ k
    → meaning scope t ≡ by_binder k (λ env. option_map members ((meaning scope range).value env)) (meaning scope body)
over_is scope t range body o k p q = search (rules, fold_out-Term, the_lemmas, p, q)

pub all_is : (scope : Scope) (t body : Term) (ty : EbType) (o k : Binder) → t.head ≡ head.All o ty body → o ≡ k
    → meaning scope t ≡ by_binder k (λ env. Some (vals scope ty)) (meaning scope body)
all_is scope t body ty o k p q = search (rules, fold_out-Term, the_lemmas, p, q)
