-- The numbers of types, while more types get one.
use Rattle.std.proofs.Common.{◌≡◌, ◌∙◌, refl, sym, ap, subst, ℕ, ◌<◌, List, [], ◌∷◌, ◌++◌, length, slice_get, get_or, Option, Some, None}
use Rattle.std.specs.Prelude.{MatchOption}
use Rattle.std.proofs.lemmas.Option.{slice_get_read}
use Rattle.eb_value.specs.declared.types.EbType.{EbType}
use Rattle.eb_term.specs.declared.problem.Problem.{Problem}
use Rattle.eb_term.specs.declared.term.Term.{Term}
use Rattle.eb_term.specs.Nodes.{nodes_of}
use Rattle.term_types.specs.Types.{type_of}
use Rattle.domain_store.specs.steps.Firsts.{Types, Extends, Each, IsOfTerm, AreOfTerms, IsOfNode}
use Rattle.domain_store.proofs.EachLaws.{each_push, each_more}

pub extends_itself : {a : Types} → Extends a a
extends_itself = record { scope = refl; types = λ k ty e. e }

pub extends_more : {a b c : Types} → Extends a b → Extends b c → Extends a c
extends_more f g = record { scope = g.scope ∙ f.scope; types = λ k ty e. g.types k ty (f.types k ty e) }

term_by : (old now : Types) → Extends old now → (o : Option Term) (number : ℕ)
    → MatchOption o ⊥ (λ t. slice_get old.types number ≡ Some (type_of t)) → MatchOption o ⊥ (λ t. slice_get now.types number ≡ Some (type_of t))
term_by old now keeps None number h = h
term_by old now keeps (Some t) number h = keeps.types number (type_of t) h

pub term_more : (old now : Types) → Extends old now → (terms : List Term) (k number : ℕ) → IsOfTerm old.types terms k number → IsOfTerm now.types terms k number
term_more old now keeps terms k number h = term_by old now keeps (slice_get terms k) number h

pub of_term : (types : List (Option EbType)) (terms : List Term) (k number : ℕ) (t : Term) → slice_get terms k ≡ Some t → slice_get types number ≡ Some (type_of t)
    → IsOfTerm types terms k number
of_term types terms k number t e h = subst (λ o. MatchOption o ⊥ (λ t. slice_get types number ≡ Some (type_of t))) (sym e) h

-- the number of one more term
pub term_push : (old now : Types) (terms : List Term) (numbers : List ℕ) (k number : ℕ) (t : Term) → Extends old now → Each (IsOfTerm old.types terms) numbers
    → length numbers ≡ k → k < length terms → t ≡ get_or terms k t → slice_get now.types number ≡ Some (type_of t)
    → Each (IsOfTerm now.types terms) (numbers ++ number ∷ [])
term_push old now terms numbers k number t keeps each count less item is =
    let there : slice_get terms k ≡ Some t = slice_get_read terms (length terms) k t refl less item in
    let here : slice_get terms (length numbers) ≡ Some t = ap (slice_get terms) count ∙ there in
    each_push number (each_more (term_more old now keeps terms) each) (of_term now.types terms (length numbers) number t here is)

node_more : (old now : Types) → Extends old now → (p : Problem) (k : ℕ) (o : Option ℕ) → IsOfNode old.types p k o → IsOfNode now.types p k o
node_more old now keeps p k None h = h
node_more old now keeps p k (Some number) h = (h.0, term_more old now keeps (nodes_of p) k number h.1)

-- the number of one more node
pub node_push : (old now : Types) (p : Problem) (numbers : List (Option ℕ)) (k : ℕ) (o : Option ℕ) → Extends old now → Each (IsOfNode old.types p) numbers
    → length numbers ≡ k → IsOfNode now.types p k o → Each (IsOfNode now.types p) (numbers ++ o ∷ [])
node_push old now p numbers k o keeps each count is =
    each_push o (each_more (node_more old now keeps p) each) (subst (λ j. IsOfNode now.types p j o) (sym count) is)

pub terms_more : (old now : Types) → Extends old now → (terms : List Term) (numbers : List ℕ) → AreOfTerms old.types terms numbers → AreOfTerms now.types terms numbers
terms_more old now keeps terms numbers are = record { count = are.count; each = each_more (term_more old now keeps terms) are.each }
