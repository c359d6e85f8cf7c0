-- The first domains, read by the numbers of types.
use Rattle.std.proofs.Common.{◌≡◌, ◌∙◌, refl, sym, ap, ℕ, zero, suc, ◌≤◌, List, [], ◌∷◌, length, slice_get, Option, Some, None, arith, true, false}
use Rattle.std.specs.Prelude.{MatchOption, option_map}
use Rattle.std.proofs.lemmas.Option.{slice_get-map}
use Rattle.eb_value.specs.declared.scope.Scope.{Scope}
use Rattle.eb_value.specs.declared.types.EbType.{EbType}
use Rattle.eb_term.specs.declared.problem.Choice.{Choice}
use Rattle.eb_term.specs.declared.problem.Problem.{Problem}
use Rattle.eb_term.specs.declared.term.Term.{Term}
use Rattle.eb_term.specs.Nodes.{nodes_of}
use Rattle.term_types.specs.Types.{type_of}
use Rattle.problem_nodes.specs.Aboves.{above_of}
use Rattle.occ_domains.specs.declared.domain.Domain.{Domain}
use Rattle.occ_domains.specs.declared.domain.Domain.TheVariants as domain
use Rattle.occ_domains.specs.Domains.{nothing}
use Rattle.occ_domains.specs.Wholes.{first}
use Rattle.occurrences.specs.Stores.{is_fact, is_fact_above, truth_alone, choice_domain, term_domain, whole_by}
use Rattle.domain_store.specs.steps.Firsts.{choice_domains, AreOfTerms, IsOfNode, AreOfNodes, node_domain}

choice_by : (scope : Scope) (o : Option Choice) (d : Domain) → option_map (λ c. domain.Values (first scope c.ty) false) o ≡ Some d → d ≡ choice_domain scope o
choice_by scope None d e = absurd (cc)
choice_by scope (Some c) d e = let f : domain.Values (first scope c.ty) false ≡ d = cc in sym f

pub choice_there : (scope : Scope) (choices : List Choice) (ds : List Domain) (k : ℕ) (d : Domain) → ds ≡ choice_domains scope choices → slice_get ds k ≡ Some d
    → d ≡ choice_domain scope (slice_get choices k)
choice_there scope choices ds k d is e =
    choice_by scope (slice_get choices k) d (sym (slice_get-map (λ c. domain.Values (first scope c.ty) false) choices k) ∙ (sym (ap (λ xs. slice_get xs k) is) ∙ e))

-- lists of one length have no place alike
pub past_alike : {A B : Type 0} (xs : List A) (ys : List B) (k : ℕ) → length xs ≡ length ys → slice_get xs k ≡ None → slice_get ys k ≡ None
past_alike [] [] k same e = refl
past_alike [] (y ∷ ys) k same e = absurd (omega arith)
past_alike (x ∷ xs) [] k same e = refl
past_alike (x ∷ xs) (y ∷ ys) zero same e = absurd (cc)
past_alike (x ∷ xs) (y ∷ ys) (suc k) same e = past_alike xs ys k (omega arith) e

none_past : {A : Type 0} (xs : List A) (k : ℕ) → slice_get xs k ≡ None → length xs ≤ k
none_past [] k e = omega arith
none_past (x ∷ xs) zero e = absurd (cc)
none_past (x ∷ xs) (suc k) e = let more : length xs ≤ k = none_past xs k e in omega arith

choice_past_by : (scope : Scope) (o : Option Choice) → option_map (λ c. domain.Values (first scope c.ty) false) o ≡ None → nothing ≡ choice_domain scope o
choice_past_by scope None e = refl
choice_past_by scope (Some c) e = absurd (cc)

pub choice_past : (scope : Scope) (choices : List Choice) (ds : List Domain) (k : ℕ) → ds ≡ choice_domains scope choices → slice_get ds k ≡ None
    → nothing ≡ choice_domain scope (slice_get choices k)
choice_past scope choices ds k is e =
    choice_past_by scope (slice_get choices k) (sym (slice_get-map (λ c. domain.Values (first scope c.ty) false) choices k) ∙ (sym (ap (λ xs. slice_get xs k) is) ∙ e))

term_by : (scope : Scope) (types : List (Option EbType)) (o : Option Term) (number : ℕ) (d : Domain) → MatchOption o ⊥ (λ t. slice_get types number ≡ Some (type_of t))
    → ((ty : Option EbType) → slice_get types number ≡ Some ty → d ≡ whole_by scope ty) → d ≡ term_domain scope o
term_by scope types None number d h f = absurd h
term_by scope types (Some t) number d h f = f (type_of t) h

pub term_there : (scope : Scope) (types : List (Option EbType)) (terms : List Term) (numbers : List ℕ) (k number : ℕ) (d : Domain) → AreOfTerms types terms numbers
    → slice_get numbers k ≡ Some number → ((ty : Option EbType) → slice_get types number ≡ Some ty → d ≡ whole_by scope ty) → d ≡ term_domain scope (slice_get terms k)
term_there scope types terms numbers k number d are e f = term_by scope types (slice_get terms k) number d (are.each.at k number e) f

pub term_past : (scope : Scope) (types : List (Option EbType)) (terms : List Term) (numbers : List ℕ) (k : ℕ) → AreOfTerms types terms numbers
    → slice_get numbers k ≡ None → nothing ≡ term_domain scope (slice_get terms k)
term_past scope types terms numbers k are e = sym (ap (term_domain scope) (past_alike numbers terms k are.count e))

pub node_there : (scope : Scope) (types : List (Option EbType)) (p : Problem) (numbers : List (Option ℕ)) (k number : ℕ) (d : Domain) → AreOfNodes types p numbers
    → slice_get numbers k ≡ Some (Some number) → ((ty : Option EbType) → slice_get types number ≡ Some ty → d ≡ whole_by scope ty) → d ≡ node_domain scope p k
node_there scope types p numbers k number d are e f =
    let is : IsOfNode types p k (Some number) = are.each.at k (Some number) e in
    rw is.0 (term_by scope types (slice_get (nodes_of p) k) number d is.1 f)

pub fact_there : (scope : Scope) (types : List (Option EbType)) (p : Problem) (numbers : List (Option ℕ)) (k : ℕ) (d : Domain) → AreOfNodes types p numbers
    → slice_get numbers k ≡ Some None → d ≡ truth_alone true → d ≡ node_domain scope p k
fact_there scope types p numbers k d are e f = let is : is_fact p k ≡ true = are.each.at k None e in rw is f

pub node_past : (scope : Scope) (types : List (Option EbType)) (p : Problem) (numbers : List (Option ℕ)) (k : ℕ) → AreOfNodes types p numbers
    → slice_get numbers k ≡ None → (length (nodes_of p) ≤ k → above_of p k ≡ None) → nothing ≡ node_domain scope p k
node_past scope types p numbers k are e past =
    let less : length numbers ≤ k = none_past numbers k e in
    let same : length numbers ≡ length (nodes_of p) = are.count in
    let none : is_fact p k ≡ false = ap is_fact_above (past (omega arith)) in
    rw none (sym (ap (term_domain scope) (past_alike numbers (nodes_of p) k same e)))
