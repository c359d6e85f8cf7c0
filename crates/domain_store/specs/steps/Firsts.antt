-- Means of proof: the first domain of each place, by the numbers of the types of its terms.
use Rattle.std.specs.Prelude.{◌≡◌, ℕ, true, false, List, length, Option, Some, None, slice_get, MatchOption, map, if◌then◌else◌}
use Rattle.eb_value.specs.declared.scope.Scope.{Scope}
use Rattle.eb_value.specs.declared.types.EbType.{EbType}
use Rattle.eb_term.specs.declared.problem.Choice.{Choice}
use Rattle.eb_term.specs.declared.problem.Problem.{Problem}
use Rattle.eb_term.specs.declared.term.Term.{Term}
use Rattle.eb_term.specs.Nodes.{nodes_of}
use Rattle.term_types.specs.Types.{type_of}
use Rattle.occ_domains.specs.declared.domain.Domain.{Domain}
use Rattle.occ_domains.specs.declared.domain.Domain.TheVariants as domain
use Rattle.occ_domains.specs.Domains.{nothing}
use Rattle.occ_domains.specs.Wholes.{first}
use Rattle.occurrences.specs.Stores.{is_fact, truth_alone, term_domain}

-- the types that have a number, of which predicates have none
pub record Types : Type 0 where
  pub scope : Scope
  pub types : List (Option EbType)

-- each type that had a number has it still
pub record Extends (old now : Types) : Type 0 where
  pub scope : now.scope ≡ old.scope
  pub types : (k : ℕ) (ty : Option EbType) → slice_get old.types k ≡ Some ty → slice_get now.types k ≡ Some ty

-- what stands at each place of the list is so
pub record Each {A : Type 0} (P : ℕ → A → Type 0) (xs : List A) : Type 0 where
  pub at : (k : ℕ) (x : A) → slice_get xs k ≡ Some x → P k x

-- the first domain of each choice
abbrev pub choice_domains : Scope → List Choice → List Domain
choice_domains scope choices = map (λ c. domain.Values (first scope c.ty) false) choices

-- the number is that of the type of the term at a place
abbrev pub IsOfTerm : List (Option EbType) → List Term → ℕ → ℕ → Type 0
IsOfTerm types terms k number = MatchOption (slice_get terms k) ⊥ (λ t. slice_get types number ≡ Some (type_of t))

-- a fact has no number, and every other node that of its type
abbrev pub IsOfNode : List (Option EbType) → Problem → ℕ → Option ℕ → Type 0
IsOfNode types p k None = is_fact p k ≡ true
IsOfNode types p k (Some number) = (is_fact p k ≡ false) × IsOfTerm types (nodes_of p) k number

-- the terms' types have these numbers
pub record AreOfTerms (types : List (Option EbType)) (terms : List Term) (numbers : List ℕ) : Type 0 where
  pub count : length numbers ≡ length terms
  pub each : Each (IsOfTerm types terms) numbers

-- the nodes have these numbers
pub record AreOfNodes (types : List (Option EbType)) (p : Problem) (numbers : List (Option ℕ)) : Type 0 where
  pub count : length numbers ≡ length (nodes_of p)
  pub each : Each (IsOfNode types p) numbers

-- what `Firsts` keeps
pub record AreFirsts (t : Types) (p : Problem) (cs : List Domain) (ds : List ℕ) (ns : List (Option ℕ)) (f n : Domain) : Type 0 where
  pub choices : cs ≡ choice_domains t.scope p.choices
  pub definitions : AreOfTerms t.types p.definitions ds
  pub nodes : AreOfNodes t.types p ns
  pub fact : f ≡ truth_alone true
  pub none : n ≡ nothing

-- the scope and the problem whose first domains these are
pub record Context : Type 0 where
  pub scope : Scope
  pub problem : Problem

-- the first domain of a node, as `first_domains` says
abbrev pub node_domain : Scope → Problem → ℕ → Domain
node_domain scope p k = if is_fact p k then truth_alone true else term_domain scope (slice_get (nodes_of p) k)
