-- What comes of an occurrence where the choices have values.
use Rattle.std.specs.Prelude.{◌≡◌, ◌+◌, true, List, length, Option, Some, None, slice_get, MatchOption}
use Rattle.eb_value.specs.declared.scope.Scope.{Scope}
use Rattle.eb_value.specs.declared.types.EbType.{EbType}
use Rattle.eb_value.specs.declared.value.Value.{Value}
use Rattle.eb_term.specs.declared.problem.Problem.{Problem}
use Rattle.eb_term.specs.declared.term.Term.{Term}
use Rattle.eb_term.specs.Nodes.{nodes_of}
use Rattle.eb_meaning.specs.Meaning.{Slot, Env, value_of, truth_in}
use Rattle.eb_meaning.specs.Problems.{slots_of}
use Rattle.term_types.specs.Types.{type_of}
use Rattle.occ_domains.specs.Domains.{Outcome, truth, slot, has}
use Rattle.occurrences.specs.declared.place.Place.{Place}
use Rattle.occurrences.specs.declared.place.Place.TheVariants as place
use Rattle.occurrences.specs.Occurrences.{Occurs}
use Rattle.occurrences.specs.Stores.{Domains}

-- the references and the values of the binders around
abbrev pub env_of : List Slot → List Value → Env
env_of refs bound = record { refs = refs; bound = bound }

-- the truth of a predicate, or the value of an expression of the type
abbrev pub outcome_by : Option EbType → Scope → Env → Term → Outcome
outcome_by None scope env t = truth (truth_in scope env t)
outcome_by (Some ty) scope env t = slot (value_of scope env t)

-- what comes of a term
abbrev pub outcome_of : Scope → Env → Term → Outcome
outcome_of scope env t = outcome_by (type_of t) scope env t

-- This comes of the place where the choices have these values, and the binders around it those: the choice's value; the
-- definition's value, or Undefined; the node's truth or value.
abbrev pub ComesAt : Scope → Problem → List Value → Place → List Value → Outcome → Type 0
ComesAt scope p values (place.Choice k) bound o = MatchOption (slice_get values k) ⊥ (λ v. o ≡ slot (Some v))
ComesAt scope p values (place.Definition k) bound o = MatchOption (slice_get (slots_of scope p.definitions values) (length p.choices + k)) ⊥ (λ s. o ≡ slot s)
ComesAt scope p values (place.Node k) bound o = MatchOption (slice_get (nodes_of p) k) ⊥
    (λ t. o ≡ outcome_of scope (env_of (slots_of scope p.definitions values) bound) t)

-- what comes of each occurrence, where the choices have these values, is in its domain
abbrev pub HaveWhatComes : Scope → Problem → List Value → Domains → Type 0
HaveWhatComes scope p values at = (place : Place) (bound : List Value) (o : Outcome) → Occurs scope p place bound → ComesAt scope p values place bound o
    → has (at place bound) o ≡ true
