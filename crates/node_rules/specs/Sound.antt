-- What Up and Down at a node rest on.
use Rattle.std.specs.Prelude.{◌≡◌, ℕ, true, List, [], Some, None, slice_get}
use Rattle.eb_value.specs.declared.scope.Scope.{Scope}
use Rattle.eb_value.specs.declared.types.EbType.{EbType}
use Rattle.eb_value.specs.declared.value.Value.{Value}
use Rattle.eb_term.specs.declared.term.Term.{Term}
use Rattle.eb_term.specs.declared.term.Head.TheOpen as head
use Rattle.eb_term.specs.Terms.{layer}
use Rattle.eb_meaning.specs.Meaning.{Slot, slot_at}
use Rattle.problem_nodes.specs.Places.{parts, part_numbers}
use Rattle.occ_domains.specs.Domains.{slot, has}
use Rattle.occurrences.specs.declared.place.Place.TheVariants as place
use Rattle.occurrences.specs.Binding.{binds}
use Rattle.occurrences.specs.Stores.{Domains}
use Rattle.occurrences.specs.Targets.{referred}
use Rattle.occurrences.specs.Outcomes.{env_of, outcome_of}

-- what comes of each part of the node that stands inside the same binders is in the part's domain
abbrev pub PartsHave : Scope → Domains → List Slot → List Value → ℕ → Term → Type 0
PartsHave scope at refs bound k t = (number j : ℕ) (u : Term) → slice_get (parts t) number ≡ Some u → slice_get (part_numbers k t) number ≡ Some j → binds t number ≡ None
    → has (at (place.Node j) bound) (outcome_of scope (env_of refs bound) u) ≡ true

-- where the term is a reference, what it refers to is in its domain
abbrev pub ReferenceHas : ℕ → Domains → List Slot → Term → Type 0
ReferenceHas choices at refs t = (number : ℕ) (ty : EbType) → layer t ≡ head.Reference number ty → has (at (referred choices number) []) (slot (slot_at refs number)) ≡ true
