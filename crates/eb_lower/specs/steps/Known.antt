-- What is told of used names.
use Rattle.std.specs.Prelude.{◌≡◌, ◌⊎◌, ℕ, Bool, true, List, [], ◌∷◌, Option, None, Some, Contains, ⊤}
use Rattle.std.specs.List.{AllByRecursion}
use Rattle.std.specs.declared.result.Result.{Result}
use Rattle.std.specs.declared.result.Result.TheVariants.{Ok, Err}
use Rattle.eb_syntax.specs.declared.units.EbUnit.{EbUnit}
use Rattle.eb_scoping.specs.Models.{AreMarked, machine_of, Reaches, Extends}
use Rattle.eb_scoping.specs.Groups.{IsContextAt}
use Rattle.eb_scoping.specs.Walks.{IsWalk}
use Rattle.eb_lower.specs.declared.facts.Facts.{Facts}
use Rattle.eb_lower.specs.declared.known.Reach.{Reach}
use Rattle.eb_lower.specs.declared.fault.NameFault.{NameFault}
use Rattle.eb_lower.specs.declared.fault.NameFault.TheVariants as fault
use Rattle.eb_declared.specs.Parts.{Position, at_context, at_size, in_axiom, in_invariant, in_event, at_assigned, at_changed, Part, declares, uses, formula}
use Rattle.eb_lower.specs.Usages.{Usage, IsKnown, use_text}
use Rattle.eb_lower.specs.steps.Facts.{AreFacts}

abbrev pub Tells : Bool → Type 0 → Type 0
Tells b P = (b ≡ true → P) × (P → b ≡ true)

-- the facts are those of a text whose units have these marks
abbrev pub Text : List EbUnit → List Bool → Facts → Type 0
Text us marks f = AreMarked us us marks × AreFacts us marks f

abbrev pub ReachIs : List EbUnit → Option Reach → Type 0
ReachIs us None = ⊤
ReachIs us (Some r) = IsWalk us (r.context.now ∷ []) r.walk

-- a context at this place is reached by `extends` from the context of this name
abbrev pub ExtendsAt : List EbUnit → List ℕ → ℕ → Type 0
ExtendsAt us from i = (x : List ℕ) × IsContextAt us i x × Extends us from x

-- one at one of these places is
abbrev pub ExtendsOne : List EbUnit → List ℕ → List ℕ → Type 0
ExtendsOne us from places = (i : ℕ) × Contains places i × ExtendsAt us from i

-- the model has the contexts of this name
abbrev pub IsOfModel : List EbUnit → List ℕ → Type 0
IsOfModel us name = (machine_of us ≡ None) ⊎ Reaches us name

-- an axiom at this position is one of a context of the model
abbrev pub IsPlaced : List EbUnit → Position → Type 0
IsPlaced us at_context = ⊤
IsPlaced us at_size = ⊤
IsPlaced us (in_axiom c) = IsOfModel us c.name.name
IsPlaced us in_invariant = ⊤
IsPlaced us (in_event e after) = ⊤
IsPlaced us at_assigned = ⊤
IsPlaced us (at_changed e) = ⊤

abbrev pub IsPlacedPart : List EbUnit → Part → Type 0
IsPlacedPart us (declares s x) = ⊤
IsPlacedPart us (uses p x) = IsPlaced us p
IsPlacedPart us (formula p a) = IsPlaced us p

abbrev pub ArePlaced : List EbUnit → List Usage → Type 0
ArePlaced us found = AllByRecursion (λ u. IsPlaced us u.position) found

abbrev pub JudgesUsage : List EbUnit → List Bool → Usage → Result (Unit {0}) NameFault → Type 0
JudgesUsage us marks u (Ok x) = IsKnown us marks u
JudgesUsage us marks u (Err (fault.Unsupported place)) = ⊥
JudgesUsage us marks u (Err (fault.DuplicateName name)) = ⊥
JudgesUsage us marks u (Err (fault.UnknownName name)) = (IsKnown us marks u → ⊥) × (use_text u.use_of ≡ name)
JudgesUsage us marks u (Err fault.Memory) = ⊤
