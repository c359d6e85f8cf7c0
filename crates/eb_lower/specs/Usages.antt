-- Where the parts of a text use names of declarations, in the order of the text, and which of these names are known there.
use Rattle.std.specs.Prelude.{ℕ, ◌≡◌, ◌⊎◌, Bool, true, false, List, [], ◌∷◌, ◌++◌, Some, Contains, map, if◌then◌else◌, codes}
use Rattle.std.specs.List.{flat_map}
use Rattle.eb_syntax.specs.declared.units.Event.{Event}
use Rattle.eb_syntax.specs.declared.units.Context.{Context}
use Rattle.eb_syntax.specs.declared.units.Machine.{Machine}
use Rattle.eb_syntax.specs.declared.units.ContextClause.{ContextClause}
use Rattle.eb_syntax.specs.declared.units.ContextClause.TheVariants as part
use Rattle.eb_syntax.specs.declared.units.MachineClause.{MachineClause}
use Rattle.eb_syntax.specs.declared.units.MachineClause.TheVariants as clause
use Rattle.eb_syntax.specs.declared.units.EbUnit.{EbUnit}
use Rattle.eb_syntax.specs.declared.units.EbUnit.TheVariants as eb
use Rattle.eb_resolved.specs.Unknown.{Use, used, free}
use Rattle.eb_scoping.specs.FreeNames.{names_of}
use Rattle.eb_scoping.specs.Models.{machine_of, marked, Extends}
use Rattle.eb_declared.specs.Parts.{Position, at_context, at_size, in_axiom, in_invariant, in_event, at_assigned, at_changed, Part, declares, uses, formula, parameter_names}
use Rattle.eb_lower.specs.Unsupported.{is_initialisation}

pub record Usage : Type 0 where
  pub use_of : Use
  pub position : Position

abbrev pub usage : Position → Use → Usage
usage p u = record { use_of = u; position = p }

-- a used name as it is printed
abbrev pub use_text : Use → List ℕ
use_text u = if u.is_primed then u.name ++ codes "'" else u.name

-- the carrier sets of a context
abbrev pub clause_carriers : ContextClause → List (List ℕ)
clause_carriers (part.Sets xs) = names_of xs
clause_carriers (part.Constants xs) = []
clause_carriers (part.Axioms ps) = []

abbrev pub carriers : Context → List (List ℕ)
carriers c = flat_map clause_carriers c.clauses

-- the carrier sets and constants of a context
abbrev pub clause_statics : ContextClause → List (List ℕ)
clause_statics (part.Sets xs) = names_of xs
clause_statics (part.Constants xs) = names_of xs
clause_statics (part.Axioms ps) = []

abbrev pub statics : Context → List (List ℕ)
statics c = flat_map clause_statics c.clauses

-- the variables of a machine
abbrev pub clause_variables : MachineClause → List (List ℕ)
clause_variables (clause.Variables xs) = names_of xs
clause_variables (clause.Invariants ps) = []
clause_variables (clause.Variant l e) = []
clause_variables (clause.Events es) = []

abbrev pub variables : Machine → List (List ℕ)
variables m = flat_map clause_variables m.clauses

-- a context of the model has this carrier set or constant
abbrev pub IsStatic : List EbUnit → List Bool → List ℕ → Type 0
IsStatic us marks name = (c : Context) × Contains (marked us marks) (eb.Context c) × Contains (statics c) name

-- the machine of the text has this variable
abbrev pub IsVariable : List EbUnit → List ℕ → Type 0
IsVariable us name = (m : Machine) × (machine_of us ≡ Some m) × Contains (variables m) name

-- an unprimed name is a carrier set, a constant, a parameter or, but in INITIALISATION, a variable; a primed one has a value after
abbrev pub IsKnownInEvent : List EbUnit → List Bool → Event → List (List ℕ) → Bool → List ℕ → Type 0
IsKnownInEvent us marks e after true name = Contains after name
IsKnownInEvent us marks e after false name = IsStatic us marks name ⊎ (Contains (parameter_names e.parameters) name ⊎ ((is_initialisation e ≡ false) × IsVariable us name))

abbrev pub IsKnownAt : List EbUnit → List Bool → Position → Use → Type 0
IsKnownAt us marks at_context u = (c : Context) × Contains us (eb.Context c) × (c.name.name ≡ u.name)
IsKnownAt us marks at_size u = (c : Context) × Contains (marked us marks) (eb.Context c) × Contains (carriers c) u.name
IsKnownAt us marks (in_axiom c) u = (u.is_primed ≡ false) × (d : Context) × Contains us (eb.Context d) × Extends us c.name.name d.name.name × Contains (statics d) u.name
IsKnownAt us marks in_invariant u = (u.is_primed ≡ false) × (IsStatic us marks u.name ⊎ IsVariable us u.name)
IsKnownAt us marks (in_event e after) u = IsKnownInEvent us marks e after u.is_primed u.name
IsKnownAt us marks at_assigned u = IsVariable us u.name
IsKnownAt us marks (at_changed e) u = (is_initialisation e ≡ false) × IsVariable us u.name

-- the text declares the name, and the declaration reaches this position
abbrev pub IsKnown : List EbUnit → List Bool → Usage → Type 0
IsKnown us marks u = IsKnownAt us marks u.position u.use_of

abbrev pub part_usages : Part → List Usage
part_usages (declares s x) = []
part_usages (uses p x) = usage p (used x false) ∷ []
part_usages (formula p a) = map (usage p) (free a)

-- the usages in these parts
abbrev pub usages : List Part → List Usage
usages parts = flat_map part_usages parts
