-- The places of what a text may have and no model of this program can: refinement and witnesses.
use Rattle.std.specs.Prelude.{ℕ, ◌≡◌, ⊤, Bool, List, [], ◌∷◌, ◌++◌, Option, None, Some, if◌then◌else◌, bytes_eq, codes}
use Rattle.std.specs.List.{flat_map}
use Rattle.eb_syntax.specs.declared.units.NamesClause.{NamesClause}
use Rattle.eb_syntax.specs.declared.units.PredicatesClause.{PredicatesClause}
use Rattle.eb_syntax.specs.declared.units.Inheritance.{Inheritance}
use Rattle.eb_syntax.specs.declared.units.Inheritance.TheVariants as inherits
use Rattle.eb_syntax.specs.declared.units.Refinement.{Refinement}
use Rattle.eb_syntax.specs.declared.units.Event.{Event}
use Rattle.eb_syntax.specs.declared.units.MachineClause.{MachineClause}
use Rattle.eb_syntax.specs.declared.units.MachineClause.TheVariants as clause
use Rattle.eb_syntax.specs.declared.units.EbUnit.{EbUnit}
use Rattle.eb_syntax.specs.declared.units.EbUnit.TheVariants as eb

-- the first of these places, if there is one
abbrev pub IsFirstOf : List ℕ → Option ℕ → Type 0
IsFirstOf [] None = ⊤
IsFirstOf [] (Some y) = ⊥
IsFirstOf (x ∷ xs) None = ⊥
IsFirstOf (x ∷ xs) (Some y) = x ≡ y

-- the event that gives the variables their first values
abbrev pub is_initialisation : Event → Bool
is_initialisation e = bytes_eq e.name.name (codes "INITIALISATION")

abbrev pub inheritance_places : Option Inheritance → List ℕ
inheritance_places None = []
inheritance_places (Some (inherits.Refines c)) = c.place ∷ []
inheritance_places (Some (inherits.Extends c)) = c.place ∷ []

abbrev pub names_places : Option NamesClause → List ℕ
names_places None = []
names_places (Some c) = c.place ∷ []

abbrev pub predicates_places : Option PredicatesClause → List ℕ
predicates_places None = []
predicates_places (Some c) = c.place ∷ []

-- INITIALISATION has neither parameters nor guards
abbrev pub start_places : Event → List ℕ
start_places e = if is_initialisation e then names_places e.parameters ++ predicates_places e.guards else []

abbrev pub event_places : Event → List ℕ
event_places e = inheritance_places e.inheritance ++ (start_places e ++ predicates_places e.witnesses)

abbrev pub refinement_places : Option Refinement → List ℕ
refinement_places None = []
refinement_places (Some r) = r.place ∷ []

abbrev pub clause_places : MachineClause → List ℕ
clause_places (clause.Variables xs) = []
clause_places (clause.Invariants ps) = []
clause_places (clause.Variant l e) = []
clause_places (clause.Events es) = flat_map event_places es

abbrev pub unit_places : EbUnit → List ℕ
unit_places (eb.Context c) = []
unit_places (eb.Machine m) = refinement_places m.refines ++ flat_map clause_places m.clauses
unit_places (eb.Scope s) = []
unit_places (eb.Queries qs) = []

-- the places of what isn't supported, in the order of the text
abbrev pub unsupported : List EbUnit → List ℕ
unsupported us = flat_map unit_places us
