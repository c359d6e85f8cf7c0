-- What stands in the units of a text, in the order of the text: names that are declared, names that are used, and formulas.
use Rattle.std.specs.Prelude.{Bool, List, [], ◌∷◌, ◌++◌, Option, None, Some, ℕ, map, if◌then◌else◌, codes}
use Rattle.std.specs.List.{flat_map}
use Rattle.eb_syntax.specs.declared.ast.Ast.{Ast}
use Rattle.eb_syntax.specs.declared.ast.Identifier.{Identifier}
use Rattle.eb_syntax.specs.declared.units.LabelledPredicate.{LabelledPredicate}
use Rattle.eb_syntax.specs.declared.units.NamesClause.{NamesClause}
use Rattle.eb_syntax.specs.declared.units.PredicatesClause.{PredicatesClause}
use Rattle.eb_syntax.specs.declared.units.Assignment.{Assignment}
use Rattle.eb_syntax.specs.declared.units.Assignment.TheVariants as assign
use Rattle.eb_syntax.specs.declared.units.Event.{Event}
use Rattle.eb_syntax.specs.declared.units.ContextClause.{ContextClause}
use Rattle.eb_syntax.specs.declared.units.ContextClause.TheVariants as part
use Rattle.eb_syntax.specs.declared.units.MachineClause.{MachineClause}
use Rattle.eb_syntax.specs.declared.units.MachineClause.TheVariants as clause
use Rattle.eb_syntax.specs.declared.units.ScopeSetting.{ScopeSetting}
use Rattle.eb_syntax.specs.declared.units.ScopeSetting.TheVariants as setting
use Rattle.eb_syntax.specs.declared.units.Context.{Context}
use Rattle.eb_syntax.specs.declared.units.Machine.{Machine}
use Rattle.eb_syntax.specs.declared.units.ScopeBlock.{ScopeBlock}
use Rattle.eb_syntax.specs.declared.units.EbUnit.{EbUnit}
use Rattle.eb_syntax.specs.declared.units.EbUnit.TheVariants as eb
use Rattle.eb_scoping.specs.FreeNames.{names_of}

-- Where a name stands alone. An event or context that a space belongs to is given by its name.
pub data Space : Type 0 where
  -- contexts and machines
  space_units : Space
  -- carrier sets, constants and variables
  space_model : Space
  space_parameters : (event : List ℕ) → Space
  space_events : Space
  space_axioms : (context : List ℕ) → Space
  space_invariants : Space
  -- the variables that an event assigns
  space_assigned : (event : List ℕ) → Space
  -- what may stand once in a text
  space_words : Space
  space_sizes : Space

-- Where a name is looked up.
pub data Position : Type 0 where
  -- behind `extends` or `sees`
  at_context : Position
  -- behind `size`
  at_size : Position
  in_axiom : Context → Position
  in_invariant : Position
  -- in a guard or action of the event, where these names have values after it
  in_event : Event → (after : List (List ℕ)) → Position
  -- left of `:=`, `::` or `:|`
  at_assigned : Position
  -- the f of `f(E) := F` in this event
  at_changed : Event → Position

pub data Part : Type 0 where
  -- a name that is declared
  declares : Space → List ℕ → Part
  -- a name that is used outside a formula
  uses : Position → List ℕ → Part
  formula : Position → Ast → Part

abbrev pub all_declared : Space → List (List ℕ) → List Part
all_declared s names = map (declares s) names

abbrev pub all_used : Position → List (List ℕ) → List Part
all_used p names = map (uses p) names

abbrev pub labelled_parts : Space → Position → LabelledPredicate → List Part
labelled_parts s p l = declares s l.label.name ∷ (formula p l.predicate ∷ [])

abbrev pub context_clause_parts : Context → ContextClause → List Part
context_clause_parts c (part.Sets xs) = all_declared space_model (names_of xs)
context_clause_parts c (part.Constants xs) = all_declared space_model (names_of xs)
context_clause_parts c (part.Axioms ps) = flat_map (labelled_parts (space_axioms c.name.name) (in_axiom c)) ps

abbrev pub parameter_names : Option NamesClause → List (List ℕ)
parameter_names None = []
parameter_names (Some c) = names_of c.names

-- labels in events are free
abbrev pub guard_parts : Event → Option PredicatesClause → List Part
guard_parts e None = []
guard_parts e (Some c) = map (λ p. formula (in_event e []) p.predicate) c.predicates

-- a variable that an event assigns stands once there, and has to be one of the machine
abbrev pub assigned_parts : Event → Position → Identifier → List Part
assigned_parts e p x = declares (space_assigned e.name.name) x.name ∷ (uses p x.name ∷ [])

abbrev pub all_assigned : Event → List Identifier → List Part
all_assigned e xs = flat_map (assigned_parts e at_assigned) xs

abbrev pub assignment_parts : Event → Assignment → List Part
assignment_parts e (assign.BecomesEqual xs vs) = all_assigned e xs ++ map (formula (in_event e [])) vs
assignment_parts e (assign.BecomesEqualAt f a v) = assigned_parts e (at_changed e) f ++ (formula (in_event e []) a ∷ (formula (in_event e []) v ∷ []))
assignment_parts e (assign.BecomesMember x s) = assigned_parts e at_assigned x ++ (formula (in_event e []) s ∷ [])
assignment_parts e (assign.BecomesSuchThat xs p) = all_assigned e xs ++ (formula (in_event e (names_of xs)) p ∷ [])

abbrev pub event_parts : Event → List Part
event_parts e = declares space_events e.name.name ∷ (all_declared (space_parameters e.name.name) (parameter_names e.parameters)
    ++ (guard_parts e e.guards ++ flat_map (λ a. assignment_parts e a.assignment) e.actions))

-- nothing of a variant
abbrev pub machine_clause_parts : MachineClause → List Part
machine_clause_parts (clause.Variables xs) = all_declared space_model (names_of xs)
machine_clause_parts (clause.Invariants ps) = flat_map (labelled_parts space_invariants in_invariant) ps
machine_clause_parts (clause.Variant l e) = []
machine_clause_parts (clause.Events es) = flat_map event_parts es

abbrev pub setting_parts : ScopeSetting → List Part
setting_parts (setting.Integers place lo hi) = declares space_words (codes "int") ∷ []
setting_parts (setting.Size s n) = declares space_sizes s.name ∷ (uses at_size s.name ∷ [])
setting_parts (setting.Depth place n) = declares space_words (codes "depth") ∷ []

-- of a context or machine outside the model its name alone
abbrev pub context_parts : Bool → Context → List Part
context_parts is_marked c = declares space_units c.name.name ∷ (if is_marked then all_used at_context (names_of c.extends) ++ flat_map (context_clause_parts c) c.clauses else [])

abbrev pub machine_parts : Bool → Machine → List Part
machine_parts is_marked m = declares space_words (codes "machine") ∷ (declares space_units m.name.name ∷ (if is_marked then all_used at_context (names_of m.sees) ++ flat_map machine_clause_parts m.clauses else []))

abbrev pub scope_parts : ScopeBlock → List Part
scope_parts s = declares space_words (codes "scope") ∷ flat_map setting_parts s.settings

abbrev pub unit_parts : Bool → EbUnit → List Part
unit_parts is_marked (eb.Context c) = context_parts is_marked c
unit_parts is_marked (eb.Machine m) = machine_parts is_marked m
unit_parts is_marked (eb.Scope s) = scope_parts s
unit_parts is_marked (eb.Queries qs) = []

-- the parts of these units with their marks
abbrev pub parts : List EbUnit → List Bool → List Part
parts [] bs = []
parts (u ∷ us) [] = []
parts (u ∷ us) (b ∷ bs) = unit_parts b u ++ parts us bs
