-- The model of a text with numbers in place of names: what its units declare and say, in the order of the text.
--
-- Identifiers where they are declared or bound and marks are numbered together, in this order too.
use Rattle.std.specs.Prelude.{◌≡◌, ℕ, ◌+◌, Bool, List, [], ◌∷◌, ◌++◌, length, Option, Some, None, fold}
use Rattle.std.specs.List.{flat_map}
use Rattle.eb_syntax.specs.declared.ast.Ast.{Ast}
use Rattle.eb_syntax.specs.declared.ast.Identifier.{Identifier}
use Rattle.eb_syntax.specs.declared.units.LabelledPredicate.{LabelledPredicate}
use Rattle.eb_syntax.specs.declared.units.Context.{Context}
use Rattle.eb_syntax.specs.declared.units.Machine.{Machine}
use Rattle.eb_syntax.specs.declared.units.ContextClause.{ContextClause}
use Rattle.eb_syntax.specs.declared.units.ContextClause.TheVariants as context
use Rattle.eb_syntax.specs.declared.units.NamesClause.{NamesClause}
use Rattle.eb_syntax.specs.declared.units.PredicatesClause.{PredicatesClause}
use Rattle.eb_syntax.specs.declared.units.Assignment.{Assignment}
use Rattle.eb_syntax.specs.declared.units.Assignment.TheVariants as becomes
use Rattle.eb_syntax.specs.declared.units.Action.{Action}
use Rattle.eb_syntax.specs.declared.units.Event.{Event}
use Rattle.eb_syntax.specs.declared.units.MachineClause.{MachineClause}
use Rattle.eb_syntax.specs.declared.units.MachineClause.TheVariants as machine
use Rattle.eb_syntax.specs.declared.units.EbUnit.{EbUnit}
use Rattle.eb_syntax.specs.declared.units.EbUnit.TheVariants as eb
use Rattle.eb_scoping.specs.Models.{AreMarked, marked}
use Rattle.numbered_names.specs.declared.entries.Entry.{Entry}
use Rattle.numbered_names.specs.Names.{Names, entry, no_names, oldest, after_mark, bind_all, unbind}
use Rattle.eb_resolved.specs.declared.resolved.Resolved.{Resolved}
use Rattle.eb_resolved.specs.Resolving.{meant, entries_from, resolved}
use Rattle.eb_model.specs.declared.model.LabelledFormula.{LabelledFormula}
use Rattle.eb_model.specs.declared.model.Change.{Change}
use Rattle.eb_model.specs.declared.model.Change.TheVariants as change
use Rattle.eb_model.specs.declared.model.ModelAction.{ModelAction}
use Rattle.eb_model.specs.declared.model.ModelEvent.{ModelEvent}
use Rattle.eb_model.specs.declared.model.ModelPart.{ModelPart}
use Rattle.eb_model.specs.declared.model.ModelPart.TheVariants as part
use Rattle.eb_model.specs.declared.model.EbModel.{EbModel}

-- What makes something where these names are in scope, and the names behind it.
abbrev pub Reading : Type 0 → Type 0
Reading T = Names → T × Names

-- one after another
abbrev pub each_of : {A B : Type 0} → (A → Reading B) → List A → Reading (List B)
each_of read [] s = ([], s)
each_of read (x ∷ xs) s = let r = read x s in let q = each_of read xs r.1 in (r.0 ∷ q.0, q.1)

-- a formula behind its label
abbrev pub labelled : List Entry → List ℕ → LabelledPredicate → Reading LabelledFormula
labelled scope unit l s = let r = resolved scope l.predicate s in
    (record { unit = unit; label = l.label.name; is_theorem = l.is_theorem; formula = r.0 }, r.1)

-- a variable where it is assigned
abbrev pub assigned : List Entry → Identifier → Resolved
assigned scope x = meant x.place x.name (oldest x.name scope)

abbrev pub all_assigned : List Entry → List Identifier → List Resolved
all_assigned scope [] = []
all_assigned scope (x ∷ xs) = assigned scope x ∷ all_assigned scope xs

abbrev pub change_of : List Entry → Assignment → Reading Change
change_of scope (becomes.BecomesEqual xs es) s = let r = each_of (resolved scope) es s in (change.BecomesEqual (all_assigned scope xs) r.0, r.1)
change_of scope (becomes.BecomesEqualAt f e v) s = let l = resolved scope e s in let r = resolved scope v l.1 in (change.BecomesEqualAt (assigned scope f) l.0 r.0, r.1)
change_of scope (becomes.BecomesMember x e) s = let r = resolved scope e s in (change.BecomesMember (assigned scope x) r.0, r.1)
change_of scope (becomes.BecomesSuchThat xs p) s = let r = resolved scope p s in (change.BecomesSuchThat (all_assigned scope xs) r.0, r.1)

abbrev pub action_of : List Entry → Action → Reading ModelAction
action_of scope a s = let r = change_of scope a.assignment s in (record { label = a.label.name; change = r.0 }, r.1)

abbrev pub parameters_of : Option NamesClause → List Identifier
parameters_of None = []
parameters_of (Some c) = c.names

abbrev pub guards_of : Option PredicatesClause → List LabelledPredicate
guards_of None = []
guards_of (Some c) = c.predicates

-- an event: its parameters are in scope in its guards and actions
abbrev pub event_of : List Entry → Event → Reading ModelEvent
event_of scope e s =
    let ps = parameters_of e.parameters in
    let gs = each_of (labelled scope e.name.name) (guards_of e.guards) (bind_all s ps) in
    let acts = each_of (action_of scope) e.actions gs.1 in
    (record { name = e.name.name; parameters = entries_from s.next ps; guards = gs.0; actions = acts.0 }, unbind (length s.bound) acts.1)

-- A model up to some place: the names in scope there, how many carrier sets stand before it, and its parts.
pub record Walk : Type 0 where
  pub names : Names
  pub carriers : ℕ
  pub parts : List ModelPart

-- one more part
abbrev pub put : Walk → ModelPart × Names → Walk
put w p = record { names = p.1; carriers = w.carriers; parts = w.parts ++ p.0 ∷ [] }

-- a constant or a variable where it is declared
abbrev pub declare : (Entry → ModelPart) → Walk → Identifier → Walk
declare make w x = put w (make (entry x.name w.names.next), after_mark w.names)

-- a carrier set where it is declared
abbrev pub carrier : Walk → Identifier → Walk
carrier w x = record { names = after_mark w.names; carriers = w.carriers + 1; parts = w.parts ++ part.Carrier w.carriers (entry x.name w.names.next) ∷ [] }

abbrev pub made : {T : Type 0} → (T → ModelPart) → T × Names → ModelPart × Names
made make r = (make r.0, r.1)

abbrev pub axiom_at : List Entry → List ℕ → Walk → LabelledPredicate → Walk
axiom_at scope unit w l = put w (made part.Axiom (labelled scope unit l w.names))

abbrev pub invariant_at : List Entry → List ℕ → Walk → LabelledPredicate → Walk
invariant_at scope unit w l = put w (made part.Invariant (labelled scope unit l w.names))

abbrev pub event_at : List Entry → Walk → Event → Walk
event_at scope w e = put w (made part.Event (event_of scope e w.names))

abbrev pub context_clause : List Entry → List ℕ → Walk → ContextClause → Walk
context_clause scope unit w (context.Sets xs) = fold carrier w xs
context_clause scope unit w (context.Constants xs) = fold (declare part.Constant) w xs
context_clause scope unit w (context.Axioms ls) = fold (axiom_at scope unit) w ls

-- nothing of a variant
abbrev pub machine_clause : List Entry → List ℕ → Walk → MachineClause → Walk
machine_clause scope unit w (machine.Variables xs) = fold (declare part.Variable) w xs
machine_clause scope unit w (machine.Invariants ls) = fold (invariant_at scope unit) w ls
machine_clause scope unit w (machine.Variant label e) = w
machine_clause scope unit w (machine.Events es) = fold (event_at scope) w es

abbrev pub one_unit : List Entry → Walk → EbUnit → Walk
one_unit scope w (eb.Context c) = fold (context_clause scope c.name.name) w c.clauses
one_unit scope w (eb.Machine m) = fold (machine_clause scope m.name.name) w m.clauses
one_unit scope w (eb.Scope s) = w
one_unit scope w (eb.Queries qs) = w

-- before the first unit
abbrev pub start : Walk
start = record { names = no_names; carriers = 0; parts = [] }

-- behind the last unit, where these identifiers are declared
abbrev pub walk : List Entry → List EbUnit → Walk
walk scope us = fold (one_unit scope) start us

abbrev pub part_declares : ModelPart → List Entry
part_declares (part.Carrier s x) = x ∷ []
part_declares (part.Constant x) = x ∷ []
part_declares (part.Variable x) = x ∷ []
part_declares (part.Axiom l) = []
part_declares (part.Invariant l) = []
part_declares (part.Event e) = []

-- the identifiers that the parts declare
abbrev pub declared_in : List ModelPart → List Entry
declared_in ps = flat_map part_declares ps

-- Numbers don't depend on what names stand for, so a walk that knows no declared identifier finds those that there are.
abbrev pub declared : List EbUnit → List Entry
declared us = declared_in (walk [] us).parts

-- the model that these units make up
abbrev pub model_of : List EbUnit → EbModel
model_of us = let w = walk (declared us) us in record { parts = w.parts; numbers = w.names.next }

-- the model of a text, whose units these are
abbrev pub IsModelOf : List EbUnit → EbModel → Type 0
IsModelOf us m = (marks : List Bool) × AreMarked us us marks × (m ≡ model_of (marked us marks))
