-- What the parts in memory stand for.
use Rattle.eb_scoping.specs.FreeNames.{names_of}
use Rattle.eb_declared.specs.declared.part.Space.{Space as SpaceAt}
use Rattle.eb_declared.specs.declared.part.Space.TheVariants as at
use Rattle.eb_declared.specs.declared.part.Position.{Position as PositionAt}
use Rattle.eb_declared.specs.declared.part.Position.TheVariants as here
use Rattle.eb_declared.specs.declared.part.Part.{Part as PartAt}
use Rattle.eb_declared.specs.declared.part.Part.TheVariants as found
use Rattle.eb_declared.specs.Parts.{Space, space_units, space_model, space_parameters, space_events, space_axioms, space_invariants, space_assigned, space_words, space_sizes, Position, at_context, at_size, in_axiom, in_invariant, in_event, at_assigned, at_changed, Part, declares, uses, formula}

abbrev pub space : SpaceAt → Space
space at.Units = space_units
space at.Model = space_model
space (at.Parameters e) = space_parameters e.now
space at.Events = space_events
space (at.Axioms c) = space_axioms c.now
space at.Invariants = space_invariants
space (at.Assigned e) = space_assigned e.now
space at.Words = space_words
space at.Sizes = space_sizes

abbrev pub position : PositionAt → Position
position here.Context = at_context
position here.Size = at_size
position (here.Axiom c) = in_axiom c.now
position here.Invariant = in_invariant
position (here.Event e xs) = in_event e.now (names_of xs.now)
position here.Assigned = at_assigned
position (here.Changed e) = at_changed e.now

abbrev pub part : PartAt → Part
part (found.Declared s x) = declares (space s) x.now
part (found.Used p x) = uses (position p) x.now
part (found.Formula p a) = formula (position p) a.now
