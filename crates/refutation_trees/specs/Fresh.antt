-- Stores in which propagation has nothing to do, and where lines may stand.
use Rattle.std.specs.Prelude.{◌≡◌, ⊤, ℕ, ◌<◌, false, [], length, Some, None}
use Rattle.eb_value.specs.declared.scope.Scope.{Scope}
use Rattle.eb_term.specs.declared.problem.Problem.{Problem}
use Rattle.occ_domains.specs.Domains.{is_empty, single}
use Rattle.occurrences.specs.declared.place.Place.{Place}
use Rattle.occurrences.specs.declared.place.Place.TheVariants as place
use Rattle.occurrences.specs.declared.place.Rule.{Rule}
use Rattle.occurrences.specs.Occurrences.{Occurs}
use Rattle.occurrences.specs.Stores.{Domains}
use Rattle.occurrences.specs.Targets.{target, target_bound}
use Rattle.node_rules.specs.Narrowing.{met}
use Rattle.tree_lines.specs.declared.line.Line.{Line}
use Rattle.tree_lines.specs.declared.line.Line.TheVariants as line

-- What a tree is about: a problem, and the scope of its choices.
pub record Task : Type 0 where
  pub scope : Scope
  pub problem : Problem

-- Propagation has nothing to do: nothing is empty, and no rule at an occurrence outside all binders changes the domain that it
-- narrows. An instance of a binder's body would be active where the value is in a list of what its range may have; there is no such
-- list yet.
pub record IsStable (task : Task) (at : Domains) : Type 0 where
  pub filled : (place : Place) → Occurs task.scope task.problem place [] → is_empty (at place []) ≡ false
  pub still : (rule : Rule) (place to : Place) → Occurs task.scope task.problem place [] → target task.problem rule place ≡ Some to
      → met task.scope task.problem at rule place [] to ≡ at to (target_bound rule [])

-- some choice isn't single
pub record IsLoose (task : Task) (at : Domains) : Type 0 where
  pub choice : ℕ
  pub there : choice < length task.problem.choices
  pub several : single (at (place.Choice choice) []) ≡ None

-- the occurrence is a choice
pub data IsChoice : Place → Type 0 where
  choice : (k : ℕ) → IsChoice (place.Choice k)

-- Trees whose lines may stand anywhere, and fresh trees.
pub data Standing : Type 0 where
  anywhere : Standing
  fresh : Standing

-- What a fresh line asks of its store: a split is one of a choice, in a stable store; a box that is left open is stable, and some
-- choice isn't single there.
abbrev pub IsFreshAt : Task → Domains → Line → Type 0
IsFreshAt task at (line.Split occ t) = IsChoice occ.place × IsStable task at
IsFreshAt task at line.Open = IsLoose task at × IsStable task at
IsFreshAt task at _ = ⊤

abbrev pub MayStand : Task → Standing → Domains → Line → Type 0
MayStand task anywhere at line = ⊤
MayStand task fresh at line = IsFreshAt task at line
