-- Refutation trees: what they are, when they hold, and where lines lead.
use Rattle.std.specs.Prelude.{◌≡◌, ℕ, suc, ◌+◌, Bool, true, false, cond, List, [], ◌∷◌, ◌++◌, Option, Some, None, slice_get, MatchOption}
use Rattle.eb_value.specs.declared.value.Value.{Value}
use Rattle.eb_term.specs.declared.problem.Choice.{Choice}
use Rattle.eb_term.specs.declared.problem.Problem.{Problem}
use Rattle.eb_meaning.specs.Problems.{IsTrueOf}
use Rattle.occ_domains.specs.declared.domain.Domain.{Domain}
use Rattle.occ_domains.specs.Domains.{is_empty, single}
use Rattle.occ_domains.specs.declared.tests.Test.{Test}
use Rattle.occ_domains.specs.Tests.{parts}
use Rattle.occurrences.specs.declared.place.Place.{Place}
use Rattle.occurrences.specs.declared.place.Place.TheVariants as place
use Rattle.occurrences.specs.declared.place.Occurrence.{Occurrence}
use Rattle.occurrences.specs.declared.place.Rule.{Rule}
use Rattle.occurrences.specs.Occurrences.{Occurs}
use Rattle.occurrences.specs.Stores.{Domains, with_domain}
use Rattle.occurrences.specs.Targets.{target}
use Rattle.node_rules.specs.Narrowing.{narrowed}
use Rattle.tree_lines.specs.declared.line.Line.{Line}
use Rattle.tree_lines.specs.declared.line.Line.TheVariants as line
use Rattle.refutation_trees.specs.Fresh.{Task, Standing, MayStand}

abbrev pub followed_by : Option Value → Option (List Value) → Option (List Value)
followed_by (Some v) (Some vs) = Some (v ∷ vs)
followed_by _ _ = None

abbrev pub values_from : Domains → ℕ → List Choice → Option (List Value)
values_from at k [] = Some []
values_from at k (c ∷ cs) = followed_by (single (at (place.Choice k) [])) (values_from at (suc k) cs)

-- the values of a problem's choices, where each is single in the store
abbrev pub single_values : Problem → Domains → Option (List Value)
single_values p at = values_from at 0 p.choices

-- the fact with this number isn't True where the choices have these values
abbrev pub IsUntrue : Task → List Value → ℕ → Type 0
IsUntrue task values k = MatchOption (slice_get task.problem.facts k) ⊥ (λ fact. IsTrueOf task.scope task.problem.definitions values fact → ⊥)

-- A line at a store leaves these stores to be closed, in order. A rule narrows the domain of its target; a split leaves two
-- stores, one for each part of a domain; a clash closes the store where nothing may come of an occurrence, and an evaluation where
-- each choice is single and the fact isn't True of these values; a box may be left open.
pub data Leaves (task : Task) (at : Domains) : Line → List Domains → Type 0 where
  narrow : (rule : Rule) (occ : Occurrence) (to : Place) → Occurs task.scope task.problem occ.place occ.bound → target task.problem rule occ.place ≡ Some to
      → Leaves task at (line.Narrow rule occ) (narrowed task.scope task.problem at rule occ.place occ.bound to ∷ [])
  split : (occ : Occurrence) (t : Test) (both : Domain × Domain) → Occurs task.scope task.problem occ.place occ.bound → parts (at occ.place occ.bound) t ≡ Some both
      → Leaves task at (line.Split occ t) (with_domain at occ.place occ.bound both.0 ∷ with_domain at occ.place occ.bound both.1 ∷ [])
  clash : (occ : Occurrence) → Occurs task.scope task.problem occ.place occ.bound → is_empty (at occ.place occ.bound) ≡ true → Leaves task at (line.Clash occ) []
  eval : (k : ℕ) (values : List Value) → single_values task.problem at ≡ Some values → IsUntrue task values k → Leaves task at (line.Eval k) []
  left_open : Leaves task at line.Open []

-- A line with no, one or two subtrees.
pub data Tree : Type 0 where
  leaf : Line → Tree
  one : Line → Tree → Tree
  two : Line → Tree → Tree → Tree

-- The tree holds in the store: each of its lines may stand at its store, and leaves a store for each subtree, which holds there.
pub data Holds (task : Task) (standing : Standing) : Domains → Tree → Type 0 where
  at_leaf : {at : Domains} (line : Line) → MayStand task standing at line → Leaves task at line [] → Holds task standing at (leaf line)
  at_one : {at a : Domains} (line : Line) (tree : Tree) → MayStand task standing at line → Leaves task at line (a ∷ []) → Holds task standing a tree
      → Holds task standing at (one line tree)
  at_two : {at a b : Domains} (line : Line) (first second : Tree) → MayStand task standing at line → Leaves task at line (a ∷ b ∷ []) → Holds task standing a first
      → Holds task standing b second → Holds task standing at (two line first second)

-- in prefix order
abbrev pub lines_of : Tree → List Line
lines_of (leaf line) = line ∷ []
lines_of (one line tree) = line ∷ lines_of tree
lines_of (two line first second) = line ∷ (lines_of first ++ lines_of second)

-- Lines that close stores of a list, first ones first, until those of the second list are left; each may stand at its store.
pub data LeadsTo (task : Task) (standing : Standing) : List Domains → List Line → List Domains → Type 0 where
  none : {stores : List Domains} → LeadsTo task standing stores [] stores
  more : {at : Domains} {stores left : List Domains} {lines : List Line} (line : Line) (new : List Domains) → MayStand task standing at line → Leaves task at line new
      → LeadsTo task standing (new ++ stores) lines left → LeadsTo task standing (at ∷ stores) (line ∷ lines) left

abbrev pub is_open : Line → Bool
is_open line.Open = true
is_open _ = false

abbrev pub is_split : Line → Bool
is_split (line.Split occ t) = true
is_split _ = false

-- how many lines leave their box open
abbrev pub opens : List Line → ℕ
opens [] = 0
opens (line ∷ lines) = cond (is_open line) 1 0 + opens lines

-- how many lines split
abbrev pub splits_of : List Line → ℕ
splits_of [] = 0
splits_of (line ∷ lines) = cond (is_split line) 1 0 + splits_of lines
