-- What the proofs take of the clauses of the crates below, as hypotheses.
use Rattle.std.proofs.Common.{◌≡◌, ◌↔◌, true, List, [], map, Some, pos, negsuc, ◌≤ℤ◌}
use Rattle.std.specs.List.{Contains}
use Rattle.type_table.specs.Rows.{Sort, predicate}
use Rattle.eb_value.specs.declared.scope.Scope.{Scope}
use Rattle.eb_value.specs.declared.types.EbType.{EbType}
use Rattle.eb_value.specs.declared.value.Value.{Value}
use Rattle.eb_value.specs.Scopes.{vals}
use Rattle.eb_value.specs.Typing.{has_type, is_bounded}
use Rattle.eb_value.specs.Values.{is_ascending}
use Rattle.eb_term.specs.declared.term.Term.{Term}
use Rattle.eb_term.specs.Typed.{HasSort}
use Rattle.eb_meaning.specs.Meaning.{Slot, truth_in}
use Rattle.eb_meaning.specs.Problems.{outermost, fact_at}
use Rattle.eb_meaning.specs.Fitting.{fits}
use Rattle.eb_narrow.specs.Narrow.{narrow}
use Rattle.eb_resolved.specs.declared.resolved.Resolved.{Resolved}
use Rattle.eb_typing.specs.Numbering.{numbered}
use Rattle.eb_typing.specs.Typing as formula
use Rattle.eb_lowering.specs.declared.setting.Setting.{Setting}
use Rattle.eb_lowering.specs.declared.around.Around.{Around}
use Rattle.eb_lowering.specs.Lowering as lowering
use Rattle.typed_lowering.specs.Settings.{GivesTyped, GivesFitting, AroundFits}

-- the scope's integers lie within -2^62..2^62
pub record IsBounded (scope : Scope) : Type 0 where
  pub low : negsuc 4611686018427387903 ≤ℤ scope.lo
  pub high : scope.hi ≤ℤ pos 4611686018427387904

pub record Laws : Type 0 where
  pub ascending : (scope : Scope) (ty : EbType) → is_ascending (vals scope ty) ≡ true
  pub complete : (scope : Scope) → negsuc 4611686018427387903 ≤ℤ scope.lo → scope.hi ≤ℤ pos 4611686018427387904
      → (ty : EbType) (v : Value) → Contains (vals scope ty) v ↔ ((has_type scope v ty ≡ true) × (is_bounded scope v ≡ true))
  pub own : (scope : Scope) (values : List Value) (fact : Term)
      → fact_at scope (map (λ v. Some v) values) fact ≡ truth_in scope (outermost (map (λ v. Some v) values)) fact
  pub narrowed : (scope : Scope) → negsuc 4611686018427387903 ≤ℤ scope.lo → scope.hi ≤ℤ pos 4611686018427387904
      → (t : Term) (refs : List Slot) → HasSort [] t predicate → fits scope refs t ≡ true
      → truth_in scope (record { refs = refs; bound = [] }) (narrow t) ≡ truth_in scope (record { refs = refs; bound = [] }) t
  pub lowered : (s : Setting) → GivesTyped s → (r : Resolved) (sort : Sort) → formula.HasSort s.types (numbered r) sort
      → (bound : List EbType) (w : Around) → AroundFits s.types bound w → HasSort bound ((lowering.lowered s r).term w) sort
  pub fitting : (s : Setting) → GivesTyped s → (scope : Scope) (refs : List Slot) → GivesFitting scope refs s
      → (r : Resolved) (sort : Sort) → formula.HasSort s.types (numbered r) sort
      → (bound : List EbType) (w : Around) → AroundFits s.types bound w → fits scope refs ((lowering.lowered s r).term w) ≡ true
