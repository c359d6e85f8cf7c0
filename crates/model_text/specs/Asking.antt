-- What the units of a text ask.
use Rattle.std.specs.Prelude.{◌≡◌, ◌≤ℤ◌, ◌≤◌, ◌<◌, ◌^◌, ⊤, ℕ, zero, suc, ◌==◌, nat_le, pos, negsuc, Bool, true, false, not, ◌&&◌, List, [], ◌∷◌, length, Option, Some, None}
use Rattle.std.specs.List.{flat_map, list_all, list_any}
use Rattle.eb_syntax.specs.declared.query.Query.{Query}
use Rattle.eb_syntax.specs.declared.query.Query.TheVariants as query
use Rattle.eb_syntax.specs.declared.units.EbUnit.{EbUnit}
use Rattle.eb_syntax.specs.declared.units.EbUnit.TheVariants as eb
use Rattle.eb_value.specs.declared.types.EbType.{EbType}
use Rattle.eb_model.specs.declared.model.EbModel.{EbModel}
use Rattle.eb_term.specs.declared.problem.Problem.{Problem}
use Rattle.eb_typing.specs.Models.{Typed}
use Rattle.occ_store.specs.Stores.{HaveIntegers}
use Rattle.scope_settings.specs.declared.limit.Limit.{Limit}
use Rattle.scope_settings.specs.Scopes.{scope_of}
use Rattle.cbc_query.specs.Problems.{choices_of, axioms_problem}
use Rattle.cbc_query.specs.Limits.{axioms_passed}
use Rattle.eb_value.specs.declared.scope.Scope.{Scope}
use Rattle.cbc_query.specs.declared.fault.QueryFault.{QueryFault}
use Rattle.cbc_query.specs.declared.fault.QueryFault.TheVariants as fault
use Rattle.model_text.specs.declared.asked.Asked.{Asked}
use Rattle.model_text.specs.declared.asked.Wanted.{Wanted}
use Rattle.model_text.specs.declared.asked.Wanted.TheVariants as wanted

abbrev pub unit_queries : EbUnit → List Query
unit_queries (eb.Context c) = []
unit_queries (eb.Machine m) = []
unit_queries (eb.Scope s) = []
unit_queries (eb.Queries qs) = qs

-- the queries of a text, in its order
abbrev pub queries : List EbUnit → List Query
queries us = flat_map unit_queries us

abbrev pub asks_axioms : Query → Bool
asks_axioms query.Axioms = true
asks_axioms (query.Enabled e) = false
asks_axioms (query.Invariant e l) = false
asks_axioms query.Deadlock = false
asks_axioms (query.Sequence es) = false
asks_axioms (query.WellDefined u l) = false
asks_axioms (query.Theorem u l) = false
asks_axioms (query.Goal es g) = false

abbrev pub limit_where : Bool → Option Limit → Option Limit
limit_where true l = l
limit_where false l = None

-- the first limit that the problem of a query passes: today of the query `axioms`, whose problem is the same each time
abbrev pub problem_passed : List EbUnit → EbModel → List EbType → Option Limit
problem_passed us m types = limit_where (list_any asks_axioms (queries us)) (axioms_passed (scope_of us m) m types)

-- so many queries are wanted: at most 1,000, or just one
abbrev pub is_wanted : Wanted → ℕ → Bool
is_wanted wanted.Any n = nat_le n 1000
is_wanted wanted.One n = n == 1

abbrev pub is_machine : EbUnit → Bool
is_machine (eb.Context c) = false
is_machine (eb.Machine m) = true
is_machine (eb.Scope s) = false
is_machine (eb.Queries qs) = false

-- What is answered today: there is no machine, each query is `axioms`, and each constant is an integer.
pub record IsAnsweredToday (us : List EbUnit) (m : EbModel) (types : List EbType) : Type 0 where
  pub contexts : list_any is_machine us ≡ false
  pub axioms : list_all asks_axioms (queries us) ≡ true
  pub integers : HaveIntegers (choices_of m types)

-- the problem where it is asked for
abbrev pub problem_where : Bool → Problem → Option Problem
problem_where true p = Some p
problem_where false p = None

-- the problem of the query `axioms`, if there is such a query
abbrev pub problem_asked : List EbUnit → EbModel → List EbType → Option Problem
problem_asked us m types = problem_where (list_any asks_axioms (queries us)) (axioms_problem (scope_of us m) m types)

-- why that problem isn't had: it passes this limit first
abbrev pub IsProblemFault : List EbUnit → EbModel → List EbType → QueryFault → Type 0
IsProblemFault us m types (fault.Limit l) = problem_passed us m types ≡ Some l
IsProblemFault us m types fault.Memory = ⊤

-- What is asked, by units of these types: the model, its types and scope, how many queries, and their problem.
pub record IsAskedBy (us : List EbUnit) (a : Asked) : Type 0 where
  pub scope : a.scope ≡ scope_of us a.model
  pub times : a.times ≡ length (queries us)
  pub problem : a.problem ≡ problem_asked us a.model a.types

-- The scope's integers have 16 bits, and there is one.
pub record IsSmall (scope : Scope) : Type 0 where
  pub least : negsuc 32767 ≤ℤ scope.lo
  pub greatest : scope.hi ≤ℤ pos 32767
  pub some : scope.lo ≤ℤ scope.hi

-- a problem has fewer than 2^32 choices, and no more than 2^62 facts
abbrev pub IsFew : Option Problem → Type 0
IsFew None = ⊤
IsFew (Some p) = (length p.choices < 2 ^ 32) × (length p.facts ≤ 2 ^ 62)

-- the problem that so many queries have, where there is one
abbrev pub problem_for : ℕ → Problem → Option Problem
problem_for zero p = None
problem_for (suc n) p = Some p

-- Types fit, the scope's integers are small, the choices are integers, and so many queries have the problem of the axioms.
pub record IsLawful (a : Asked) : Type 0 where
  pub typed : Typed a.model a.types
  pub small : IsSmall a.scope
  pub integers : HaveIntegers (choices_of a.model a.types)
  pub few : IsFew a.problem
  pub problem : a.problem ≡ problem_for a.times (axioms_problem a.scope a.model a.types)
