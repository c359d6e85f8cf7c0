-- Reading as it is run, step by step: a means of proof. No public clause names this; what is read is said by Grammar.
-- The number n is above the heights that are read, and m is at least how many things stand one behind the other.
use Rattle.std.specs.Prelude.{ℕ, zero, suc, ℤ, pos, ◌-ℤ◌, int_le, Bool, true, false, ◌||◌, ◌==◌, if◌then◌else◌, List, [], ◌∷◌, ◌++◌, length, codes, Option, Some, None, Result, Ok, Err, ⊤}
use Rattle.std.specs.Str.{bytes_eq}
use Rattle.eb_lexer.specs.Tokens.{is_kind}
use Rattle.eb_signs.specs.declared.sign.Sign.{Sign}
use Rattle.eb_signs.specs.declared.sign.Sign.TheVariants as s
use Rattle.eb_lexer.specs.declared.token.Token.{Token}
use Rattle.eb_lexer.specs.declared.token.TokenKind.{TokenKind}
use Rattle.eb_lexer.specs.declared.token.TokenKind.TheVariants as kind
use Rattle.eb_syntax.specs.declared.ast.Ast.{Ast}
use Rattle.eb_syntax.specs.declared.ast.Identifier.{Identifier}
use Rattle.eb_syntax.specs.declared.query.Goal.{Goal}
use Rattle.eb_syntax.specs.declared.query.Goal.TheVariants as goals
use Rattle.eb_syntax.specs.declared.query.Query.{Query}
use Rattle.eb_syntax.specs.declared.query.Query.TheVariants as queries
use Rattle.eb_syntax.specs.declared.units.Label.{Label}
use Rattle.eb_syntax.specs.declared.units.LabelledPredicate.{LabelledPredicate}
use Rattle.eb_syntax.specs.declared.units.ContextClause.{ContextClause}
use Rattle.eb_syntax.specs.declared.units.ContextClause.TheVariants as parts
use Rattle.eb_syntax.specs.declared.units.Context.{Context}
use Rattle.eb_syntax.specs.declared.units.NamesClause.{NamesClause}
use Rattle.eb_syntax.specs.declared.units.PredicatesClause.{PredicatesClause}
use Rattle.eb_syntax.specs.declared.units.Convergence.{Convergence}
use Rattle.eb_syntax.specs.declared.units.Convergence.TheVariants as convergence
use Rattle.eb_syntax.specs.declared.units.Inheritance.{Inheritance}
use Rattle.eb_syntax.specs.declared.units.Inheritance.TheVariants as inherits
use Rattle.eb_syntax.specs.declared.units.Assignment.{Assignment}
use Rattle.eb_syntax.specs.declared.units.Assignment.TheVariants as becomes
use Rattle.eb_syntax.specs.declared.units.Action.{Action}
use Rattle.eb_syntax.specs.declared.units.Event.{Event}
use Rattle.eb_syntax.specs.declared.units.MachineClause.{MachineClause}
use Rattle.eb_syntax.specs.declared.units.MachineClause.TheVariants as clauses
use Rattle.eb_syntax.specs.declared.units.Refinement.{Refinement}
use Rattle.eb_syntax.specs.declared.units.Machine.{Machine}
use Rattle.eb_syntax.specs.declared.units.ScopeSetting.{ScopeSetting}
use Rattle.eb_syntax.specs.declared.units.ScopeSetting.TheVariants as settings
use Rattle.eb_syntax.specs.declared.units.ScopeBlock.{ScopeBlock}
use Rattle.eb_syntax.specs.declared.units.EbUnit.{EbUnit}
use Rattle.eb_syntax.specs.declared.units.EbUnit.TheVariants as unit
use Rattle.eb_parser.specs.declared.fault.Fault.{Fault}
use Rattle.eb_parser.specs.declared.fault.Fault.TheVariants.{Syntax}
use Rattle.eb_parser.specs.declared.fault.ParseFault.{ParseFault}
use Rattle.eb_parser.specs.declared.fault.ParseFault.TheVariants as fault
use Rattle.eb_parser.specs.declared.formulas.FormulaKind.TheVariants as formula
use Rattle.eb_parser.specs.steps.Finding.{formula_at}
use Rattle.eb_units.specs.Faults.{IsPlace, HasLongStretch}

infixl 10 ◌>>=◌
abbrev pub ◌>>=◌ : {A B : Type 0} → Result A Fault → (A → Result B Fault) → Result B Fault
(Ok x) >>= g = g x
(Err e) >>= g = Err e

-- what is read, and the tokens behind it
abbrev pub Read : Type 0 → Type 0
Read A = Result (A × List Token) Fault

-- where a fault is
abbrev pub IsPlaced : List Token → ParseFault → Type 0
IsPlaced ts (fault.Syntax at) = IsPlace ts at
IsPlaced ts fault.TooDeep = HasLongStretch ts
IsPlaced ts fault.Memory = ⊤

-- enough for all that stands one behind the other
abbrev pub room : List Token → ℕ
room ts = suc (length ts)

-- ---- what stands at the front

-- whether the kind of the first token is among these
abbrev pub heads : (TokenKind → Bool) → List Token → Bool
heads f [] = false
heads f (t ∷ ts) = f t.kind

abbrev pub after_first : List Token → List Token
after_first [] = []
after_first (t ∷ ts) = ts

abbrev pub is_word : List ℕ → TokenKind → Bool
is_word text (kind.Word w) = bytes_eq w text
is_word text _ = false

abbrev pub is_name : TokenKind → Bool
is_name (kind.Word w) = true
is_name _ = false

abbrev pub is_label : TokenKind → Bool
is_label (kind.Label x) = true
is_label _ = false

-- `begins` of a sign
unfoldable pub at_sign : Sign → List Token → Bool
at_sign sign ts = heads (is_kind sign) ts

unfoldable pub at_word : List ℕ → List Token → Bool
at_word text ts = heads (is_word text) ts

unfoldable pub at_name : List Token → Bool
at_name ts = heads is_name ts

unfoldable pub at_label : List Token → Bool
at_label ts = heads is_label ts

abbrev pub place_at : List Token → ℕ
place_at [] = 0
place_at (t ∷ ts) = t.start

-- the sign, and its place
unfoldable pub sign_at : Sign → List Token → Read ℕ
sign_at sign ts = if at_sign sign ts then Ok (place_at ts, after_first ts) else Err Syntax

unfoldable pub word_at : List ℕ → List Token → Read ℕ
word_at text ts = if at_word text ts then Ok (place_at ts, after_first ts) else Err Syntax

-- the tokens behind the sign, where it stands there
unfoldable pub skip : Sign → List Token → List Token
skip sign ts = if at_sign sign ts then after_first ts else ts

abbrev pub name_of : Token → TokenKind → List Token → Read Identifier
name_of t (kind.Word x) ts = Ok (record { name = x; place = t.start }, ts)
name_of t _ ts = Err Syntax

abbrev pub name_at : List Token → Read Identifier
name_at [] = Err Syntax
name_at (t ∷ ts) = name_of t t.kind ts

abbrev pub label_of : Token → TokenKind → List Token → Read Label
label_of t (kind.Label x) ts = Ok (record { name = x; place = t.start }, ts)
label_of t _ ts = Err Syntax

abbrev pub label_at : List Token → Read Label
label_at [] = Err Syntax
label_at (t ∷ ts) = label_of t t.kind ts

abbrev pub number_of : TokenKind → List Token → Read ℤ
number_of (kind.Number n) ts = if int_le (pos 0) n then Ok (n, ts) else Err Syntax
number_of _ ts = Err Syntax

abbrev pub number_at : List Token → Read ℤ
number_at [] = Err Syntax
number_at (t ∷ ts) = number_of t.kind ts

-- one behind the other, as long as one may begin
unfoldable pub many : {A : Type 0} → (List Token → Bool) → (List Token → Read A) → ℕ → List Token → Read (List A)
many opens one zero ts = Err Syntax
many opens one (suc m) ts = if opens ts then (one ts >>= λ x. many opens one m x.1 >>= λ y. Ok (x.0 ∷ y.0, y.1)) else Ok ([], ts)

-- what was read before, and this behind it
abbrev pub with_front : {A : Type 0} → List A → Read (List A) → Read (List A)
with_front front read = read >>= λ y. Ok (front ++ y.0, y.1)

-- ---- names

unfoldable pub next_name_at : List Token → Read Identifier
next_name_at ts = name_at (skip s.Comma ts)

unfoldable pub goes_on : List Token → Bool
goes_on ts = at_name ts || at_sign s.Comma ts

abbrev pub more_names : ℕ → List Token → Read (List Identifier)
more_names m ts = many goes_on next_name_at m ts

unfoldable pub names_at : ℕ → List Token → Read (List Identifier)
names_at m ts = do
  x ← name_at ts
  with_front (x.0 ∷ []) (more_names m x.1)

unfoldable pub names_behind_at : Sign → ℕ → List Token → Read (List Identifier)
names_behind_at sign m ts = if at_sign sign ts then names_at m (after_first ts) else Ok ([], ts)

-- ---- predicates and expressions

unfoldable pub labelled_at : ℕ → List Token → Read LabelledPredicate
labelled_at n ts = do
  l ← label_at (skip s.Theorem ts)
  a ← formula_at n formula.Pred (skip s.MemberOf l.1)
  Ok (record { is_theorem = at_sign s.Theorem ts; label = l.0; predicate = a.0 }, a.1)

unfoldable pub opens_labelled : List Token → Bool
opens_labelled ts = at_label ts || at_sign s.Theorem ts

abbrev pub all_labelled : ℕ → ℕ → List Token → Read (List LabelledPredicate)
all_labelled n m ts = many opens_labelled (labelled_at n) m ts

unfoldable pub next_expr_at : ℕ → List Token → Read Ast
next_expr_at n ts = do
  p ← sign_at s.Comma ts
  formula_at n formula.Expr p.1

abbrev pub more_exprs : ℕ → ℕ → List Token → Read (List Ast)
more_exprs n m ts = many (at_sign s.Comma) (next_expr_at n) m ts

unfoldable pub exprs_at : ℕ → ℕ → List Token → Read (List Ast)
exprs_at n m ts = do
  e ← formula_at n formula.Expr ts
  with_front (e.0 ∷ []) (more_exprs n m e.1)

-- ---- actions

abbrev pub as_many : List Identifier → List Ast → List Token → Read Assignment
as_many xs es ts = if length xs == length es then Ok (becomes.BecomesEqual xs es, ts) else Err Syntax

unfoldable pub equal_at : ℕ → ℕ → List Identifier → List Token → Read Assignment
equal_at n m xs ts = do
  es ← exprs_at n m ts
  as_many xs es.0 es.1

unfoldable pub such_at : ℕ → List Identifier → List Token → Read Assignment
such_at n xs ts = do
  p ← sign_at s.BecomesSuchThat ts
  a ← formula_at n formula.Pred p.1
  Ok (becomes.BecomesSuchThat xs a.0, a.1)

unfoldable pub assigned_at : ℕ → ℕ → List Identifier → List Token → Read Assignment
assigned_at n m xs ts = if at_sign s.Becomes ts then equal_at n m xs (after_first ts) else such_at n xs ts

unfoldable pub applied_at : ℕ → Identifier → List Token → Read Assignment
applied_at n x ts = do
  e ← formula_at n formula.Expr ts
  p ← sign_at s.RightParenthesis e.1
  q ← sign_at s.Becomes p.1
  v ← formula_at n formula.Expr q.1
  Ok (becomes.BecomesEqualAt x e.0 v.0, v.1)

unfoldable pub member_at : ℕ → Identifier → List Token → Read Assignment
member_at n x ts = do
  e ← formula_at n formula.Expr ts
  Ok (becomes.BecomesMember x e.0, e.1)

unfoldable pub several_at : ℕ → ℕ → Identifier → List Token → Read Assignment
several_at n m x ts = do
  xs ← with_front (x ∷ []) (more_names m ts)
  assigned_at n m xs.0 xs.1

unfoldable pub assigns_at : ℕ → ℕ → Identifier → List Token → Read Assignment
assigns_at n m x ts = if at_sign s.LeftParenthesis ts then applied_at n x (after_first ts) else (if at_sign s.BecomesMember ts then member_at n x (after_first ts) else several_at n m x ts)

unfoldable pub assignment_at : ℕ → ℕ → List Token → Read Assignment
assignment_at n m ts = do
  x ← name_at ts
  assigns_at n m x.0 x.1

unfoldable pub action_at : ℕ → ℕ → List Token → Read Action
action_at n m ts = do
  l ← label_at ts
  a ← assignment_at n m (skip s.MemberOf l.1)
  Ok (record { label = l.0; assignment = a.0 }, a.1)

abbrev pub all_actions : ℕ → ℕ → List Token → Read (List Action)
all_actions n m ts = many at_label (action_at n m) m ts

-- ---- contexts

unfoldable pub sets_at : ℕ → List Token → Read ContextClause
sets_at m ts = names_at m ts >>= λ xs. Ok (parts.Sets xs.0, xs.1)

unfoldable pub constants_at : ℕ → List Token → Read ContextClause
constants_at m ts = names_at m ts >>= λ xs. Ok (parts.Constants xs.0, xs.1)

unfoldable pub axioms_at : ℕ → ℕ → List Token → Read ContextClause
axioms_at n m ts = do
  p ← sign_at s.Axioms ts
  xs ← all_labelled n m p.1
  Ok (parts.Axioms xs.0, xs.1)

unfoldable pub context_part_at : ℕ → ℕ → List Token → Read ContextClause
context_part_at n m ts = if at_sign s.Sets ts then sets_at m (after_first ts) else (if at_sign s.Constants ts then constants_at m (after_first ts) else axioms_at n m ts)

unfoldable pub opens_context_part : List Token → Bool
opens_context_part ts = at_sign s.Sets ts || (at_sign s.Constants ts || at_sign s.Axioms ts)

abbrev pub all_context_parts : ℕ → ℕ → List Token → Read (List ContextClause)
all_context_parts n m ts = many opens_context_part (context_part_at n m) m ts

unfoldable pub context_at : ℕ → ℕ → List Token → Read Context
context_at n m ts = do
  p ← sign_at s.Context ts
  x ← name_at p.1
  es ← names_behind_at s.Extends m x.1
  cs ← all_context_parts n m es.1
  q ← sign_at s.End cs.1
  Ok (record { name = x.0; extends = es.0; clauses = cs.0 }, q.1)

-- ---- events

abbrev pub convergence_at : List Token → Option Convergence
convergence_at ts = if at_sign s.Ordinary ts then Some convergence.Ordinary else (if at_sign s.Convergent ts then Some convergence.Convergent else (if at_sign s.Anticipated ts then Some convergence.Anticipated else None))

abbrev pub behind_convergence : Option Convergence → List Token → List Token
behind_convergence None ts = ts
behind_convergence (Some c) ts = after_first ts

unfoldable pub names_part_at : Sign → ℕ → List Token → Read NamesClause
names_part_at sign m ts = do
  p ← sign_at sign ts
  xs ← names_at m p.1
  Ok (record { place = p.0; names = xs.0 }, xs.1)

unfoldable pub predicates_part_at : Sign → ℕ → ℕ → List Token → Read PredicatesClause
predicates_part_at sign n m ts = do
  p ← sign_at sign ts
  xs ← all_labelled n m p.1
  Ok (record { place = p.0; predicates = xs.0 }, xs.1)

unfoldable pub refines_at : ℕ → List Token → Read (Option Inheritance)
refines_at m ts = names_part_at s.Refines m ts >>= λ c. Ok (Some (inherits.Refines c.0), c.1)

unfoldable pub extends_at : ℕ → List Token → Read (Option Inheritance)
extends_at m ts = names_part_at s.Extends m ts >>= λ c. Ok (Some (inherits.Extends c.0), c.1)

unfoldable pub inherits_at : ℕ → List Token → Read (Option Inheritance)
inherits_at m ts = if at_sign s.Refines ts then refines_at m ts else (if at_sign s.Extends ts then extends_at m ts else Ok (None, ts))

unfoldable pub parameters_at : ℕ → List Token → Read (Option NamesClause)
parameters_at m ts = if at_sign s.Any ts then (names_part_at s.Any m ts >>= λ c. Ok (Some c.0, c.1)) else Ok (None, ts)

-- the part behind the sign, where it stands there
unfoldable pub part_behind_at : Sign → ℕ → ℕ → List Token → Read (Option PredicatesClause)
part_behind_at sign n m ts = if at_sign sign ts then (predicates_part_at sign n m ts >>= λ c. Ok (Some c.0, c.1)) else Ok (None, ts)

unfoldable pub guards_at : ℕ → ℕ → List Token → Read (Option PredicatesClause)
guards_at n m ts = if at_sign s.Where ts then part_behind_at s.Where n m ts else part_behind_at s.When n m ts

unfoldable pub does_at : ℕ → ℕ → List Token → Read (List Action)
does_at n m ts = if at_sign s.Then ts || at_sign s.Begin ts then all_actions n m (after_first ts) else Ok ([], ts)

-- an event up to its parameters
unfoldable pub event_head_at : ℕ → List Token → Read (Identifier × Option Inheritance × Option NamesClause)
event_head_at m ts = do
  p ← sign_at s.Event ts
  x ← name_at p.1
  i ← inherits_at m x.1
  c ← parameters_at m i.1
  Ok ((x.0, i.0, c.0), c.1)

-- the rest of it
unfoldable pub event_body_at : ℕ → ℕ → List Token → Read (Option PredicatesClause × Option PredicatesClause × List Action)
event_body_at n m ts = do
  g ← guards_at n m ts
  w ← part_behind_at s.With n m g.1
  bs ← does_at n m w.1
  q ← sign_at s.End bs.1
  Ok ((g.0, w.0, bs.0), q.1)

unfoldable pub event_at : ℕ → ℕ → List Token → Read Event
event_at n m ts = do
  x ← event_head_at m (behind_convergence (convergence_at ts) ts)
  y ← event_body_at n m x.1
  Ok (record { convergence = convergence_at ts; name = (x.0).0; inheritance = (x.0).1; parameters = (x.0).2; guards = (y.0).0; witnesses = (y.0).1; actions = (y.0).2 }, y.1)

unfoldable pub opens_event : List Token → Bool
opens_event ts = (at_sign s.Event ts || at_sign s.Ordinary ts) || (at_sign s.Convergent ts || at_sign s.Anticipated ts)

abbrev pub all_events : ℕ → ℕ → List Token → Read (List Event)
all_events n m ts = many opens_event (event_at n m) m ts

-- ---- machines

unfoldable pub variables_at : ℕ → List Token → Read MachineClause
variables_at m ts = names_at m ts >>= λ xs. Ok (clauses.Variables xs.0, xs.1)

unfoldable pub invariants_at : ℕ → ℕ → List Token → Read MachineClause
invariants_at n m ts = all_labelled n m ts >>= λ xs. Ok (clauses.Invariants xs.0, xs.1)

unfoldable pub labelled_variant_at : ℕ → List Token → Read MachineClause
labelled_variant_at n ts = do
  l ← label_at ts
  a ← formula_at n formula.Expr l.1
  Ok (clauses.Variant (Some l.0) a.0, a.1)

unfoldable pub variant_at : ℕ → List Token → Read MachineClause
variant_at n ts = if at_label ts then labelled_variant_at n ts else (formula_at n formula.Expr ts >>= λ a. Ok (clauses.Variant None a.0, a.1))

unfoldable pub events_at : ℕ → ℕ → List Token → Read MachineClause
events_at n m ts = do
  p ← sign_at s.Events ts
  es ← all_events n m p.1
  Ok (clauses.Events es.0, es.1)

unfoldable pub machine_part_at : ℕ → ℕ → List Token → Read MachineClause
machine_part_at n m ts = if at_sign s.Variables ts then variables_at m (after_first ts) else (if at_sign s.Invariants ts then invariants_at n m (after_first ts)
    else (if at_sign s.Variant ts then variant_at n (after_first ts) else events_at n m ts))

unfoldable pub opens_machine_part : List Token → Bool
opens_machine_part ts = (at_sign s.Variables ts || at_sign s.Invariants ts) || (at_sign s.Variant ts || at_sign s.Events ts)

abbrev pub all_machine_parts : ℕ → ℕ → List Token → Read (List MachineClause)
all_machine_parts n m ts = many opens_machine_part (machine_part_at n m) m ts

unfoldable pub refinement_at : List Token → Read (Option Refinement)
refinement_at ts = if at_sign s.Refines ts then (name_at (after_first ts) >>= λ x. Ok (Some (record { place = place_at ts; machine = x.0 }), x.1)) else Ok (None, ts)

unfoldable pub machine_at : ℕ → ℕ → List Token → Read Machine
machine_at n m ts = do
  p ← sign_at s.Machine ts
  x ← name_at p.1
  r ← refinement_at x.1
  es ← names_behind_at s.Sees m r.1
  cs ← all_machine_parts n m es.1
  q ← sign_at s.End cs.1
  Ok (record { place = p.0; name = x.0; refines = r.0; sees = es.0; clauses = cs.0 }, q.1)

-- ---- scopes

unfoldable pub bound_at : List Token → Read ℤ
bound_at ts = if at_sign s.Minus ts then (number_at (after_first ts) >>= λ n. Ok (pos 0 -ℤ n.0, n.1)) else number_at ts

unfoldable pub integers_at : List Token → Read ScopeSetting
integers_at ts = do
  p ← word_at (codes "int") ts
  lo ← bound_at p.1
  q ← sign_at s.UpTo lo.1
  hi ← bound_at q.1
  Ok (settings.Integers p.0 lo.0 hi.0, hi.1)

unfoldable pub size_at : List Token → Read ScopeSetting
size_at ts = do
  p ← word_at (codes "size") ts
  x ← name_at p.1
  n ← number_at x.1
  Ok (settings.Size x.0 n.0, n.1)

unfoldable pub depth_at : List Token → Read ScopeSetting
depth_at ts = do
  p ← word_at (codes "depth") ts
  n ← number_at p.1
  Ok (settings.Depth p.0 n.0, n.1)

unfoldable pub setting_at : List Token → Read ScopeSetting
setting_at ts = if at_word (codes "int") ts then integers_at ts else (if at_word (codes "size") ts then size_at ts else depth_at ts)

-- whatever word stands there: behind the last setting stands "end"
abbrev pub all_settings : ℕ → List Token → Read (List ScopeSetting)
all_settings m ts = many at_name setting_at m ts

unfoldable pub scope_at : ℕ → List Token → Read ScopeBlock
scope_at m ts = do
  p ← word_at (codes "scope") ts
  xs ← all_settings m p.1
  q ← sign_at s.End xs.1
  Ok (record { place = p.0; settings = xs.0 }, q.1)

-- ---- queries

-- a name without its place
unfoldable pub event_name_at : List Token → Read (List ℕ)
event_name_at ts = name_at ts >>= λ x. Ok ((x.0).name, x.1)

unfoldable pub next_event_at : List Token → Read (List ℕ)
next_event_at ts = sign_at s.Comma ts >>= λ p. event_name_at p.1

abbrev pub more_events : ℕ → List Token → Read (List (List ℕ))
more_events m ts = many (at_sign s.Comma) next_event_at m ts

unfoldable pub some_events_at : ℕ → List Token → Read (List (List ℕ))
some_events_at m ts = do
  x ← event_name_at ts
  xs ← with_front (x.0 ∷ []) (more_events m x.1)
  q ← sign_at s.RightBracket xs.1
  Ok (xs.0, q.1)

abbrev pub in_brackets_at : ℕ → List Token → Read (List (List ℕ))
in_brackets_at m ts = if at_sign s.RightBracket ts then Ok ([], after_first ts) else some_events_at m ts

unfoldable pub sequence_at : ℕ → List Token → Read (List (List ℕ))
sequence_at m ts = sign_at s.LeftBracket ts >>= λ p. in_brackets_at m p.1

unfoldable pub take_at : List Token → Read Goal
take_at ts = event_name_at ts >>= λ x. Ok (goals.Take x.0, x.1)

unfoldable pub false_at : List Token → Read Goal
false_at ts = do
  p ← sign_at s.Falsity ts
  x ← event_name_at p.1
  n ← number_at x.1
  Ok (goals.False x.0 n.0, n.1)

unfoldable pub goal_at : List Token → Read Goal
goal_at ts = if at_word (codes "take") ts then take_at (after_first ts) else false_at ts

-- a name and a label
unfoldable pub target_at : List Token → Read (List ℕ × List ℕ)
target_at ts = do
  x ← event_name_at ts
  l ← label_at x.1
  Ok ((x.0, (l.0).name), l.1)

unfoldable pub ask_enabled_at : List Token → Read Query
ask_enabled_at ts = event_name_at ts >>= λ x. Ok (queries.Enabled x.0, x.1)

unfoldable pub ask_invariant_at : List Token → Read Query
ask_invariant_at ts = target_at ts >>= λ x. Ok (queries.Invariant (x.0).0 (x.0).1, x.1)

unfoldable pub ask_sequence_at : ℕ → List Token → Read Query
ask_sequence_at m ts = sequence_at m ts >>= λ x. Ok (queries.Sequence x.0, x.1)

unfoldable pub ask_wd_at : List Token → Read Query
ask_wd_at ts = target_at ts >>= λ x. Ok (queries.WellDefined (x.0).0 (x.0).1, x.1)

unfoldable pub ask_theorem_at : List Token → Read Query
ask_theorem_at ts = target_at ts >>= λ x. Ok (queries.Theorem (x.0).0 (x.0).1, x.1)

unfoldable pub ask_goal_at : ℕ → List Token → Read Query
ask_goal_at m ts = do
  p ← word_at (codes "goal") ts
  xs ← sequence_at m p.1
  g ← goal_at xs.1
  Ok (queries.Goal xs.0 g.0, g.1)

unfoldable pub name_query_at : ℕ → List Token → Read Query
name_query_at m ts = if at_word (codes "enabled") ts then ask_enabled_at (after_first ts) else (if at_word (codes "invariant") ts then ask_invariant_at (after_first ts)
    else (if at_word (codes "wd") ts then ask_wd_at (after_first ts) else ask_goal_at m ts))

-- a query that begins with a word
unfoldable pub word_query_at : ℕ → List Token → Read Query
word_query_at m ts = if at_word (codes "deadlock") ts then Ok (queries.Deadlock, after_first ts) else (if at_word (codes "sequence") ts then ask_sequence_at m (after_first ts) else name_query_at m ts)

unfoldable pub query_at : ℕ → List Token → Read Query
query_at m ts = if at_sign s.Axioms ts then Ok (queries.Axioms, after_first ts) else (if at_sign s.Theorem ts then ask_theorem_at (after_first ts) else word_query_at m ts)

unfoldable pub opens_query : List Token → Bool
opens_query ts = at_name ts || (at_sign s.Axioms ts || at_sign s.Theorem ts)

abbrev pub all_queries : ℕ → List Token → Read (List Query)
all_queries m ts = many opens_query (query_at m) m ts

unfoldable pub queries_at : ℕ → List Token → Read (List Query)
queries_at m ts = do
  p ← word_at (codes "queries") ts
  xs ← all_queries m p.1
  q ← sign_at s.End xs.1
  Ok (xs.0, q.1)

-- ---- texts

unfoldable pub scope_or_queries_at : ℕ → List Token → Read EbUnit
scope_or_queries_at m ts = if at_word (codes "scope") ts then (scope_at m ts >>= λ x. Ok (unit.Scope x.0, x.1)) else (queries_at m ts >>= λ x. Ok (unit.Queries x.0, x.1))

unfoldable pub unit_at : ℕ → ℕ → List Token → Read EbUnit
unit_at n m ts = if at_sign s.Context ts then (context_at n m ts >>= λ x. Ok (unit.Context x.0, x.1))
    else (if at_sign s.Machine ts then (machine_at n m ts >>= λ x. Ok (unit.Machine x.0, x.1)) else scope_or_queries_at m ts)

abbrev pub is_token : List Token → Bool
is_token [] = false
is_token (t ∷ ts) = true

-- the whole text: as long as a token stands there
abbrev pub text_at : ℕ → ℕ → List Token → Read (List EbUnit)
text_at n m ts = many is_token (unit_at n m) m ts
