-- What the reader gives stands at the front of the tokens, lower than its limit.
use Rattle.std.proofs.Common.{◌≡◌, ◌<◌, ◌==◌, ℕ, zero, suc, ℤ, pos, ◌-ℤ◌, max, Bool, true, false, cond, ◌||◌, List, [], ◌∷◌, length, refl, sym, ap, subst, arith}
use Rattle.std.specs.Prelude.{Ok, Option, Some, None, codes}
use Rattle.std.proofs.lemmas.Bool.Decides.{nat_tests}
use Rattle.eb_signs.specs.declared.sign.Sign.{Sign}
use Rattle.eb_signs.specs.declared.sign.Sign.TheVariants as s
use Rattle.eb_lexer.specs.declared.token.Token.{Token}
use Rattle.eb_syntax.specs.declared.ast.Ast.{Ast}
use Rattle.eb_syntax.specs.declared.ast.Identifier.{Identifier}
use Rattle.eb_syntax.specs.declared.query.Goal.{Goal}
use Rattle.eb_syntax.specs.declared.query.Goal.TheVariants as goals
use Rattle.eb_syntax.specs.declared.query.Query.{Query}
use Rattle.eb_syntax.specs.declared.query.Query.TheVariants as queries
use Rattle.eb_syntax.specs.declared.units.Label.{Label}
use Rattle.eb_syntax.specs.declared.units.LabelledPredicate.{LabelledPredicate}
use Rattle.eb_syntax.specs.declared.units.ContextClause.{ContextClause}
use Rattle.eb_syntax.specs.declared.units.ContextClause.TheVariants as parts
use Rattle.eb_syntax.specs.declared.units.Context.{Context}
use Rattle.eb_syntax.specs.declared.units.NamesClause.{NamesClause}
use Rattle.eb_syntax.specs.declared.units.PredicatesClause.{PredicatesClause}
use Rattle.eb_syntax.specs.declared.units.Convergence.{Convergence}
use Rattle.eb_syntax.specs.declared.units.Convergence.TheVariants as convergence
use Rattle.eb_syntax.specs.declared.units.Inheritance.{Inheritance}
use Rattle.eb_syntax.specs.declared.units.Inheritance.TheVariants as inherits
use Rattle.eb_syntax.specs.declared.units.Assignment.{Assignment}
use Rattle.eb_syntax.specs.declared.units.Assignment.TheVariants as becomes
use Rattle.eb_syntax.specs.declared.units.Action.{Action}
use Rattle.eb_syntax.specs.declared.units.Event.{Event}
use Rattle.eb_syntax.specs.declared.units.MachineClause.{MachineClause}
use Rattle.eb_syntax.specs.declared.units.MachineClause.TheVariants as clauses
use Rattle.eb_syntax.specs.declared.units.Refinement.{Refinement}
use Rattle.eb_syntax.specs.declared.units.Machine.{Machine}
use Rattle.eb_syntax.specs.declared.units.ScopeSetting.{ScopeSetting}
use Rattle.eb_syntax.specs.declared.units.ScopeSetting.TheVariants as settings
use Rattle.eb_syntax.specs.declared.units.ScopeBlock.{ScopeBlock}
use Rattle.eb_syntax.specs.declared.units.EbUnit.{EbUnit}
use Rattle.eb_syntax.specs.declared.units.EbUnit.TheVariants as unit
use Rattle.eb_parser.specs.declared.formulas.FormulaKind.TheVariants as formula
use Rattle.eb_parser.specs.declared.formulas.FormulaKind.{FormulaKind}
use Rattle.eb_parser.specs.Fronts.{Front}
use Rattle.eb_parser.specs.steps.Finding.{formula_at, FrontLaws}
use Rattle.eb_units.specs.Grammar.{Next, Named, Labels, Each, NextName, Names, NamesBehind, Labelled, NextExpr, Exprs, Assigns, Acts, ContextPart, IsContext, Converges, NamesPart, PredicatesPart, Inherits, Parameters, Guards, Witnesses, Does, IsEvent, MachinePart, Refines, IsMachine, Bounds, Sets, IsScope, NextEvent, Sequence, IsGoal, IsQuery, IsQueries, IsUnit, none, more, next_name, names, names_behind, no_names, labelled, next_expr, exprs, becomes_equal, becomes_equal_at, becomes_member, becomes_such, acts, sets, constants, axioms, context, ordinary, convergent, anticipated, unsaid, names_part, predicates_part, refines, extends, inherits_nothing, any, no_parameters, where_part, when_part, no_guards, with_part, no_witnesses, then_part, begin_part, does_nothing, event, labelled_variant, bare_variant, variables, invariants, variant, events, refined, unrefined, machine, positive, negative, integers, size, depth, scope, next_event, empty, sequence, take_event, false_guard, ask_axioms, ask_enabled, ask_invariant, ask_deadlock, ask_sequence, ask_wd, ask_theorem, ask_goal, block, unit_context, unit_machine, unit_scope, unit_queries}
use Rattle.eb_units.specs.steps.Descending.{◌>>=◌, Read, after_first, at_sign, at_word, at_name, at_label, place_at, sign_at, word_at, skip, name_at, label_at, number_at, many, with_front, next_name_at, goes_on, more_names, names_at, names_behind_at, labelled_at, opens_labelled, all_labelled, next_expr_at, more_exprs, exprs_at, as_many, equal_at, such_at, assigned_at, applied_at, member_at, several_at, assigns_at, assignment_at, action_at, all_actions, sets_at, constants_at, axioms_at, context_part_at, opens_context_part, all_context_parts, context_at, convergence_at, behind_convergence, names_part_at, predicates_part_at, refines_at, extends_at, inherits_at, parameters_at, part_behind_at, guards_at, does_at, event_head_at, event_body_at, event_at, opens_event, all_events, variables_at, invariants_at, labelled_variant_at, variant_at, events_at, machine_part_at, opens_machine_part, all_machine_parts, refinement_at, machine_at, bound_at, integers_at, size_at, depth_at, setting_at, all_settings, scope_at, event_name_at, next_event_at, more_events, some_events_at, sequence_at, take_at, false_at, goal_at, target_at, ask_enabled_at, ask_invariant_at, ask_sequence_at, ask_wd_at, ask_theorem_at, ask_goal_at, name_query_at, word_query_at, query_at, opens_query, all_queries, queries_at, scope_or_queries_at, unit_at, is_token, text_at}
use Rattle.eb_units.proofs.Heads.{ok, ok_inj, bind_ok, branch, guard_ok, sign_sound, word_sound, sign_at_sound, word_at_sound, skip_sound, marked_sound, name_sound, label_sound, number_sound}

-- a limit of heights, and the laws of formulas
pub record Limit : Type 0 where
  pub n : ℕ
  pub some : 0 < n
  pub laws : FrontLaws

-- it stands there, and is lower than the limit
pub record Sound {A : Type 0} (n : ℕ) (R : List Token → A → ℕ → List Token → Type 0) (ts : List Token) (y : A × List Token) : Type 0 where
  pub height : ℕ
  pub low : height < n
  pub is : R ts y.0 height y.1

given : {A : Type 0} (n h : ℕ) (R : List Token → A → ℕ → List Token → Type 0) (ts rest : List Token) (x : A) (y : A × List Token) → h < n → R ts x h rest → ok (x, rest) ≡ Ok y → Sound n R ts y
given n h R ts rest x y l r e = subst (Sound n R ts) (ok_inj (x, rest) y e) (record { height = h; low = l; is = r })

plain : {A : Type 0} (R : List Token → A → List Token → Type 0) (ts rest : List Token) (x : A) (y : A × List Token) → R ts x rest → ok (x, rest) ≡ Ok y → R ts y.0 y.1
plain R ts rest x y r e = subst (λ z. R ts z.0 z.1) (ok_inj (x, rest) y e) r

max_low : (h k n : ℕ) → h < n → k < n → max h k < n
max_low h k n l m = grind arith

formula_sound : (b : Limit) (k : FormulaKind) (ts : List Token) (y : Ast × List Token) → formula_at b.n k ts ≡ Ok y → Sound b.n (Front k) ts y
formula_sound b k ts y e = let f = (b.laws).sound b.n k ts y.1 y.0 e in record { height = f.0; low = f.1; is = f.2 }

abbrev Sounds : {A : Type 0} → ℕ → (List Token → A → ℕ → List Token → Type 0) → (List Token → Read A) → Type 0
Sounds {A} n R one = (ts : List Token) (y : A × List Token) → one ts ≡ Ok y → Sound n R ts y

many_sound : {A : Type 0} (n : ℕ) → 0 < n → (R : List Token → A → ℕ → List Token → Type 0) (opens : List Token → Bool) (one : List Token → Read A) → Sounds n R one → (m : ℕ) → Sounds n (Each R) (many opens one m)
unfolding many
many_sound n l R opens one h zero ts y e = absurd cc
many_sound {A} n l R opens one h (suc m) ts y e =
    branch (opens ts) _ _ (Ok y) e
    (λ i d.
    let x = bind_ok (one ts) (λ x. many opens one m x.1 >>= λ z. Ok (x.0 ∷ z.0, z.1)) y d in
    let z = bind_ok (many opens one m (x.0).1) (λ z. Ok ((x.0).0 ∷ z.0, z.1)) y x.2 in
    let v = h ts x.0 x.1 in
    let w = many_sound n l R opens one h m (x.0).1 z.0 z.1 in
    given n (max v.height w.height) (Each R) ts (z.0).1 ((x.0).0 ∷ (z.0).0) y (max_low v.height w.height n v.low w.low) (more v.is w.is) z.2)
    (λ i d. given n 0 (Each R) ts ts [] y l none d)

-- where it ends none begins
pub many_ends : {A : Type 0} (opens : List Token → Bool) (one : List Token → Read A) (m : ℕ) (ts : List Token) (y : List A × List Token) → many opens one m ts ≡ Ok y → opens y.1 ≡ false
unfolding many
many_ends opens one zero ts y e = absurd cc
many_ends opens one (suc m) ts y e =
    branch (opens ts) _ _ (Ok y) e
    (λ i d.
    let x = bind_ok (one ts) (λ x. many opens one m x.1 >>= λ z. Ok (x.0 ∷ z.0, z.1)) y d in
    let z = bind_ok (many opens one m (x.0).1) (λ z. Ok ((x.0).0 ∷ z.0, z.1)) y x.2 in
    subst (λ v. opens v ≡ false) (ap (λ v. v.1) (ok_inj ((x.0).0 ∷ (z.0).0, (z.0).1) y z.2)) (many_ends opens one m (x.0).1 z.0 z.1))
    (λ i d. subst (λ v. opens v ≡ false) (ap (λ v. v.1) (ok_inj ([], ts) y d)) i)

next_name_sound : (b : Limit) (ts : List Token) (y : Identifier × List Token) → next_name_at ts ≡ Ok y → Sound b.n NextName ts y
unfolding next_name_at
next_name_sound b ts y e = record { height = 0; low = b.some; is = next_name (skip_sound s.Comma ts) (name_sound (skip s.Comma ts) y e) }

more_names_sound : (b : Limit) (m : ℕ) (ts : List Token) (y : List Identifier × List Token) → more_names m ts ≡ Ok y → Sound b.n (Each NextName) ts y
more_names_sound b m ts y e = many_sound b.n b.some NextName goes_on next_name_at (next_name_sound b) m ts y e

names_sound : (b : Limit) (m : ℕ) (ts : List Token) (y : List Identifier × List Token) → names_at m ts ≡ Ok y → Names ts y.0 y.1
unfolding names_at
names_sound b m ts y e =
    let x = bind_ok (name_at ts) _ y e in
    let w = bind_ok (more_names m (x.0).1) _ y x.2 in
    let v = more_names_sound b m (x.0).1 w.0 w.1 in
    plain Names ts (w.0).1 ((x.0).0 ∷ (w.0).0) y (names (name_sound ts x.0 x.1) v.is) w.2

names_behind_sound : (b : Limit) (sign : Sign) (m : ℕ) (ts : List Token) (y : List Identifier × List Token) → names_behind_at sign m ts ≡ Ok y → NamesBehind sign ts y.0 y.1
unfolding names_behind_at
names_behind_sound b sign m ts y e =
    branch (at_sign sign ts) _ _ (Ok y) e
    (λ i d. names_behind (sign_sound sign ts i) (names_sound b m (after_first ts) y d))
    (λ i d. plain (NamesBehind sign) ts ts [] y no_names d)

labelled_sound : (b : Limit) (ts : List Token) (y : LabelledPredicate × List Token) → labelled_at b.n ts ≡ Ok y → Sound b.n Labelled ts y
unfolding labelled_at
labelled_sound b ts y e =
    let l = bind_ok (label_at (skip s.Theorem ts)) _ y e in
    let a = bind_ok (formula_at b.n formula.Pred (skip s.MemberOf (l.0).1)) _ y l.2 in
    let f = formula_sound b formula.Pred (skip s.MemberOf (l.0).1) a.0 a.1 in
    given b.n f.height Labelled ts (a.0).1 (record { is_theorem = at_sign s.Theorem ts; label = (l.0).0; predicate = (a.0).0 }) y f.low
    (labelled (marked_sound ts) (label_sound (skip s.Theorem ts) l.0 l.1) (skip_sound s.MemberOf (l.0).1) f.is) a.2

all_labelled_sound : (b : Limit) (m : ℕ) (ts : List Token) (y : List LabelledPredicate × List Token) → all_labelled b.n m ts ≡ Ok y → Sound b.n (Each Labelled) ts y
all_labelled_sound b m ts y e = many_sound b.n b.some Labelled opens_labelled (labelled_at b.n) (labelled_sound b) m ts y e

next_expr_sound : (b : Limit) (ts : List Token) (y : Ast × List Token) → next_expr_at b.n ts ≡ Ok y → Sound b.n NextExpr ts y
unfolding next_expr_at
next_expr_sound b ts y e =
    let p = bind_ok (sign_at s.Comma ts) _ y e in
    let f = formula_sound b formula.Expr (p.0).1 y p.2 in
    record { height = f.height; low = f.low; is = next_expr (sign_at_sound s.Comma ts p.0 p.1) f.is }

exprs_sound : (b : Limit) (m : ℕ) (ts : List Token) (y : List Ast × List Token) → exprs_at b.n m ts ≡ Ok y → Sound b.n Exprs ts y
unfolding exprs_at
exprs_sound b m ts y e =
    let x = bind_ok (formula_at b.n formula.Expr ts) _ y e in
    let w = bind_ok (more_exprs b.n m (x.0).1) _ y x.2 in
    let f = formula_sound b formula.Expr ts x.0 x.1 in
    let v = many_sound b.n b.some NextExpr (at_sign s.Comma) (next_expr_at b.n) (next_expr_sound b) m (x.0).1 w.0 w.1 in
    given b.n (max f.height v.height) Exprs ts (w.0).1 ((x.0).0 ∷ (w.0).0) y (max_low f.height v.height b.n f.low v.low) (exprs f.is v.is) w.2

abbrev ok_of : {A : Type 0} → A × List Token → Read A
ok_of x = Ok x

abbrev ok_pair : {A : Type 0} → A → List Token → Read A
ok_pair x ts = Ok (x, ts)

as_many_sound : (xs : List Identifier) (es : List Ast) (ts : List Token) (y : Assignment × List Token) → as_many xs es ts ≡ Ok y → (length xs ≡ length es) × (ok_pair (becomes.BecomesEqual xs es) ts ≡ Ok y)
as_many_sound xs es ts y e =
    let g = guard_ok (length xs == length es) (becomes.BecomesEqual xs es, ts) y e in
    (grind (arith, nat_tests, g.0), ap ok_of g.1)

assigned_sound : (b : Limit) (m : ℕ) (start : List Token) (xs : List Identifier) (ts : List Token) → Names start xs ts → (y : Assignment × List Token) → assigned_at b.n m xs ts ≡ Ok y → Sound b.n Assigns start y
unfolding assigned_at equal_at such_at
assigned_sound b m start xs ts names_stand y e =
    branch (at_sign s.Becomes ts) _ _ (Ok y) e
    (λ i d.
    let x = bind_ok (exprs_at b.n m (after_first ts)) _ y d in
    let v = exprs_sound b m (after_first ts) x.0 x.1 in
    let w = as_many_sound xs (x.0).0 (x.0).1 y x.2 in
    given b.n v.height Assigns start (x.0).1 (becomes.BecomesEqual xs (x.0).0) y v.low (becomes_equal names_stand (sign_sound s.Becomes ts i) v.is w.0) w.1)
    (λ i d.
    let p = bind_ok (sign_at s.BecomesSuchThat ts) _ y d in
    let a = bind_ok (formula_at b.n formula.Pred (p.0).1) _ y p.2 in
    let f = formula_sound b formula.Pred (p.0).1 a.0 a.1 in
    given b.n f.height Assigns start (a.0).1 (becomes.BecomesSuchThat xs (a.0).0) y f.low (becomes_such names_stand (sign_at_sound s.BecomesSuchThat ts p.0 p.1) f.is) a.2)

applied_sound : (b : Limit) (start : List Token) (x : Identifier) (ts : List Token) {us : List Token} {at : ℕ} → Named start x us → Next s.LeftParenthesis us at ts → (y : Assignment × List Token) → applied_at b.n x ts ≡ Ok y → Sound b.n Assigns start y
unfolding applied_at
applied_sound b start x ts nm op y e =
    let a = bind_ok (formula_at b.n formula.Expr ts) _ y e in
    let p = bind_ok (sign_at s.RightParenthesis (a.0).1) _ y a.2 in
    let q = bind_ok (sign_at s.Becomes (p.0).1) _ y p.2 in
    let v = bind_ok (formula_at b.n formula.Expr (q.0).1) _ y q.2 in
    let f = formula_sound b formula.Expr ts a.0 a.1 in
    let g = formula_sound b formula.Expr (q.0).1 v.0 v.1 in
    given b.n (max f.height g.height) Assigns start (v.0).1 (becomes.BecomesEqualAt x (a.0).0 (v.0).0) y (max_low f.height g.height b.n f.low g.low)
    (becomes_equal_at nm op f.is (sign_at_sound s.RightParenthesis (a.0).1 p.0 p.1) (sign_at_sound s.Becomes (p.0).1 q.0 q.1) g.is) v.2

member_sound : (b : Limit) (start : List Token) (x : Identifier) (ts : List Token) {us : List Token} {at : ℕ} → Named start x us → Next s.BecomesMember us at ts → (y : Assignment × List Token) → member_at b.n x ts ≡ Ok y → Sound b.n Assigns start y
unfolding member_at
member_sound b start x ts nm op y e =
    let a = bind_ok (formula_at b.n formula.Expr ts) _ y e in
    let f = formula_sound b formula.Expr ts a.0 a.1 in
    given b.n f.height Assigns start (a.0).1 (becomes.BecomesMember x (a.0).0) y f.low (becomes_member nm op f.is) a.2

several_sound : (b : Limit) (m : ℕ) (start : List Token) (x : Identifier) (ts : List Token) → Named start x ts → (y : Assignment × List Token) → several_at b.n m x ts ≡ Ok y → Sound b.n Assigns start y
unfolding several_at
several_sound b m start x ts nm y e =
    let w = bind_ok (with_front (x ∷ []) (more_names m ts)) _ y e in
    let z = bind_ok (more_names m ts) _ w.0 w.1 in
    let v = more_names_sound b m ts z.0 z.1 in
    let whole : Names start (w.0).0 (w.0).1 = plain Names start (z.0).1 (x ∷ (z.0).0) w.0 (names nm v.is) z.2 in
    assigned_sound b m start (w.0).0 (w.0).1 whole y w.2

assignment_sound : (b : Limit) (m : ℕ) (ts : List Token) (y : Assignment × List Token) → assignment_at b.n m ts ≡ Ok y → Sound b.n Assigns ts y
unfolding assignment_at assigns_at
assignment_sound b m ts y e =
    let x = bind_ok (name_at ts) _ y e in
    let nm = name_sound ts x.0 x.1 in
    branch (at_sign s.LeftParenthesis (x.0).1) _ _ (Ok y) x.2
    (λ i d. applied_sound b ts (x.0).0 (after_first (x.0).1) nm (sign_sound s.LeftParenthesis (x.0).1 i) y d)
    (λ i d. branch (at_sign s.BecomesMember (x.0).1) _ _ (Ok y) d
    (λ j f. member_sound b ts (x.0).0 (after_first (x.0).1) nm (sign_sound s.BecomesMember (x.0).1 j) y f)
    (λ j f. several_sound b m ts (x.0).0 (x.0).1 nm y f))

action_sound : (b : Limit) (m : ℕ) (ts : List Token) (y : Action × List Token) → action_at b.n m ts ≡ Ok y → Sound b.n Acts ts y
unfolding action_at
action_sound b m ts y e =
    let l = bind_ok (label_at ts) _ y e in
    let a = bind_ok (assignment_at b.n m (skip s.MemberOf (l.0).1)) _ y l.2 in
    let f = assignment_sound b m (skip s.MemberOf (l.0).1) a.0 a.1 in
    given b.n f.height Acts ts (a.0).1 (record { label = (l.0).0; assignment = (a.0).0 }) y f.low (acts (label_sound ts l.0 l.1) (skip_sound s.MemberOf (l.0).1) f.is) a.2

all_actions_sound : (b : Limit) (m k : ℕ) (ts : List Token) (y : List Action × List Token) → many at_label (action_at b.n m) k ts ≡ Ok y → Sound b.n (Each Acts) ts y
all_actions_sound b m k ts y e = many_sound b.n b.some Acts at_label (action_at b.n m) (action_sound b m) k ts y e

context_part_sound : (b : Limit) (m : ℕ) (ts : List Token) (y : ContextClause × List Token) → context_part_at b.n m ts ≡ Ok y → Sound b.n ContextPart ts y
unfolding context_part_at sets_at constants_at axioms_at
context_part_sound b m ts y e =
    branch (at_sign s.Sets ts) _ _ (Ok y) e
    (λ i d.
    let x = bind_ok (names_at m (after_first ts)) _ y d in
    given b.n 0 ContextPart ts (x.0).1 (parts.Sets (x.0).0) y b.some (sets (sign_sound s.Sets ts i) (names_sound b m (after_first ts) x.0 x.1)) x.2)
    (λ i d. branch (at_sign s.Constants ts) _ _ (Ok y) d
    (λ j f.
    let x = bind_ok (names_at m (after_first ts)) _ y f in
    given b.n 0 ContextPart ts (x.0).1 (parts.Constants (x.0).0) y b.some (constants (sign_sound s.Constants ts j) (names_sound b m (after_first ts) x.0 x.1)) x.2)
    (λ j f.
    let p = bind_ok (sign_at s.Axioms ts) _ y f in
    let x = bind_ok (all_labelled b.n m (p.0).1) _ y p.2 in
    let v = all_labelled_sound b m (p.0).1 x.0 x.1 in
    given b.n v.height ContextPart ts (x.0).1 (parts.Axioms (x.0).0) y v.low (axioms (sign_at_sound s.Axioms ts p.0 p.1) v.is) x.2))

context_sound : (b : Limit) (m : ℕ) (ts : List Token) (y : Context × List Token) → context_at b.n m ts ≡ Ok y → Sound b.n IsContext ts y
unfolding context_at
context_sound b m ts y e =
    let p = bind_ok (sign_at s.Context ts) _ y e in
    let x = bind_ok (name_at (p.0).1) _ y p.2 in
    let es = bind_ok (names_behind_at s.Extends m (x.0).1) _ y x.2 in
    let cs = bind_ok (all_context_parts b.n m (es.0).1) _ y es.2 in
    let q = bind_ok (sign_at s.End (cs.0).1) _ y cs.2 in
    let v = many_sound b.n b.some ContextPart opens_context_part (context_part_at b.n m) (context_part_sound b m) m (es.0).1 cs.0 cs.1 in
    given b.n v.height IsContext ts (q.0).1 (record { name = (x.0).0; extends = (es.0).0; clauses = (cs.0).0 }) y v.low
    (context (sign_at_sound s.Context ts p.0 p.1) (name_sound (p.0).1 x.0 x.1) (names_behind_sound b s.Extends m (x.0).1 es.0 es.1) v.is (sign_at_sound s.End (cs.0).1 q.0 q.1)) q.2

converges_sound : (ts : List Token) → Converges ts (convergence_at ts) (behind_convergence (convergence_at ts) ts)
converges_sound ts = by_case (at_sign s.Ordinary ts) refl (at_sign s.Convergent ts) refl (at_sign s.Anticipated ts) refl
  where
    said : Bool → Bool → Bool → Option Convergence
    said b c d = cond b (Some convergence.Ordinary) (cond c (Some convergence.Convergent) (cond d (Some convergence.Anticipated) None))

    by_case : (b : Bool) → at_sign s.Ordinary ts ≡ b → (c : Bool) → at_sign s.Convergent ts ≡ c → (d : Bool) → at_sign s.Anticipated ts ≡ d → Converges ts (said b c d) (behind_convergence (said b c d) ts)
    by_case true i c j d k = ordinary (sign_sound s.Ordinary ts i)
    by_case false i true j d k = convergent (sign_sound s.Convergent ts j)
    by_case false i false j true k = anticipated (sign_sound s.Anticipated ts k)
    by_case false i false j false k = unsaid

names_part_sound : (b : Limit) (sign : Sign) (m : ℕ) (ts : List Token) (y : NamesClause × List Token) → names_part_at sign m ts ≡ Ok y → NamesPart sign ts y.0 y.1
unfolding names_part_at
names_part_sound b sign m ts y e =
    let p = bind_ok (sign_at sign ts) _ y e in
    let x = bind_ok (names_at m (p.0).1) _ y p.2 in
    plain (NamesPart sign) ts (x.0).1 (record { place = (p.0).0; names = (x.0).0 }) y (names_part (sign_at_sound sign ts p.0 p.1) (names_sound b m (p.0).1 x.0 x.1)) x.2

predicates_part_sound : (b : Limit) (sign : Sign) (m : ℕ) (ts : List Token) (y : PredicatesClause × List Token) → predicates_part_at sign b.n m ts ≡ Ok y → Sound b.n (PredicatesPart sign) ts y
unfolding predicates_part_at
predicates_part_sound b sign m ts y e =
    let p = bind_ok (sign_at sign ts) _ y e in
    let x = bind_ok (all_labelled b.n m (p.0).1) _ y p.2 in
    let v = all_labelled_sound b m (p.0).1 x.0 x.1 in
    given b.n v.height (PredicatesPart sign) ts (x.0).1 (record { place = (p.0).0; predicates = (x.0).0 }) y v.low (predicates_part (sign_at_sound sign ts p.0 p.1) v.is) x.2

inherits_sound : (b : Limit) (m : ℕ) (ts : List Token) (y : Option Inheritance × List Token) → inherits_at m ts ≡ Ok y → Inherits ts y.0 y.1
unfolding inherits_at refines_at extends_at
inherits_sound b m ts y e =
    branch (at_sign s.Refines ts) _ _ (Ok y) e
    (λ i d.
    let x = bind_ok (names_part_at s.Refines m ts) _ y d in
    plain Inherits ts (x.0).1 (Some (inherits.Refines (x.0).0)) y (refines (names_part_sound b s.Refines m ts x.0 x.1)) x.2)
    (λ i d. branch (at_sign s.Extends ts) _ _ (Ok y) d
    (λ j f.
    let x = bind_ok (names_part_at s.Extends m ts) _ y f in
    plain Inherits ts (x.0).1 (Some (inherits.Extends (x.0).0)) y (extends (names_part_sound b s.Extends m ts x.0 x.1)) x.2)
    (λ j f. plain Inherits ts ts None y inherits_nothing f))

parameters_sound : (b : Limit) (m : ℕ) (ts : List Token) (y : Option NamesClause × List Token) → parameters_at m ts ≡ Ok y → Parameters ts y.0 y.1
unfolding parameters_at
parameters_sound b m ts y e =
    branch (at_sign s.Any ts) _ _ (Ok y) e
    (λ i d.
    let x = bind_ok (names_part_at s.Any m ts) _ y d in
    plain Parameters ts (x.0).1 (Some (x.0).0) y (any (names_part_sound b s.Any m ts x.0 x.1)) x.2)
    (λ i d. plain Parameters ts ts None y no_parameters d)

guards_sound : (b : Limit) (m : ℕ) (ts : List Token) (y : Option PredicatesClause × List Token) → guards_at b.n m ts ≡ Ok y → Sound b.n Guards ts y
unfolding guards_at part_behind_at
guards_sound b m ts y e =
    branch (at_sign s.Where ts) _ _ (Ok y) e
    (λ i d. branch (at_sign s.Where ts) _ _ (Ok y) d
    (λ j f.
    let x = bind_ok (predicates_part_at s.Where b.n m ts) _ y f in
    let v = predicates_part_sound b s.Where m ts x.0 x.1 in
    given b.n v.height Guards ts (x.0).1 (Some (x.0).0) y v.low (where_part v.is) x.2)
    (λ j f. given b.n 0 Guards ts ts None y b.some no_guards f))
    (λ i d. branch (at_sign s.When ts) _ _ (Ok y) d
    (λ j f.
    let x = bind_ok (predicates_part_at s.When b.n m ts) _ y f in
    let v = predicates_part_sound b s.When m ts x.0 x.1 in
    given b.n v.height Guards ts (x.0).1 (Some (x.0).0) y v.low (when_part v.is) x.2)
    (λ j f. given b.n 0 Guards ts ts None y b.some no_guards f))

witnesses_sound : (b : Limit) (m : ℕ) (ts : List Token) (y : Option PredicatesClause × List Token) → part_behind_at s.With b.n m ts ≡ Ok y → Sound b.n Witnesses ts y
unfolding part_behind_at
witnesses_sound b m ts y e =
    branch (at_sign s.With ts) _ _ (Ok y) e
    (λ j f.
    let x = bind_ok (predicates_part_at s.With b.n m ts) _ y f in
    let v = predicates_part_sound b s.With m ts x.0 x.1 in
    given b.n v.height Witnesses ts (x.0).1 (Some (x.0).0) y v.low (with_part v.is) x.2)
    (λ j f. given b.n 0 Witnesses ts ts None y b.some no_witnesses f)

does_by : (b : Limit) (m : ℕ) (ts : List Token) (c d : Bool) → at_sign s.Then ts ≡ c → at_sign s.Begin ts ≡ d → (y : List Action × List Token) → cond (c || d) (all_actions b.n m (after_first ts)) (ok_pair [] ts) ≡ Ok y → Sound b.n Does ts y
does_by b m ts true d i j y e = let v = all_actions_sound b m m (after_first ts) y e in record { height = v.height; low = v.low; is = then_part (sign_sound s.Then ts i) v.is }
does_by b m ts false true i j y e = let v = all_actions_sound b m m (after_first ts) y e in record { height = v.height; low = v.low; is = begin_part (sign_sound s.Begin ts j) v.is }
does_by b m ts false false i j y e = given b.n 0 Does ts ts [] y b.some does_nothing e

does_sound : (b : Limit) (m : ℕ) (ts : List Token) (y : List Action × List Token) → does_at b.n m ts ≡ Ok y → Sound b.n Does ts y
unfolding does_at
does_sound b m ts y e = does_by b m ts (at_sign s.Then ts) (at_sign s.Begin ts) refl refl y e

-- the parts of an event
record HeadStands (ts : List Token) (x : Identifier × Option Inheritance × Option NamesClause) (rest : List Token) : Type 0 where
  place : ℕ
  a : List Token
  b : List Token
  c : List Token
  word : Next s.Event ts place a
  its_name : Named a x.0 b
  its_inheritance : Inherits b x.1 c
  its_parameters : Parameters c x.2 rest

record BodyStands (ts : List Token) (x : Option PredicatesClause × Option PredicatesClause × List Action) (height : ℕ) (rest : List Token) : Type 0 where
  place : ℕ
  a : List Token
  b : List Token
  c : List Token
  h : ℕ
  k : ℕ
  l : ℕ
  its_guards : Guards ts x.0 h a
  its_witnesses : Witnesses a x.1 k b
  its_actions : Does b x.2 l c
  word : Next s.End c place rest
  height_is : height ≡ max h (max k l)

event_head_sound : (b : Limit) (m : ℕ) (ts : List Token) (y : (Identifier × Option Inheritance × Option NamesClause) × List Token) → event_head_at m ts ≡ Ok y → HeadStands ts y.0 y.1
unfolding event_head_at
event_head_sound b m ts y e =
    let p = bind_ok (sign_at s.Event ts) _ y e in
    let x = bind_ok (name_at (p.0).1) _ y p.2 in
    let i = bind_ok (inherits_at m (x.0).1) _ y x.2 in
    let c = bind_ok (parameters_at m (i.0).1) _ y i.2 in
    plain HeadStands ts (c.0).1 ((x.0).0, (i.0).0, (c.0).0) y
    (record { place = (p.0).0; a = (p.0).1; b = (x.0).1; c = (i.0).1; word = sign_at_sound s.Event ts p.0 p.1; its_name = name_sound (p.0).1 x.0 x.1; its_inheritance = inherits_sound b m (x.0).1 i.0 i.1; its_parameters = parameters_sound b m (i.0).1 c.0 c.1 }) c.2

event_body_sound : (b : Limit) (m : ℕ) (ts : List Token) (y : (Option PredicatesClause × Option PredicatesClause × List Action) × List Token) → event_body_at b.n m ts ≡ Ok y → Sound b.n BodyStands ts y
unfolding event_body_at
event_body_sound b m ts y e =
    let g = bind_ok (guards_at b.n m ts) _ y e in
    let w = bind_ok (part_behind_at s.With b.n m (g.0).1) _ y g.2 in
    let d = bind_ok (does_at b.n m (w.0).1) _ y w.2 in
    let q = bind_ok (sign_at s.End (d.0).1) _ y d.2 in
    let i = guards_sound b m ts g.0 g.1 in
    let j = witnesses_sound b m (g.0).1 w.0 w.1 in
    let o = does_sound b m (w.0).1 d.0 d.1 in
    given b.n (max i.height (max j.height o.height)) BodyStands ts (q.0).1 ((g.0).0, (w.0).0, (d.0).0) y (max_low i.height (max j.height o.height) b.n i.low (max_low j.height o.height b.n j.low o.low))
    (record { place = (q.0).0; a = (g.0).1; b = (w.0).1; c = (d.0).1; h = i.height; k = j.height; l = o.height; its_guards = i.is; its_witnesses = j.is; its_actions = o.is; word = sign_at_sound s.End (d.0).1 q.0 q.1; height_is = refl }) q.2

event_sound : (b : Limit) (m : ℕ) (ts : List Token) (y : Event × List Token) → event_at b.n m ts ≡ Ok y → Sound b.n IsEvent ts y
unfolding event_at
event_sound b m ts y e =
    let x = bind_ok (event_head_at m (behind_convergence (convergence_at ts) ts)) _ y e in
    let z = bind_ok (event_body_at b.n m (x.0).1) _ y x.2 in
    let i = event_head_sound b m (behind_convergence (convergence_at ts) ts) x.0 x.1 in
    let j = event_body_sound b m (x.0).1 z.0 z.1 in
    let r = j.is in
    given b.n (max r.h (max r.k r.l)) IsEvent ts (z.0).1
    (record { convergence = convergence_at ts; name = ((x.0).0).0; inheritance = ((x.0).0).1; parameters = ((x.0).0).2; guards = ((z.0).0).0; witnesses = ((z.0).0).1; actions = ((z.0).0).2 }) y
    (subst (λ v. v < b.n) r.height_is j.low) (event (converges_sound ts) i.word i.its_name i.its_inheritance i.its_parameters r.its_guards r.its_witnesses r.its_actions r.word) z.2

variant_sound : (b : Limit) (ts start : List Token) {at : ℕ} → Next s.Variant start at ts → (y : MachineClause × List Token) → variant_at b.n ts ≡ Ok y → Sound b.n MachinePart start y
unfolding variant_at labelled_variant_at
variant_sound b ts start w y e =
    branch (at_label ts) _ _ (Ok y) e
    (λ i d.
    let l = bind_ok (label_at ts) _ y d in
    let a = bind_ok (formula_at b.n formula.Expr (l.0).1) _ y l.2 in
    let f = formula_sound b formula.Expr (l.0).1 a.0 a.1 in
    given b.n f.height MachinePart start (a.0).1 (clauses.Variant (Some (l.0).0) (a.0).0) y f.low (variant w (labelled_variant (label_sound ts l.0 l.1) f.is)) a.2)
    (λ i d.
    let a = bind_ok (formula_at b.n formula.Expr ts) _ y d in
    let f = formula_sound b formula.Expr ts a.0 a.1 in
    given b.n f.height MachinePart start (a.0).1 (clauses.Variant None (a.0).0) y f.low (variant w (bare_variant f.is)) a.2)

machine_part_sound : (b : Limit) (m : ℕ) (ts : List Token) (y : MachineClause × List Token) → machine_part_at b.n m ts ≡ Ok y → Sound b.n MachinePart ts y
unfolding machine_part_at variables_at invariants_at events_at
machine_part_sound b m ts y e =
    branch (at_sign s.Variables ts) _ _ (Ok y) e
    (λ i d.
    let x = bind_ok (names_at m (after_first ts)) _ y d in
    given b.n 0 MachinePart ts (x.0).1 (clauses.Variables (x.0).0) y b.some (variables (sign_sound s.Variables ts i) (names_sound b m (after_first ts) x.0 x.1)) x.2)
    (λ i d. branch (at_sign s.Invariants ts) _ _ (Ok y) d
    (λ j f.
    let x = bind_ok (all_labelled b.n m (after_first ts)) _ y f in
    let v = all_labelled_sound b m (after_first ts) x.0 x.1 in
    given b.n v.height MachinePart ts (x.0).1 (clauses.Invariants (x.0).0) y v.low (invariants (sign_sound s.Invariants ts j) v.is) x.2)
    (λ j f. branch (at_sign s.Variant ts) _ _ (Ok y) f
    (λ k g. variant_sound b (after_first ts) ts (sign_sound s.Variant ts k) y g)
    (λ k g.
    let p = bind_ok (sign_at s.Events ts) _ y g in
    let x = bind_ok (all_events b.n m (p.0).1) _ y p.2 in
    let v = many_sound b.n b.some IsEvent opens_event (event_at b.n m) (event_sound b m) m (p.0).1 x.0 x.1 in
    given b.n v.height MachinePart ts (x.0).1 (clauses.Events (x.0).0) y v.low (events (sign_at_sound s.Events ts p.0 p.1) v.is) x.2)))

refinement_sound : (ts : List Token) (y : Option Refinement × List Token) → refinement_at ts ≡ Ok y → Refines ts y.0 y.1
unfolding refinement_at
refinement_sound ts y e =
    branch (at_sign s.Refines ts) _ _ (Ok y) e
    (λ i d.
    let x = bind_ok (name_at (after_first ts)) _ y d in
    plain Refines ts (x.0).1 (Some (record { place = place_at ts; machine = (x.0).0 })) y (refined (sign_sound s.Refines ts i) (name_sound (after_first ts) x.0 x.1)) x.2)
    (λ i d. plain Refines ts ts None y unrefined d)

machine_sound : (b : Limit) (m : ℕ) (ts : List Token) (y : Machine × List Token) → machine_at b.n m ts ≡ Ok y → Sound b.n IsMachine ts y
unfolding machine_at
machine_sound b m ts y e =
    let p = bind_ok (sign_at s.Machine ts) _ y e in
    let x = bind_ok (name_at (p.0).1) _ y p.2 in
    let r = bind_ok (refinement_at (x.0).1) _ y x.2 in
    let es = bind_ok (names_behind_at s.Sees m (r.0).1) _ y r.2 in
    let cs = bind_ok (all_machine_parts b.n m (es.0).1) _ y es.2 in
    let q = bind_ok (sign_at s.End (cs.0).1) _ y cs.2 in
    let v = many_sound b.n b.some MachinePart opens_machine_part (machine_part_at b.n m) (machine_part_sound b m) m (es.0).1 cs.0 cs.1 in
    given b.n v.height IsMachine ts (q.0).1 (record { place = (p.0).0; name = (x.0).0; refines = (r.0).0; sees = (es.0).0; clauses = (cs.0).0 }) y v.low
    (machine (sign_at_sound s.Machine ts p.0 p.1) (name_sound (p.0).1 x.0 x.1) (refinement_sound (x.0).1 r.0 r.1) (names_behind_sound b s.Sees m (r.0).1 es.0 es.1) v.is (sign_at_sound s.End (cs.0).1 q.0 q.1)) q.2

bound_sound : (ts : List Token) (y : ℤ × List Token) → bound_at ts ≡ Ok y → Bounds ts y.0 y.1
unfolding bound_at
bound_sound ts y e =
    branch (at_sign s.Minus ts) _ _ (Ok y) e
    (λ i d.
    let x = bind_ok (number_at (after_first ts)) _ y d in
    plain Bounds ts (x.0).1 (pos 0 -ℤ (x.0).0) y (negative (sign_sound s.Minus ts i) (number_sound (after_first ts) x.0 x.1)) x.2)
    (λ i d. positive (number_sound ts y d))

setting_sound : (b : Limit) (ts : List Token) (y : ScopeSetting × List Token) → setting_at ts ≡ Ok y → Sound b.n Sets ts y
unfolding setting_at integers_at size_at depth_at
setting_sound b ts y e =
    branch (at_word (codes "int") ts) _ _ (Ok y) e
    (λ i d.
    let p = bind_ok (word_at (codes "int") ts) _ y d in
    let lo = bind_ok (bound_at (p.0).1) _ y p.2 in
    let q = bind_ok (sign_at s.UpTo (lo.0).1) _ y lo.2 in
    let hi = bind_ok (bound_at (q.0).1) _ y q.2 in
    given b.n 0 Sets ts (hi.0).1 (settings.Integers (p.0).0 (lo.0).0 (hi.0).0) y b.some
    (integers (word_at_sound (codes "int") ts p.0 p.1) (bound_sound (p.0).1 lo.0 lo.1) (sign_at_sound s.UpTo (lo.0).1 q.0 q.1) (bound_sound (q.0).1 hi.0 hi.1)) hi.2)
    (λ i d. branch (at_word (codes "size") ts) _ _ (Ok y) d
    (λ j f.
    let p = bind_ok (word_at (codes "size") ts) _ y f in
    let x = bind_ok (name_at (p.0).1) _ y p.2 in
    let n = bind_ok (number_at (x.0).1) _ y x.2 in
    given b.n 0 Sets ts (n.0).1 (settings.Size (x.0).0 (n.0).0) y b.some (size (word_at_sound (codes "size") ts p.0 p.1) (name_sound (p.0).1 x.0 x.1) (number_sound (x.0).1 n.0 n.1)) n.2)
    (λ j f.
    let p = bind_ok (word_at (codes "depth") ts) _ y f in
    let n = bind_ok (number_at (p.0).1) _ y p.2 in
    given b.n 0 Sets ts (n.0).1 (settings.Depth (p.0).0 (n.0).0) y b.some (depth (word_at_sound (codes "depth") ts p.0 p.1) (number_sound (p.0).1 n.0 n.1)) n.2))

scope_sound : (b : Limit) (m : ℕ) (ts : List Token) (y : ScopeBlock × List Token) → scope_at m ts ≡ Ok y → IsScope ts y.0 y.1
unfolding scope_at
scope_sound b m ts y e =
    let p = bind_ok (word_at (codes "scope") ts) _ y e in
    let xs = bind_ok (all_settings m (p.0).1) _ y p.2 in
    let q = bind_ok (sign_at s.End (xs.0).1) _ y xs.2 in
    let v = many_sound b.n b.some Sets at_name setting_at (setting_sound b) m (p.0).1 xs.0 xs.1 in
    plain IsScope ts (q.0).1 (record { place = (p.0).0; settings = (xs.0).0 }) y (scope (word_at_sound (codes "scope") ts p.0 p.1) v.is (sign_at_sound s.End (xs.0).1 q.0 q.1)) q.2

-- a name without its place
record Without (ts : List Token) (x : List ℕ) (rest : List Token) : Type 0 where
  whole : Identifier
  stands : Named ts whole rest
  is : whole.name ≡ x

event_name_sound : (ts : List Token) (y : List ℕ × List Token) → event_name_at ts ≡ Ok y → Without ts y.0 y.1
unfolding event_name_at
event_name_sound ts y e =
    let x = bind_ok (name_at ts) _ y e in
    plain Without ts (x.0).1 ((x.0).0).name y (record { whole = (x.0).0; stands = name_sound ts x.0 x.1; is = refl }) x.2

next_event_sound : (b : Limit) (ts : List Token) (y : List ℕ × List Token) → next_event_at ts ≡ Ok y → Sound b.n NextEvent ts y
unfolding next_event_at
next_event_sound b ts y e =
    let p = bind_ok (sign_at s.Comma ts) _ y e in
    let x = event_name_sound (p.0).1 y p.2 in
    record { height = 0; low = b.some; is = subst (λ z. NextEvent ts z 0 y.1) x.is (next_event (sign_at_sound s.Comma ts p.0 p.1) x.stands) }

some_events_sound : (b : Limit) (m : ℕ) (ts start : List Token) {at : ℕ} → Next s.LeftBracket start at ts → (y : List (List ℕ) × List Token) → some_events_at m ts ≡ Ok y → Sequence start y.0 y.1
unfolding some_events_at
some_events_sound b m ts start w y e =
    let x = bind_ok (event_name_at ts) _ y e in
    let xs = bind_ok (with_front ((x.0).0 ∷ []) (more_events m (x.0).1)) _ y x.2 in
    let q = bind_ok (sign_at s.RightBracket (xs.0).1) _ y xs.2 in
    let z = bind_ok (more_events m (x.0).1) _ xs.0 xs.1 in
    let v = many_sound b.n b.some NextEvent (at_sign s.Comma) next_event_at (next_event_sound b) m (x.0).1 z.0 z.1 in
    let n = event_name_sound ts x.0 x.1 in
    let same = ok_inj ((x.0).0 ∷ (z.0).0, (z.0).1) xs.0 z.2 in
    let last : Next s.RightBracket (z.0).1 (q.0).0 (q.0).1 = subst (λ u. Next s.RightBracket u.1 (q.0).0 (q.0).1) (sym same) (sign_at_sound s.RightBracket (xs.0).1 q.0 q.1) in
    plain Sequence start (q.0).1 (xs.0).0 y (subst (λ u. Sequence start u.0 (q.0).1) same (subst (λ u. Sequence start (u ∷ (z.0).0) (q.0).1) n.is (sequence w n.stands v.is last))) q.2

sequence_sound : (b : Limit) (m : ℕ) (ts : List Token) (y : List (List ℕ) × List Token) → sequence_at m ts ≡ Ok y → Sequence ts y.0 y.1
unfolding sequence_at
sequence_sound b m ts y e =
    let p = bind_ok (sign_at s.LeftBracket ts) _ y e in
    let w = sign_at_sound s.LeftBracket ts p.0 p.1 in
    branch (at_sign s.RightBracket (p.0).1) _ _ (Ok y) p.2
    (λ i d. plain Sequence ts (after_first (p.0).1) [] y (empty w (sign_sound s.RightBracket (p.0).1 i)) d)
    (λ i d. some_events_sound b m (p.0).1 ts w y d)

goal_sound : (ts : List Token) (y : Goal × List Token) → goal_at ts ≡ Ok y → IsGoal ts y.0 y.1
unfolding goal_at take_at false_at
goal_sound ts y e =
    branch (at_word (codes "take") ts) _ _ (Ok y) e
    (λ i d.
    let x = bind_ok (event_name_at (after_first ts)) _ y d in
    let n = event_name_sound (after_first ts) x.0 x.1 in
    plain IsGoal ts (x.0).1 (goals.Take (x.0).0) y (subst (λ z. IsGoal ts (goals.Take z) (x.0).1) n.is (take_event (word_sound (codes "take") ts i) n.stands)) x.2)
    (λ i d.
    let p = bind_ok (sign_at s.Falsity ts) _ y d in
    let x = bind_ok (event_name_at (p.0).1) _ y p.2 in
    let k = bind_ok (number_at (x.0).1) _ y x.2 in
    let n = event_name_sound (p.0).1 x.0 x.1 in
    plain IsGoal ts (k.0).1 (goals.False (x.0).0 (k.0).0) y (subst (λ z. IsGoal ts (goals.False z (k.0).0) (k.0).1) n.is (false_guard (sign_at_sound s.Falsity ts p.0 p.1) n.stands (number_sound (x.0).1 k.0 k.1))) k.2)

record Target (ts : List Token) (x : List ℕ × List ℕ) (rest : List Token) : Type 0 where
  behind : List Token
  whole : Identifier
  label : Label
  stands : Named ts whole behind
  its_label : Labels behind label rest
  is : (whole.name, label.name) ≡ x

target_sound : (ts : List Token) (y : (List ℕ × List ℕ) × List Token) → target_at ts ≡ Ok y → Target ts y.0 y.1
unfolding target_at
target_sound ts y e =
    let x = bind_ok (event_name_at ts) _ y e in
    let l = bind_ok (label_at (x.0).1) _ y x.2 in
    let n = event_name_sound ts x.0 x.1 in
    plain Target ts (l.0).1 ((x.0).0, ((l.0).0).name) y (record { behind = (x.0).1; whole = n.whole; label = (l.0).0; stands = n.stands; its_label = label_sound (x.0).1 l.0 l.1; is = ap (λ z. (z, ((l.0).0).name)) n.is }) l.2

name_query_sound : (b : Limit) (m : ℕ) (ts : List Token) (y : Query × List Token) → name_query_at m ts ≡ Ok y → Sound b.n IsQuery ts y
unfolding name_query_at ask_enabled_at ask_invariant_at ask_wd_at ask_goal_at
name_query_sound b m ts y e =
    branch (at_word (codes "enabled") ts) _ _ (Ok y) e
    (λ i d.
    let x = bind_ok (event_name_at (after_first ts)) _ y d in
    let n = event_name_sound (after_first ts) x.0 x.1 in
    given b.n 0 IsQuery ts (x.0).1 (queries.Enabled (x.0).0) y b.some (subst (λ z. IsQuery ts (queries.Enabled z) 0 (x.0).1) n.is (ask_enabled (word_sound (codes "enabled") ts i) n.stands)) x.2)
    (λ i d. branch (at_word (codes "invariant") ts) _ _ (Ok y) d
    (λ j f.
    let x = bind_ok (target_at (after_first ts)) _ y f in
    let n = target_sound (after_first ts) x.0 x.1 in
    given b.n 0 IsQuery ts (x.0).1 (queries.Invariant ((x.0).0).0 ((x.0).0).1) y b.some (subst (λ z. IsQuery ts (queries.Invariant z.0 z.1) 0 (x.0).1) n.is (ask_invariant (word_sound (codes "invariant") ts j) n.stands n.its_label)) x.2)
    (λ j f. branch (at_word (codes "wd") ts) _ _ (Ok y) f
    (λ k g.
    let x = bind_ok (target_at (after_first ts)) _ y g in
    let n = target_sound (after_first ts) x.0 x.1 in
    given b.n 0 IsQuery ts (x.0).1 (queries.WellDefined ((x.0).0).0 ((x.0).0).1) y b.some (subst (λ z. IsQuery ts (queries.WellDefined z.0 z.1) 0 (x.0).1) n.is (ask_wd (word_sound (codes "wd") ts k) n.stands n.its_label)) x.2)
    (λ k g.
    let p = bind_ok (word_at (codes "goal") ts) _ y g in
    let xs = bind_ok (sequence_at m (p.0).1) _ y p.2 in
    let o = bind_ok (goal_at (xs.0).1) _ y xs.2 in
    given b.n 0 IsQuery ts (o.0).1 (queries.Goal (xs.0).0 (o.0).0) y b.some (ask_goal (word_at_sound (codes "goal") ts p.0 p.1) (sequence_sound b m (p.0).1 xs.0 xs.1) (goal_sound (xs.0).1 o.0 o.1)) o.2)))

query_sound : (b : Limit) (m : ℕ) (ts : List Token) (y : Query × List Token) → query_at m ts ≡ Ok y → Sound b.n IsQuery ts y
unfolding query_at word_query_at ask_theorem_at ask_sequence_at
query_sound b m ts y e =
    branch (at_sign s.Axioms ts) _ _ (Ok y) e
    (λ i d. given b.n 0 IsQuery ts (after_first ts) queries.Axioms y b.some (ask_axioms (sign_sound s.Axioms ts i)) d)
    (λ i d. branch (at_sign s.Theorem ts) _ _ (Ok y) d
    (λ j f.
    let x = bind_ok (target_at (after_first ts)) _ y f in
    let n = target_sound (after_first ts) x.0 x.1 in
    given b.n 0 IsQuery ts (x.0).1 (queries.Theorem ((x.0).0).0 ((x.0).0).1) y b.some (subst (λ z. IsQuery ts (queries.Theorem z.0 z.1) 0 (x.0).1) n.is (ask_theorem (sign_sound s.Theorem ts j) n.stands n.its_label)) x.2)
    (λ j f. branch (at_word (codes "deadlock") ts) _ _ (Ok y) f
    (λ k g. given b.n 0 IsQuery ts (after_first ts) queries.Deadlock y b.some (ask_deadlock (word_sound (codes "deadlock") ts k)) g)
    (λ k g. branch (at_word (codes "sequence") ts) _ _ (Ok y) g
    (λ l o.
    let x = bind_ok (sequence_at m (after_first ts)) _ y o in
    given b.n 0 IsQuery ts (x.0).1 (queries.Sequence (x.0).0) y b.some (ask_sequence (word_sound (codes "sequence") ts l) (sequence_sound b m (after_first ts) x.0 x.1)) x.2)
    (λ l o. name_query_sound b m ts y o))))

queries_sound : (b : Limit) (m : ℕ) (ts : List Token) (y : List Query × List Token) → queries_at m ts ≡ Ok y → IsQueries ts y.0 y.1
unfolding queries_at
queries_sound b m ts y e =
    let p = bind_ok (word_at (codes "queries") ts) _ y e in
    let xs = bind_ok (all_queries m (p.0).1) _ y p.2 in
    let q = bind_ok (sign_at s.End (xs.0).1) _ y xs.2 in
    let v = many_sound b.n b.some IsQuery opens_query (query_at m) (query_sound b m) m (p.0).1 xs.0 xs.1 in
    plain IsQueries ts (q.0).1 (xs.0).0 y (block (word_at_sound (codes "queries") ts p.0 p.1) v.is (sign_at_sound s.End (xs.0).1 q.0 q.1)) q.2

unit_sound : (b : Limit) (m : ℕ) (ts : List Token) (y : EbUnit × List Token) → unit_at b.n m ts ≡ Ok y → Sound b.n IsUnit ts y
unfolding unit_at scope_or_queries_at
unit_sound b m ts y e =
    branch (at_sign s.Context ts) _ _ (Ok y) e
    (λ i d.
    let x = bind_ok (context_at b.n m ts) _ y d in
    let v = context_sound b m ts x.0 x.1 in
    given b.n v.height IsUnit ts (x.0).1 (unit.Context (x.0).0) y v.low (unit_context v.is) x.2)
    (λ i d. branch (at_sign s.Machine ts) _ _ (Ok y) d
    (λ j f.
    let x = bind_ok (machine_at b.n m ts) _ y f in
    let v = machine_sound b m ts x.0 x.1 in
    given b.n v.height IsUnit ts (x.0).1 (unit.Machine (x.0).0) y v.low (unit_machine v.is) x.2)
    (λ j f. branch (at_word (codes "scope") ts) _ _ (Ok y) f
    (λ k g.
    let x = bind_ok (scope_at m ts) _ y g in
    given b.n 0 IsUnit ts (x.0).1 (unit.Scope (x.0).0) y b.some (unit_scope (scope_sound b m ts x.0 x.1)) x.2)
    (λ k g.
    let x = bind_ok (queries_at m ts) _ y g in
    given b.n 0 IsUnit ts (x.0).1 (unit.Queries (x.0).0) y b.some (unit_queries (queries_sound b m ts x.0 x.1)) x.2)))

pub text_sound : (b : Limit) (m : ℕ) (ts : List Token) (y : List EbUnit × List Token) → text_at b.n m ts ≡ Ok y → Sound b.n (Each IsUnit) ts y
text_sound b m ts y e = many_sound b.n b.some IsUnit is_token (unit_at b.n m) (unit_sound b m) m ts y e
