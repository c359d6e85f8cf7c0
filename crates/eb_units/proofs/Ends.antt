-- What may stand behind what is read, and that each takes tokens.
use Rattle.std.proofs.Common.{◌≡◌, ◌∙◌, ◌<◌, ◌≤◌, inl, inr, ℕ, ℤ, Bool, true, false, not, ◌&&◌, ◌||◌, List, [], ◌∷◌, length, refl, sym, ap, arith}
use Rattle.std.specs.Prelude.{Option}
use denote.Enum.Bare.{same_true}
use Rattle.eb_signs.specs.contracts.sign.Sign.{the_type}
use Rattle.eb_signs.specs.declared.sign.Sign.{Sign}
use Rattle.eb_signs.specs.declared.sign.Sign.TheVariants as s
use Rattle.eb_lexer.specs.declared.token.Token.{Token}
use Rattle.eb_lexer.specs.declared.token.TokenKind.{TokenKind}
use Rattle.eb_lexer.specs.declared.token.TokenKind.TheVariants as kind
use Rattle.eb_syntax.specs.declared.ast.Ast.{Ast}
use Rattle.eb_syntax.specs.declared.ast.Identifier.{Identifier}
use Rattle.eb_syntax.specs.declared.query.Goal.{Goal}
use Rattle.eb_syntax.specs.declared.query.Query.{Query}
use Rattle.eb_syntax.specs.declared.units.Label.{Label}
use Rattle.eb_syntax.specs.declared.units.ContextClause.{ContextClause}
use Rattle.eb_syntax.specs.declared.units.NamesClause.{NamesClause}
use Rattle.eb_syntax.specs.declared.units.PredicatesClause.{PredicatesClause}
use Rattle.eb_syntax.specs.declared.units.Convergence.{Convergence}
use Rattle.eb_syntax.specs.declared.units.Inheritance.{Inheritance}
use Rattle.eb_syntax.specs.declared.units.Action.{Action}
use Rattle.eb_syntax.specs.declared.units.Event.{Event}
use Rattle.eb_syntax.specs.declared.units.MachineClause.{MachineClause}
use Rattle.eb_syntax.specs.declared.units.Refinement.{Refinement}
use Rattle.eb_syntax.specs.declared.units.ScopeBlock.{ScopeBlock}
use Rattle.eb_parser.specs.declared.formulas.FormulaKind.TheVariants as formula
use Rattle.eb_syntax.specs.declared.ast.Operator.{Operator}
use Rattle.eb_syntax.specs.declared.ast.Operator.TheVariants as op
use Rattle.eb_parser.specs.Signs.{operator_sign}
use Rattle.eb_parser.specs.Formulas.{is_unit_word, Continues}
use Rattle.eb_parser.specs.steps.Finding.{FrontLaws}
use Rattle.eb_units.specs.Grammar.{Next, Each, NextName, Names, NamesBehind, Labelled, NextExpr, Exprs, Assigns, Acts, ContextPart, IsContext, Converges, NamesPart, PredicatesPart, Inherits, Parameters, Guards, Witnesses, Does, IsEvent, Variant, MachinePart, Refines, IsMachine, Bounds, Sets, IsScope, NextEvent, Sequence, IsGoal, IsQuery, IsQueries, IsUnit, present, absent, none, more, next_name, names, names_behind, no_names, labelled, next_expr, exprs, becomes_equal, becomes_equal_at, becomes_member, becomes_such, acts, sets, constants, axioms, context, ordinary, convergent, anticipated, unsaid, names_part, predicates_part, refines, extends, inherits_nothing, any, no_parameters, where_part, when_part, no_guards, with_part, no_witnesses, then_part, begin_part, does_nothing, event, labelled_variant, bare_variant, variables, invariants, variant, events, refined, unrefined, machine, positive, negative, integers, size, depth, scope, next_event, empty, sequence, take_event, false_guard, ask_axioms, ask_enabled, ask_invariant, ask_deadlock, ask_sequence, ask_wd, ask_theorem, ask_goal, block, unit_context, unit_machine, unit_scope, unit_queries}
use Rattle.eb_units.specs.steps.Descending.{heads, is_name, is_label, at_sign, at_name, at_label, goes_on, opens_labelled}
use Rattle.eb_signs.specs.Signs.{same_sign}
use Rattle.eb_lexer.specs.Tokens.{is_kind}
use Rattle.eb_units.proofs.Heads.{by_flag, next_heads, next_sign, named_sign, next_less, keyword_less, named_less, labels_less, numbered_less, perhaps_less, marked_less}

-- a label, a word of units, `,` or `)`: no formula goes on with it
abbrev pub ends : TokenKind → Bool
ends (kind.Label x) = true
ends (kind.Sign r) = is_unit_word r || (same_sign r s.Comma || same_sign r s.RightParenthesis)
ends _ = false

-- a label or a word of units
abbrev pub quits : TokenKind → Bool
quits (kind.Label x) = true
quits (kind.Sign r) = is_unit_word r
quits _ = false

-- a word of units but for "theorem"
abbrev pub stops : TokenKind → Bool
stops (kind.Sign r) = is_unit_word r && not (same_sign r s.Theorem)
stops _ = false

both : (b c : Bool) → (b && c) ≡ true → (b ≡ true) × (c ≡ true)
both true c e = (refl, e)
both false c e = absurd cc

not_true : (b : Bool) → not b ≡ true → b ≡ false
not_true true e = absurd cc
not_true false e = refl

operator_ends : (o : Operator) → ends (kind.Sign (operator_sign o)) ≡ false
unfolding same_sign
operator_ends op.Implies = refl
operator_ends op.Equivalent = refl
operator_ends op.Or = refl
operator_ends op.And = refl
operator_ends op.Equal = refl
operator_ends op.Unequal = refl
operator_ends op.MemberOf = refl
operator_ends op.NotMemberOf = refl
operator_ends op.SubsetOf = refl
operator_ends op.NotSubsetOf = refl
operator_ends op.ProperSubsetOf = refl
operator_ends op.NotProperSubsetOf = refl
operator_ends op.Less = refl
operator_ends op.AtMost = refl
operator_ends op.Greater = refl
operator_ends op.AtLeast = refl
operator_ends op.MapsTo = refl
operator_ends op.Relation = refl
operator_ends op.TotalRelation = refl
operator_ends op.SurjectiveRelation = refl
operator_ends op.TotalSurjectiveRelation = refl
operator_ends op.PartialFunction = refl
operator_ends op.TotalFunction = refl
operator_ends op.PartialInjection = refl
operator_ends op.TotalInjection = refl
operator_ends op.PartialSurjection = refl
operator_ends op.TotalSurjection = refl
operator_ends op.Bijection = refl
operator_ends op.Union = refl
operator_ends op.Intersection = refl
operator_ends op.Difference = refl
operator_ends op.Product = refl
operator_ends op.ForwardComposition = refl
operator_ends op.BackwardComposition = refl
operator_ends op.DomainRestriction = refl
operator_ends op.DomainSubtraction = refl
operator_ends op.RangeRestriction = refl
operator_ends op.RangeSubtraction = refl
operator_ends op.Override = refl
operator_ends op.DirectProduct = refl
operator_ends op.ParallelProduct = refl
operator_ends op.UpTo = refl
operator_ends op.Plus = refl
operator_ends op.Minus = refl
operator_ends op.Times = refl
operator_ends op.Divide = refl
operator_ends op.Modulo = refl
operator_ends op.Power = refl
operator_ends op.Apply = refl
operator_ends op.Image = refl

inverse_ends : ends (kind.Sign s.Inverse) ≡ false
unfolding same_sign
inverse_ends = refl

apart : (k : TokenKind) (sign : Sign) → k ≡ kind.Sign sign → ends (kind.Sign sign) ≡ false → ends k ≡ true → ⊥
apart k sign i j e = let x : true ≡ false = sym e ∙ (ap ends i ∙ j) in cc

pub no_more : (ts : List Token) → heads ends ts ≡ true → Continues ts → ⊥
no_more [] e c = absurd c
no_more (t ∷ ts) e (inl (o, i)) = apart t.kind (operator_sign o) i (operator_ends o) e
no_more (t ∷ ts) e (inr i) = apart t.kind s.Inverse i inverse_ends e

quits_kind : (k : TokenKind) → quits k ≡ true → ends k ≡ true
quits_kind (kind.Label x) e = refl
quits_kind (kind.Sign r) e = ap (λ z. z || (same_sign r s.Comma || same_sign r s.RightParenthesis)) e
quits_kind (kind.Word x) e = absurd cc
quits_kind (kind.Primed x) e = absurd cc
quits_kind (kind.Number x) e = absurd cc

stops_kind : (k : TokenKind) → stops k ≡ true → quits k ≡ true
stops_kind (kind.Sign r) e = (both (is_unit_word r) (not (same_sign r s.Theorem)) e).0
stops_kind (kind.Label x) e = absurd cc
stops_kind (kind.Word x) e = absurd cc
stops_kind (kind.Primed x) e = absurd cc
stops_kind (kind.Number x) e = absurd cc

pub quits_ends : (ts : List Token) → heads quits ts ≡ true → heads ends ts ≡ true
quits_ends [] e = absurd cc
quits_ends (t ∷ ts) e = quits_kind t.kind e

pub stops_quits : (ts : List Token) → heads stops ts ≡ true → heads quits ts ≡ true
stops_quits [] e = absurd cc
stops_quits (t ∷ ts) e = stops_kind t.kind e

pub stops_ends : (ts : List Token) → heads stops ts ≡ true → heads ends ts ≡ true
stops_ends ts e = quits_ends ts (stops_quits ts e)

not_comma : (r : Sign) → is_unit_word r ≡ true → same_sign r s.Comma ≡ false
unfolding same_sign
not_comma r e = by_flag (same_sign r s.Comma) (λ i. let same : r ≡ s.Comma = same_true the_type tt r s.Comma i in let x : false ≡ true = sym (ap is_unit_word same) ∙ e in absurd cc) (λ i. i)

no_comma : (k : TokenKind) → quits k ≡ true → is_kind s.Comma k ≡ false
no_comma (kind.Sign r) e = not_comma r e
no_comma (kind.Label x) e = refl
no_comma (kind.Word x) e = absurd cc
no_comma (kind.Primed x) e = absurd cc
no_comma (kind.Number x) e = absurd cc

pub quits_comma : (ts : List Token) → heads quits ts ≡ true → at_sign s.Comma ts ≡ false
unfolding at_sign
quits_comma [] e = absurd cc
quits_comma (t ∷ ts) e = no_comma t.kind e

shut_kind : (k : TokenKind) → stops k ≡ true → (is_label k || is_kind s.Theorem k) ≡ false
shut_kind (kind.Sign r) e = not_true (same_sign r s.Theorem) (both (is_unit_word r) (not (same_sign r s.Theorem)) e).1
shut_kind (kind.Label x) e = absurd cc
shut_kind (kind.Word x) e = absurd cc
shut_kind (kind.Primed x) e = absurd cc
shut_kind (kind.Number x) e = absurd cc

pub stops_shut : (ts : List Token) → heads stops ts ≡ true → opens_labelled ts ≡ false
unfolding opens_labelled at_label at_sign
stops_shut [] e = absurd cc
stops_shut (t ∷ ts) e = shut_kind t.kind e

label_kind : (k : TokenKind) → stops k ≡ true → is_label k ≡ false
label_kind (kind.Sign r) e = refl
label_kind (kind.Label x) e = absurd cc
label_kind (kind.Word x) e = absurd cc
label_kind (kind.Primed x) e = absurd cc
label_kind (kind.Number x) e = absurd cc

pub stops_label : (ts : List Token) → heads stops ts ≡ true → at_label ts ≡ false
unfolding at_label
stops_label [] e = absurd cc
stops_label (t ∷ ts) e = label_kind t.kind e

name_kind : (k : TokenKind) → stops k ≡ true → (is_name k || is_kind s.Comma k) ≡ false
name_kind (kind.Sign r) e = not_comma r (both (is_unit_word r) (not (same_sign r s.Theorem)) e).0
name_kind (kind.Label x) e = absurd cc
name_kind (kind.Word x) e = absurd cc
name_kind (kind.Primed x) e = absurd cc
name_kind (kind.Number x) e = absurd cc

pub stops_names : (ts : List Token) → heads stops ts ≡ true → goes_on ts ≡ false
unfolding goes_on at_name at_sign
stops_names [] e = absurd cc
stops_names (t ∷ ts) e = name_kind t.kind e

-- ---- a sign that is not there

pub each_name_not : {us vs : List Token} {xs : List Identifier} {h : ℕ} (sign : Sign) → same_sign s.Comma sign ≡ false → Each NextName us xs h vs → at_sign sign vs ≡ false → at_sign sign us ≡ false
each_name_not sign e none f = f
each_name_not sign e (more (next_name (present n) x) r) f = next_sign sign n ∙ e
each_name_not sign e (more (next_name absent x) r) f = named_sign sign x

pub names_part_not : {ts rest : List Token} {c : NamesClause} {sg : Sign} (sign : Sign) → same_sign sg sign ≡ false → NamesPart sg ts c rest → at_sign sign ts ≡ false
names_part_not sign e (names_part n r) = next_sign sign n ∙ e

predicates_part_not : {ts rest : List Token} {c : PredicatesClause} {h : ℕ} {sg : Sign} (sign : Sign) → same_sign sg sign ≡ false → PredicatesPart sg ts c h rest → at_sign sign ts ≡ false
predicates_part_not sign e (predicates_part n r) = next_sign sign n ∙ e

pub does_not : {ts rest : List Token} {bs : List Action} {h : ℕ} (sign : Sign) → same_sign s.Then sign ≡ false → same_sign s.Begin sign ≡ false → Does ts bs h rest → at_sign sign rest ≡ false → at_sign sign ts ≡ false
does_not sign e f (then_part n r) g = next_sign sign n ∙ e
does_not sign e f (begin_part n r) g = next_sign sign n ∙ f
does_not sign e f does_nothing g = g

pub witnesses_not : {ts rest : List Token} {c : Option PredicatesClause} {h : ℕ} (sign : Sign) → same_sign s.With sign ≡ false → Witnesses ts c h rest → at_sign sign rest ≡ false → at_sign sign ts ≡ false
witnesses_not sign e (with_part p) g = predicates_part_not sign e p
witnesses_not sign e no_witnesses g = g

pub guards_not : {ts rest : List Token} {c : Option PredicatesClause} {h : ℕ} (sign : Sign) → same_sign s.Where sign ≡ false → same_sign s.When sign ≡ false → Guards ts c h rest → at_sign sign rest ≡ false → at_sign sign ts ≡ false
guards_not sign e f (where_part p) g = predicates_part_not sign e p
guards_not sign e f (when_part p) g = predicates_part_not sign f p
guards_not sign e f no_guards g = g

pub parameters_not : {ts rest : List Token} {c : Option NamesClause} (sign : Sign) → same_sign s.Any sign ≡ false → Parameters ts c rest → at_sign sign rest ≡ false → at_sign sign ts ≡ false
parameters_not sign e (any (names_part n r)) g = next_sign sign n ∙ e
parameters_not sign e no_parameters g = g

pub behind_not : {ts rest : List Token} {xs : List Identifier} {sg : Sign} (sign : Sign) → same_sign sg sign ≡ false → NamesBehind sg ts xs rest → at_sign sign rest ≡ false → at_sign sign ts ≡ false
behind_not sign e (names_behind n r) g = next_sign sign n ∙ e
behind_not sign e no_names g = g

-- ---- words of units that are there

pub next_stops : {sg : Sign} {ts rest : List Token} {at : ℕ} → Next sg ts at rest → stops (kind.Sign sg) ≡ true → heads stops ts ≡ true
next_stops n e = next_heads stops n ∙ e

pub does_stops : {ts rest : List Token} {bs : List Action} {h : ℕ} → Does ts bs h rest → heads stops rest ≡ true → heads stops ts ≡ true
unfolding same_sign
does_stops (then_part n r) g = next_stops n refl
does_stops (begin_part n r) g = next_stops n refl
does_stops does_nothing g = g

pub witnesses_stops : {ts rest : List Token} {c : Option PredicatesClause} {h : ℕ} → Witnesses ts c h rest → heads stops rest ≡ true → heads stops ts ≡ true
unfolding same_sign
witnesses_stops (with_part (predicates_part n r)) g = next_stops n refl
witnesses_stops no_witnesses g = g

pub guards_stops : {ts rest : List Token} {c : Option PredicatesClause} {h : ℕ} → Guards ts c h rest → heads stops rest ≡ true → heads stops ts ≡ true
unfolding same_sign
guards_stops (where_part (predicates_part n r)) g = next_stops n refl
guards_stops (when_part (predicates_part n r)) g = next_stops n refl
guards_stops no_guards g = g

pub parameters_stops : {ts rest : List Token} {c : Option NamesClause} → Parameters ts c rest → heads stops rest ≡ true → heads stops ts ≡ true
unfolding same_sign
parameters_stops (any (names_part n r)) g = next_stops n refl
parameters_stops no_parameters g = g

pub context_part_stops : {ts rest : List Token} {c : ContextClause} {h : ℕ} → ContextPart ts c h rest → heads stops ts ≡ true
unfolding same_sign
context_part_stops (sets n r) = next_stops n refl
context_part_stops (constants n r) = next_stops n refl
context_part_stops (axioms n r) = next_stops n refl

pub event_stops : {ts rest : List Token} {e : Event} {h : ℕ} → IsEvent ts e h rest → heads stops ts ≡ true
unfolding same_sign
event_stops (event (ordinary n) a b c d e f g q) = next_stops n refl
event_stops (event (convergent n) a b c d e f g q) = next_stops n refl
event_stops (event (anticipated n) a b c d e f g q) = next_stops n refl
event_stops (event unsaid n b c d e f g q) = next_stops n refl

pub machine_part_stops : {ts rest : List Token} {c : MachineClause} {h : ℕ} → MachinePart ts c h rest → heads stops ts ≡ true
unfolding same_sign
machine_part_stops (variables n r) = next_stops n refl
machine_part_stops (invariants n r) = next_stops n refl
machine_part_stops (variant n r) = next_stops n refl
machine_part_stops (events n r) = next_stops n refl

-- ---- each takes tokens

abbrev pub Less : {A : Type 0} → (List Token → A → ℕ → List Token → Type 0) → Type 0
Less {A} R = (ts rest : List Token) (x : A) (h : ℕ) → R ts x h rest → length rest < length ts

pub each_less : {A : Type 0} (R : List Token → A → ℕ → List Token → Type 0) → Less R → {ts rest : List Token} {xs : List A} {h : ℕ} → Each R ts xs h rest → length rest ≤ length ts
each_less R l none = omega arith
each_less R l (more {ts = ts} {us = us} {x = x} {h = h} r q) = omega (arith, l ts us x h r, each_less R l q)

pub next_name_less : Less NextName
next_name_less ts rest x h (next_name p n) = omega (arith, perhaps_less p, named_less n)

pub names_less : {ts rest : List Token} {xs : List Identifier} → Names ts xs rest → length rest < length ts
names_less (names n r) = omega (arith, named_less n, each_less NextName next_name_less r)

pub names_behind_less : {sg : Sign} {ts rest : List Token} {xs : List Identifier} → NamesBehind sg ts xs rest → length rest ≤ length ts
names_behind_less (names_behind n r) = omega (arith, next_less n, names_less r)
names_behind_less no_names = omega arith

pub labelled_less : FrontLaws → Less Labelled
labelled_less l ts rest x h (labelled {ws = ws} {a = a} m b c f) = omega (arith, marked_less m, labels_less b, perhaps_less c, l.shorter formula.Pred ws rest a h f)

pub next_expr_less : FrontLaws → Less NextExpr
next_expr_less l ts rest x h (next_expr {us = us} n f) = omega (arith, next_less n, l.shorter formula.Expr us rest x h f)

pub exprs_less : FrontLaws → Less Exprs
exprs_less l ts rest x h (exprs {us = us} {a = a} {h = g} f r) = omega (arith, l.shorter formula.Expr ts us a g f, each_less NextExpr (next_expr_less l) r)

pub assigns_less : FrontLaws → Less Assigns
assigns_less l ts rest x h (becomes_equal {vs = vs} {es = es} a b c d) = omega (arith, names_less a, next_less b, exprs_less l vs rest es h c)
assigns_less l ts rest x h (becomes_equal_at {vs = vs} {ws = ws} {ys = ys} {e = e} {v = v} {h = g} {k = k} a b c d f o) = omega (arith, named_less a, next_less b, l.shorter formula.Expr vs ws e g c, next_less d, next_less f, l.shorter formula.Expr ys rest v k o)
assigns_less l ts rest x h (becomes_member {vs = vs} {e = e} a b c) = omega (arith, named_less a, next_less b, l.shorter formula.Expr vs rest e h c)
assigns_less l ts rest x h (becomes_such {vs = vs} {a = p} a b c) = omega (arith, names_less a, next_less b, l.shorter formula.Pred vs rest p h c)

pub acts_less : FrontLaws → Less Acts
acts_less l ts rest x h (acts {vs = vs} {a = a} b c d) = omega (arith, labels_less b, perhaps_less c, assigns_less l vs rest a h d)

pub context_part_less : FrontLaws → Less ContextPart
context_part_less l ts rest x h (sets n r) = omega (arith, next_less n, names_less r)
context_part_less l ts rest x h (constants n r) = omega (arith, next_less n, names_less r)
context_part_less l ts rest x h (axioms n r) = omega (arith, next_less n, each_less Labelled (labelled_less l) r)

pub context_less : FrontLaws → Less IsContext
context_less l ts rest x h (context a b c d e) = omega (arith, next_less a, named_less b, names_behind_less c, each_less ContextPart (context_part_less l) d, next_less e)

converges_less : {ts rest : List Token} {c : Option Convergence} → Converges ts c rest → length rest ≤ length ts
converges_less (ordinary n) = omega (arith, next_less n)
converges_less (convergent n) = omega (arith, next_less n)
converges_less (anticipated n) = omega (arith, next_less n)
converges_less unsaid = omega arith

pub names_part_less : {sg : Sign} {ts rest : List Token} {c : NamesClause} → NamesPart sg ts c rest → length rest < length ts
names_part_less (names_part n r) = omega (arith, next_less n, names_less r)

pub predicates_part_less : FrontLaws → {sg : Sign} {ts rest : List Token} {c : PredicatesClause} {h : ℕ} → PredicatesPart sg ts c h rest → length rest < length ts
predicates_part_less l (predicates_part n r) = omega (arith, next_less n, each_less Labelled (labelled_less l) r)

pub inherits_less : {ts rest : List Token} {c : Option Inheritance} → Inherits ts c rest → length rest ≤ length ts
inherits_less (refines p) = omega (arith, names_part_less p)
inherits_less (extends p) = omega (arith, names_part_less p)
inherits_less inherits_nothing = omega arith

pub parameters_less : {ts rest : List Token} {c : Option NamesClause} → Parameters ts c rest → length rest ≤ length ts
parameters_less (any p) = omega (arith, names_part_less p)
parameters_less no_parameters = omega arith

pub guards_less : FrontLaws → {ts rest : List Token} {c : Option PredicatesClause} {h : ℕ} → Guards ts c h rest → length rest ≤ length ts
guards_less l (where_part p) = omega (arith, predicates_part_less l p)
guards_less l (when_part p) = omega (arith, predicates_part_less l p)
guards_less l no_guards = omega arith

pub witnesses_less : FrontLaws → {ts rest : List Token} {c : Option PredicatesClause} {h : ℕ} → Witnesses ts c h rest → length rest ≤ length ts
witnesses_less l (with_part p) = omega (arith, predicates_part_less l p)
witnesses_less l no_witnesses = omega arith

pub does_less : FrontLaws → {ts rest : List Token} {bs : List Action} {h : ℕ} → Does ts bs h rest → length rest ≤ length ts
does_less l (then_part n r) = omega (arith, next_less n, each_less Acts (acts_less l) r)
does_less l (begin_part n r) = omega (arith, next_less n, each_less Acts (acts_less l) r)
does_less l does_nothing = omega arith

pub event_less : FrontLaws → Less IsEvent
event_less l ts rest x h (event a b c d e f g i q) = omega (arith, converges_less a, next_less b, named_less c, inherits_less d, parameters_less e, guards_less l f, witnesses_less l g, does_less l i, next_less q)

variant_less : FrontLaws → {ts rest : List Token} {b : Option Label} {a : Ast} {h : ℕ} → Variant ts b a h rest → length rest < length ts
variant_less l (labelled_variant {us = us} {rest = rest} {a = a} {h = h} b f) = omega (arith, labels_less b, l.shorter formula.Expr us rest a h f)
variant_less l (bare_variant {ts = ts} {rest = rest} {a = a} {h = h} f) = l.shorter formula.Expr ts rest a h f

pub machine_part_less : FrontLaws → Less MachinePart
machine_part_less l ts rest x h (variables n r) = omega (arith, next_less n, names_less r)
machine_part_less l ts rest x h (invariants n r) = omega (arith, next_less n, each_less Labelled (labelled_less l) r)
machine_part_less l ts rest x h (variant n r) = omega (arith, next_less n, variant_less l r)
machine_part_less l ts rest x h (events n r) = omega (arith, next_less n, each_less IsEvent (event_less l) r)

pub refines_less : {ts rest : List Token} {c : Option Refinement} → Refines ts c rest → length rest ≤ length ts
refines_less (refined n x) = omega (arith, next_less n, named_less x)
refines_less unrefined = omega arith

pub machine_less : FrontLaws → Less IsMachine
machine_less l ts rest x h (machine a b c d e f) = omega (arith, next_less a, named_less b, refines_less c, names_behind_less d, each_less MachinePart (machine_part_less l) e, next_less f)

bounds_less : {ts rest : List Token} {n : ℤ} → Bounds ts n rest → length rest < length ts
bounds_less (positive n) = numbered_less n
bounds_less (negative m n) = omega (arith, next_less m, numbered_less n)

pub sets_less : Less Sets
sets_less ts rest x h (integers a b c d) = omega (arith, keyword_less a, bounds_less b, next_less c, bounds_less d)
sets_less ts rest x h (size a b c) = omega (arith, keyword_less a, named_less b, numbered_less c)
sets_less ts rest x h (depth a b) = omega (arith, keyword_less a, numbered_less b)

pub scope_less : {ts rest : List Token} {c : ScopeBlock} → IsScope ts c rest → length rest < length ts
scope_less (scope a b c) = omega (arith, keyword_less a, each_less Sets sets_less b, next_less c)

pub next_event_less : Less NextEvent
next_event_less ts rest x h (next_event n r) = omega (arith, next_less n, named_less r)

pub sequence_less : {ts rest : List Token} {xs : List (List ℕ)} → Sequence ts xs rest → length rest < length ts
sequence_less (empty a b) = omega (arith, next_less a, next_less b)
sequence_less (sequence a b c d) = omega (arith, next_less a, named_less b, each_less NextEvent next_event_less c, next_less d)

goal_less : {ts rest : List Token} {g : Goal} → IsGoal ts g rest → length rest < length ts
goal_less (take_event a b) = omega (arith, keyword_less a, named_less b)
goal_less (false_guard a b c) = omega (arith, next_less a, named_less b, numbered_less c)

pub query_less : Less IsQuery
query_less ts rest x h (ask_axioms a) = next_less a
query_less ts rest x h (ask_enabled a b) = omega (arith, keyword_less a, named_less b)
query_less ts rest x h (ask_invariant a b c) = omega (arith, keyword_less a, named_less b, labels_less c)
query_less ts rest x h (ask_deadlock a) = keyword_less a
query_less ts rest x h (ask_sequence a b) = omega (arith, keyword_less a, sequence_less b)
query_less ts rest x h (ask_wd a b c) = omega (arith, keyword_less a, named_less b, labels_less c)
query_less ts rest x h (ask_theorem a b c) = omega (arith, next_less a, named_less b, labels_less c)
query_less ts rest x h (ask_goal a b c) = omega (arith, keyword_less a, sequence_less b, goal_less c)

pub queries_less : {ts rest : List Token} {qs : List Query} → IsQueries ts qs rest → length rest < length ts
queries_less (block a b c) = omega (arith, keyword_less a, each_less IsQuery query_less b, next_less c)

pub unit_less : FrontLaws → Less IsUnit
unit_less l ts rest x h (unit_context {c = c} r) = context_less l ts rest c h r
unit_less l ts rest x h (unit_machine {m = m} r) = machine_less l ts rest m h r
unit_less l ts rest x h (unit_scope r) = scope_less r
unit_less l ts rest x h (unit_queries r) = queries_less r
