-- Where the words among some tokens are plain names, so are those behind whatever stands at their front.
use Rattle.std.proofs.Common.{ℕ, ℤ, Bool, List, subst}
use Rattle.std.specs.Prelude.{Option}
use Rattle.eb_signs.specs.declared.sign.Sign.{Sign}
use Rattle.eb_lexer.specs.declared.token.Token.{Token}
use Rattle.eb_syntax.specs.declared.ast.Ast.{Ast}
use Rattle.eb_syntax.specs.declared.ast.Identifier.{Identifier}
use Rattle.eb_syntax.specs.declared.query.Goal.{Goal}
use Rattle.eb_syntax.specs.declared.query.Query.{Query}
use Rattle.eb_syntax.specs.declared.units.Label.{Label}
use Rattle.eb_syntax.specs.declared.units.LabelledPredicate.{LabelledPredicate}
use Rattle.eb_syntax.specs.declared.units.NamesClause.{NamesClause}
use Rattle.eb_syntax.specs.declared.units.PredicatesClause.{PredicatesClause}
use Rattle.eb_syntax.specs.declared.units.Convergence.{Convergence}
use Rattle.eb_syntax.specs.declared.units.Inheritance.{Inheritance}
use Rattle.eb_syntax.specs.declared.units.Assignment.{Assignment}
use Rattle.eb_syntax.specs.declared.units.Action.{Action}
use Rattle.eb_syntax.specs.declared.units.Event.{Event}
use Rattle.eb_syntax.specs.declared.units.MachineClause.{MachineClause}
use Rattle.eb_syntax.specs.declared.units.Refinement.{Refinement}
use Rattle.eb_syntax.specs.declared.units.Machine.{Machine}
use Rattle.eb_syntax.specs.declared.units.ScopeSetting.{ScopeSetting}
use Rattle.eb_syntax.specs.declared.units.ScopeBlock.{ScopeBlock}
use Rattle.eb_parser.specs.declared.formulas.FormulaKind.{FormulaKind}
use Rattle.eb_parser.specs.Fronts.{Front}
use Rattle.eb_units.specs.Grammar.{Next, Perhaps, Keyword, Named, Labels, Numbered, Each, NextName, Names, NamesBehind, Marked, Labelled, NextExpr, Exprs, Assigns, Acts, Converges, NamesPart, PredicatesPart, Inherits, Parameters, Guards, Witnesses, Does, IsEvent, Variant, MachinePart, Refines, IsMachine, Bounds, Sets, IsScope, NextEvent, Sequence, IsGoal, IsQuery, IsQueries, next, present, absent, keyword, named, labels, numbered, none, more, next_name, names, names_behind, no_names, marked, unmarked, labelled, next_expr, exprs, becomes_equal, becomes_equal_at, becomes_member, becomes_such, acts, ordinary, convergent, anticipated, unsaid, names_part, predicates_part, refines, extends, inherits_nothing, any, no_parameters, where_part, when_part, no_guards, with_part, no_witnesses, then_part, begin_part, does_nothing, event, labelled_variant, bare_variant, variables, invariants, variant, events, refined, unrefined, machine, positive, negative, integers, size, depth, scope, next_event, empty, sequence, take_event, false_guard, ask_axioms, ask_enabled, ask_invariant, ask_deadlock, ask_sequence, ask_wd, ask_theorem, ask_goal, block}
use Rattle.carrier_names.proofs.TokenWords.{HavePlainWords, behind_plain}

-- ---- signs, names and formulas

pub next_behind : {sign : Sign} {ts rest : List Token} {at : ℕ} → Next sign ts at rest → HavePlainWords ts → HavePlainWords rest
next_behind (next t e) h = h.1

pub perhaps_behind : {sign : Sign} {ts rest : List Token} → Perhaps sign ts rest → HavePlainWords ts → HavePlainWords rest
perhaps_behind (present n) h = next_behind n h
perhaps_behind absent h = h

keyword_behind : {text : List ℕ} {ts rest : List Token} {at : ℕ} → Keyword text ts at rest → HavePlainWords ts → HavePlainWords rest
keyword_behind (keyword t e) h = h.1

pub named_behind : {ts rest : List Token} {x : Identifier} → Named ts x rest → HavePlainWords ts → HavePlainWords rest
named_behind (named t x e) h = h.1

labels_behind : {ts rest : List Token} {l : Label} → Labels ts l rest → HavePlainWords ts → HavePlainWords rest
labels_behind (labels t x e) h = h.1

numbered_behind : {ts rest : List Token} {n : ℤ} → Numbered ts n rest → HavePlainWords ts → HavePlainWords rest
numbered_behind (numbered t n e l) h = h.1

front_behind : {k : FormulaKind} {ts rest : List Token} {a : Ast} {g : ℕ} → Front k ts a g rest → HavePlainWords ts → HavePlainWords rest
front_behind {rest = rest} f h = behind_plain f.tokens rest (subst HavePlainWords f.whole h)

-- any number of what each keeps the words behind it plain
pub each_behind : {A : Type 0} (One : List Token → A → ℕ → List Token → Type 0) → ((ts rest : List Token) (x : A) (k : ℕ) → One ts x k rest → HavePlainWords ts → HavePlainWords rest)
    → (ts rest : List Token) (xs : List A) (k : ℕ) → Each One ts xs k rest → HavePlainWords ts → HavePlainWords rest
each_behind One one ts rest xs k none h = h
each_behind One one ts rest xs k (more {us = us} {x = x} {xs = ys} {h = g} {k = l} a b) h = each_behind One one us rest ys l b (one ts us x g a h)

next_name_behind : (ts rest : List Token) (x : Identifier) (k : ℕ) → NextName ts x k rest → HavePlainWords ts → HavePlainWords rest
next_name_behind ts rest x k (next_name p n) h = named_behind n (perhaps_behind p h)

pub names_follow : {ts rest : List Token} {xs : List Identifier} → Names ts xs rest → HavePlainWords ts → HavePlainWords rest
names_follow {rest = rest} (names {us = us} {xs = ys} {h = g} n e) h = each_behind NextName next_name_behind us rest ys g e (named_behind n h)

-- behind a sign, or nothing
pub after_names : {sign : Sign} {ts rest : List Token} {xs : List Identifier} → NamesBehind sign ts xs rest → HavePlainWords ts → HavePlainWords rest
after_names (names_behind n r) h = names_follow r (next_behind n h)
after_names no_names h = h

marked_behind : {ts rest : List Token} {b : Bool} → Marked ts b rest → HavePlainWords ts → HavePlainWords rest
marked_behind (marked n) h = next_behind n h
marked_behind unmarked h = h

labelled_behind : (ts rest : List Token) (x : LabelledPredicate) (k : ℕ) → Labelled ts x k rest → HavePlainWords ts → HavePlainWords rest
labelled_behind ts rest x k (labelled m l p f) h = front_behind f (perhaps_behind p (labels_behind l (marked_behind m h)))

pub predicates_behind : (ts rest : List Token) (xs : List LabelledPredicate) (k : ℕ) → Each Labelled ts xs k rest → HavePlainWords ts → HavePlainWords rest
predicates_behind = each_behind Labelled labelled_behind

-- ---- events and machines

next_expr_behind : (ts rest : List Token) (x : Ast) (k : ℕ) → NextExpr ts x k rest → HavePlainWords ts → HavePlainWords rest
next_expr_behind ts rest x k (next_expr n f) h = front_behind f (next_behind n h)

exprs_behind : {ts rest : List Token} {es : List Ast} {k : ℕ} → Exprs ts es k rest → HavePlainWords ts → HavePlainWords rest
exprs_behind {rest = rest} (exprs {us = us} {es = es} {k = l} f e) h = each_behind NextExpr next_expr_behind us rest es l e (front_behind f h)

assigns_behind : {ts rest : List Token} {a : Assignment} {k : ℕ} → Assigns ts a k rest → HavePlainWords ts → HavePlainWords rest
assigns_behind (becomes_equal n b e l) h = exprs_behind e (next_behind b (names_follow n h))
assigns_behind (becomes_equal_at n l f r b g) h = front_behind g (next_behind b (next_behind r (front_behind f (next_behind l (named_behind n h)))))
assigns_behind (becomes_member n b f) h = front_behind f (next_behind b (named_behind n h))
assigns_behind (becomes_such n b f) h = front_behind f (next_behind b (names_follow n h))

acts_behind : (ts rest : List Token) (x : Action) (k : ℕ) → Acts ts x k rest → HavePlainWords ts → HavePlainWords rest
acts_behind ts rest x k (acts l p a) h = assigns_behind a (perhaps_behind p (labels_behind l h))

converges_behind : {ts rest : List Token} {c : Option Convergence} → Converges ts c rest → HavePlainWords ts → HavePlainWords rest
converges_behind (ordinary n) h = next_behind n h
converges_behind (convergent n) h = next_behind n h
converges_behind (anticipated n) h = next_behind n h
converges_behind unsaid h = h

names_part_behind : {sign : Sign} {ts rest : List Token} {c : NamesClause} → NamesPart sign ts c rest → HavePlainWords ts → HavePlainWords rest
names_part_behind (names_part n r) h = names_follow r (next_behind n h)

predicates_part_behind : {sign : Sign} {ts rest : List Token} {c : PredicatesClause} {k : ℕ} → PredicatesPart sign ts c k rest → HavePlainWords ts → HavePlainWords rest
predicates_part_behind {rest = rest} (predicates_part {us = us} {ps = ps} {h = k} n e) h = predicates_behind us rest ps k e (next_behind n h)

inherits_behind : {ts rest : List Token} {i : Option Inheritance} → Inherits ts i rest → HavePlainWords ts → HavePlainWords rest
inherits_behind (refines p) h = names_part_behind p h
inherits_behind (extends p) h = names_part_behind p h
inherits_behind inherits_nothing h = h

parameters_behind : {ts rest : List Token} {c : Option NamesClause} → Parameters ts c rest → HavePlainWords ts → HavePlainWords rest
parameters_behind (any p) h = names_part_behind p h
parameters_behind no_parameters h = h

guards_behind : {ts rest : List Token} {c : Option PredicatesClause} {k : ℕ} → Guards ts c k rest → HavePlainWords ts → HavePlainWords rest
guards_behind (where_part p) h = predicates_part_behind p h
guards_behind (when_part p) h = predicates_part_behind p h
guards_behind no_guards h = h

witnesses_behind : {ts rest : List Token} {c : Option PredicatesClause} {k : ℕ} → Witnesses ts c k rest → HavePlainWords ts → HavePlainWords rest
witnesses_behind (with_part p) h = predicates_part_behind p h
witnesses_behind no_witnesses h = h

does_behind : {ts rest : List Token} {bs : List Action} {k : ℕ} → Does ts bs k rest → HavePlainWords ts → HavePlainWords rest
does_behind {rest = rest} (then_part {us = us} {bs = bs} {h = k} n e) h = each_behind Acts acts_behind us rest bs k e (next_behind n h)
does_behind {rest = rest} (begin_part {us = us} {bs = bs} {h = k} n e) h = each_behind Acts acts_behind us rest bs k e (next_behind n h)
does_behind does_nothing h = h

event_behind : (ts rest : List Token) (x : Event) (k : ℕ) → IsEvent ts x k rest → HavePlainWords ts → HavePlainWords rest
event_behind ts rest x k (event c e n i p g w d f) h =
    next_behind f (does_behind d (witnesses_behind w (guards_behind g (parameters_behind p (inherits_behind i (named_behind n (next_behind e (converges_behind c h))))))))

variant_behind : {ts rest : List Token} {l : Option Label} {a : Ast} {k : ℕ} → Variant ts l a k rest → HavePlainWords ts → HavePlainWords rest
variant_behind (labelled_variant l f) h = front_behind f (labels_behind l h)
variant_behind (bare_variant f) h = front_behind f h

machine_part_behind : (ts rest : List Token) (x : MachineClause) (k : ℕ) → MachinePart ts x k rest → HavePlainWords ts → HavePlainWords rest
machine_part_behind ts rest x k (variables n r) h = names_follow r (next_behind n h)
machine_part_behind ts rest x k (invariants {us = us} {ps = ps} n e) h = predicates_behind us rest ps k e (next_behind n h)
machine_part_behind ts rest x k (variant n v) h = variant_behind v (next_behind n h)
machine_part_behind ts rest x k (events {us = us} {es = es} n e) h = each_behind IsEvent event_behind us rest es k e (next_behind n h)

refines_behind : {ts rest : List Token} {r : Option Refinement} → Refines ts r rest → HavePlainWords ts → HavePlainWords rest
refines_behind (refined n x) h = named_behind x (next_behind n h)
refines_behind unrefined h = h

pub machine_behind : {ts rest : List Token} {m : Machine} {k : ℕ} → IsMachine ts m k rest → HavePlainWords ts → HavePlainWords rest
machine_behind {k = k} (machine {xs = xs} {ys = ys} {cs = cs} n x r s e f) h =
    next_behind f (each_behind MachinePart machine_part_behind xs ys cs k e (after_names s (refines_behind r (named_behind x (next_behind n h)))))

-- ---- scopes and queries

bounds_behind : {ts rest : List Token} {n : ℤ} → Bounds ts n rest → HavePlainWords ts → HavePlainWords rest
bounds_behind (positive n) h = numbered_behind n h
bounds_behind (negative m n) h = numbered_behind n (next_behind m h)

setting_behind : (ts rest : List Token) (x : ScopeSetting) (k : ℕ) → Sets ts x k rest → HavePlainWords ts → HavePlainWords rest
setting_behind ts rest x k (integers w m u n) h = bounds_behind n (next_behind u (bounds_behind m (keyword_behind w h)))
setting_behind ts rest x k (size w y n) h = numbered_behind n (named_behind y (keyword_behind w h))
setting_behind ts rest x k (depth w n) h = numbered_behind n (keyword_behind w h)

pub scope_behind : {ts rest : List Token} {b : ScopeBlock} → IsScope ts b rest → HavePlainWords ts → HavePlainWords rest
scope_behind (scope {us = us} {vs = vs} {h = k} {ss = ss} w e f) h = next_behind f (each_behind Sets setting_behind us vs ss k e (keyword_behind w h))

next_event_behind : (ts rest : List Token) (x : List ℕ) (k : ℕ) → NextEvent ts x k rest → HavePlainWords ts → HavePlainWords rest
next_event_behind ts rest x k (next_event n r) h = named_behind r (next_behind n h)

sequence_behind : {ts rest : List Token} {xs : List (List ℕ)} → Sequence ts xs rest → HavePlainWords ts → HavePlainWords rest
sequence_behind (empty l r) h = next_behind r (next_behind l h)
sequence_behind (sequence {vs = vs} {ws = ws} {h = k} {xs = xs} l n e r) h = next_behind r (each_behind NextEvent next_event_behind vs ws xs k e (named_behind n (next_behind l h)))

goal_behind : {ts rest : List Token} {g : Goal} → IsGoal ts g rest → HavePlainWords ts → HavePlainWords rest
goal_behind (take_event w x) h = named_behind x (keyword_behind w h)
goal_behind (false_guard s x n) h = numbered_behind n (named_behind x (next_behind s h))

query_behind : (ts rest : List Token) (q : Query) (k : ℕ) → IsQuery ts q k rest → HavePlainWords ts → HavePlainWords rest
query_behind ts rest q k (ask_axioms n) h = next_behind n h
query_behind ts rest q k (ask_enabled w x) h = named_behind x (keyword_behind w h)
query_behind ts rest q k (ask_invariant w x l) h = labels_behind l (named_behind x (keyword_behind w h))
query_behind ts rest q k (ask_deadlock w) h = keyword_behind w h
query_behind ts rest q k (ask_sequence w r) h = sequence_behind r (keyword_behind w h)
query_behind ts rest q k (ask_wd w x l) h = labels_behind l (named_behind x (keyword_behind w h))
query_behind ts rest q k (ask_theorem n x l) h = labels_behind l (named_behind x (next_behind n h))
query_behind ts rest q k (ask_goal w r g) h = goal_behind g (sequence_behind r (keyword_behind w h))

pub queries_behind : {ts rest : List Token} {qs : List Query} → IsQueries ts qs rest → HavePlainWords ts → HavePlainWords rest
queries_behind (block {us = us} {vs = vs} {h = k} {qs = qs} w e f) h = next_behind f (each_behind IsQuery query_behind us vs qs k e (keyword_behind w h))
