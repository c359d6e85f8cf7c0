-- Units that stand at the front of the tokens are read, or are too deep where they are not lower than the limit.
use Rattle.std.proofs.Common.{◌≡◌, ◌∙◌, ◌<◌, ◌≤◌, ℕ, suc, ℤ, max, Bool, true, false, cond, ◌||◌, List, [], ◌∷◌, length, refl, sym, ap, subst, arith}
use Rattle.std.specs.Prelude.{Ok, Option, Some, codes}
use Rattle.std.specs.Str.{bytes_eq}
use Rattle.eb_signs.specs.declared.sign.Sign.{Sign}
use Rattle.eb_signs.specs.declared.sign.Sign.TheVariants as s
use Rattle.eb_lexer.specs.declared.token.Token.{Token}
use Rattle.eb_syntax.specs.declared.ast.Ast.{Ast}
use Rattle.eb_syntax.specs.declared.ast.Identifier.{Identifier}
use Rattle.eb_syntax.specs.declared.query.Goal.{Goal}
use Rattle.eb_syntax.specs.declared.query.Query.{Query}
use Rattle.eb_syntax.specs.declared.query.Query.TheVariants as queries
use Rattle.eb_syntax.specs.declared.units.Label.{Label}
use Rattle.eb_syntax.specs.declared.units.ContextClause.{ContextClause}
use Rattle.eb_syntax.specs.declared.units.Context.{Context}
use Rattle.eb_syntax.specs.declared.units.NamesClause.{NamesClause}
use Rattle.eb_syntax.specs.declared.units.PredicatesClause.{PredicatesClause}
use Rattle.eb_syntax.specs.declared.units.Convergence.{Convergence}
use Rattle.eb_syntax.specs.declared.units.Inheritance.{Inheritance}
use Rattle.eb_syntax.specs.declared.units.Action.{Action}
use Rattle.eb_syntax.specs.declared.units.Event.{Event}
use Rattle.eb_syntax.specs.declared.units.MachineClause.{MachineClause}
use Rattle.eb_syntax.specs.declared.units.MachineClause.TheVariants as clauses
use Rattle.eb_syntax.specs.declared.units.Refinement.{Refinement}
use Rattle.eb_syntax.specs.declared.units.Machine.{Machine}
use Rattle.eb_syntax.specs.declared.units.ScopeSetting.{ScopeSetting}
use Rattle.eb_syntax.specs.declared.units.ScopeBlock.{ScopeBlock}
use Rattle.eb_syntax.specs.declared.units.EbUnit.{EbUnit}
use Rattle.eb_parser.specs.declared.formulas.FormulaKind.TheVariants as formula
use Rattle.eb_parser.specs.steps.Finding.{formula_at}
use Rattle.eb_units.specs.Grammar.{Next, Keyword, Named, Labels, Each, ContextPart, IsContext, Converges, NamesPart, PredicatesPart, Inherits, Parameters, Guards, Witnesses, Does, IsEvent, Variant, MachinePart, Refines, IsMachine, Bounds, Sets, IsScope, NextEvent, Sequence, IsGoal, IsQuery, IsQueries, IsUnit, keyword, none, more, sets, constants, axioms, context, ordinary, convergent, anticipated, unsaid, names_part, predicates_part, refines, extends, inherits_nothing, any, no_parameters, where_part, when_part, no_guards, with_part, no_witnesses, then_part, begin_part, does_nothing, event, labelled_variant, bare_variant, variables, invariants, variant, events, refined, unrefined, machine, positive, negative, integers, size, depth, scope, next_event, empty, sequence, take_event, false_guard, ask_axioms, ask_enabled, ask_invariant, ask_deadlock, ask_sequence, ask_wd, ask_theorem, ask_goal, block, unit_context, unit_machine, unit_scope, unit_queries}
use Rattle.eb_units.specs.steps.Descending.{heads, after_first, at_sign, at_word, at_name, at_label, place_at, sign_at, word_at, name_at, label_at, number_at, with_front, goes_on, names_at, names_behind_at, all_labelled, all_actions, sets_at, constants_at, axioms_at, context_part_at, opens_context_part, all_context_parts, context_at, convergence_at, behind_convergence, names_part_at, predicates_part_at, refines_at, extends_at, inherits_at, parameters_at, part_behind_at, guards_at, does_at, event_head_at, event_body_at, event_at, opens_event, all_events, variables_at, invariants_at, labelled_variant_at, variant_at, events_at, machine_part_at, opens_machine_part, all_machine_parts, refinement_at, machine_at, bound_at, integers_at, size_at, depth_at, setting_at, all_settings, scope_at, event_name_at, next_event_at, more_events, some_events_at, sequence_at, take_at, false_at, goal_at, target_at, ask_enabled_at, ask_invariant_at, ask_sequence_at, ask_wd_at, ask_theorem_at, ask_goal_at, name_query_at, word_query_at, query_at, opens_query, all_queries, queries_at, scope_or_queries_at, unit_at, is_token, text_at}
use Rattle.eb_signs.specs.Signs.{same_sign}
use Rattle.eb_units.proofs.Heads.{bind_is, taken, left, named_sign, labels_label, numbered_sign, next_sign, next_name_not, next_word_not, keyword_sign, keyword_name, keyword_word, here, word_here, next_after, next_place, keyword_after, sign_read, word_read, name_read, label_read, number_read, next_less, keyword_less, named_less}
use Rattle.eb_units.proofs.Ends.{stops, stops_ends, stops_names, does_not, witnesses_not, guards_not, parameters_not, behind_not, next_stops, does_stops, witnesses_stops, guards_stops, parameters_stops, context_part_stops, event_stops, machine_part_stops, names_behind_less, context_part_less, inherits_less, parameters_less, guards_less, witnesses_less, event_less, machine_part_less, refines_less, sets_less, next_event_less, query_less, unit_less}
use Rattle.eb_units.proofs.Soundness.{Limit}
use Rattle.eb_units.proofs.Completeness.{Outcome, reads, passed, mapped, both, chosen, other, sure, many_read, front_read, front_label, names_read, behind_read, all_labelled_read, all_actions_read, anything}

-- ---- contexts

context_part_read : (b : Limit) (m : ℕ) (ts rest : List Token) (x : ContextClause) (h : ℕ) → ContextPart ts x h rest → heads stops rest ≡ true → length ts < m → Outcome b.n h (context_part_at b.n m ts) (x, rest)
unfolding context_part_at sets_at constants_at axioms_at same_sign
context_part_read b m ts rest x h (sets {us = us} {xs = xs} n r) e l =
    reads b.some (taken (at_sign s.Sets ts) _ _ _ (here n) (bind_is (names_at m (after_first ts)) _ (xs, rest) _ (ap (names_at m) (next_after n) ∙ names_read m r (stops_names rest e) (omega (arith, next_less n))) refl))
context_part_read b m ts rest x h (constants {us = us} {xs = xs} n r) e l =
    reads b.some (left (at_sign s.Sets ts) _ _ _ (next_sign s.Sets n) (taken (at_sign s.Constants ts) _ _ _ (here n)
    (bind_is (names_at m (after_first ts)) _ (xs, rest) _ (ap (names_at m) (next_after n) ∙ names_read m r (stops_names rest e) (omega (arith, next_less n))) refl)))
context_part_read b m ts rest x h (axioms {us = us} {at = at} {ps = ps} n r) e l =
    other (at_sign s.Sets ts) _ _ _ (next_sign s.Sets n) (other (at_sign s.Constants ts) _ _ _ (next_sign s.Constants n)
    (passed (sign_at s.Axioms ts) _ (at, us) _ (sign_read n) (mapped (all_labelled b.n m us) _ (ps, rest) _ (all_labelled_read b m r e (omega (arith, next_less n))) refl)))

starts_context_part : (ts rest : List Token) (x : ContextClause) (h : ℕ) → ContextPart ts x h rest → opens_context_part ts ≡ true
unfolding opens_context_part same_sign
starts_context_part ts rest x h (sets n r) = rw (here n) refl
starts_context_part ts rest x h (constants n r) = rw (next_sign s.Sets n, here n) refl
starts_context_part ts rest x h (axioms n r) = rw (next_sign s.Sets n, next_sign s.Constants n, here n) refl

shut_context : {ts rest : List Token} {at : ℕ} → Next s.End ts at rest → opens_context_part ts ≡ false
unfolding opens_context_part same_sign
shut_context n = rw (next_sign s.Sets n, next_sign s.Constants n, next_sign s.Axioms n) refl

end_stops : {ts rest : List Token} {at : ℕ} → Next s.End ts at rest → heads stops ts ≡ true
unfolding same_sign
end_stops n = next_stops n refl

context_parts_stop : {ts rest : List Token} {xs : List ContextClause} {h : ℕ} → Each ContextPart ts xs h rest → heads stops rest ≡ true → heads stops ts ≡ true
context_parts_stop none e = e
context_parts_stop (more r q) e = context_part_stops r

each_context_part_not : {ts rest : List Token} {xs : List ContextClause} {h : ℕ} → Each ContextPart ts xs h rest → at_sign s.Extends rest ≡ false → at_sign s.Extends ts ≡ false
unfolding same_sign
each_context_part_not none e = e
each_context_part_not (more (sets n r) q) e = next_sign s.Extends n
each_context_part_not (more (constants n r) q) e = next_sign s.Extends n
each_context_part_not (more (axioms n r) q) e = next_sign s.Extends n

context_read : (b : Limit) (m : ℕ) {ts rest : List Token} {x : Context} {h : ℕ} → IsContext ts x h rest → length ts < m → Outcome b.n h (context_at b.n m ts) (x, rest)
unfolding context_at same_sign
context_read b m {ts} {rest} {x} {h} (context {us = us} {vs = vs} {ws = ws} {xs = xs} {at = at} {to = to} {x = y} {es = es} {cs = cs} n w c q o) l =
    passed (sign_at s.Context ts) _ (at, us) _ (sign_read n)
    (passed (name_at us) _ (y, vs) _ (name_read w)
    (passed (names_behind_at s.Extends m vs) _ (es, ws) _ (behind_read m c (each_context_part_not q (next_sign s.Extends o)) (stops_names ws (context_parts_stop q (end_stops o))) (omega (arith, next_less n, named_less w)))
    (mapped (all_context_parts b.n m ws) _ (cs, xs) _
    (many_read b.n m opens_context_part (context_part_at b.n m) ContextPart (heads stops) b.some
    (record { starts = starts_context_part; follows = λ fs gs v g r. context_part_stops r; less = context_part_less b.laws; read = context_part_read b m })
    m ws xs cs h q (shut_context o) (end_stops o) (omega (arith, next_less n, named_less w, names_behind_less c)) (omega (arith, next_less n, named_less w, names_behind_less c)))
    (bind_is (sign_at s.End xs) _ (to, rest) _ (sign_read o) refl))))

-- ---- events

names_part_read : (m : ℕ) {sg : Sign} {ts rest : List Token} {c : NamesClause} → NamesPart sg ts c rest → goes_on rest ≡ false → length ts < m → names_part_at sg m ts ≡ Ok (c, rest)
unfolding names_part_at
names_part_read m {sg} {ts} {rest} (names_part {us = us} {at = at} {xs = xs} n r) e l =
    bind_is (sign_at sg ts) _ (at, us) _ (sign_read n) (bind_is (names_at m us) _ (xs, rest) _ (names_read m r e (omega (arith, next_less n))) refl)

predicates_part_read : (b : Limit) (m : ℕ) {sg : Sign} {ts rest : List Token} {c : PredicatesClause} {h : ℕ} → PredicatesPart sg ts c h rest → heads stops rest ≡ true → length ts < m → Outcome b.n h (predicates_part_at sg b.n m ts) (c, rest)
unfolding predicates_part_at
predicates_part_read b m {sg} {ts} {rest} (predicates_part {us = us} {at = at} {ps = ps} n r) e l =
    passed (sign_at sg ts) _ (at, us) _ (sign_read n) (mapped (all_labelled b.n m us) _ (ps, rest) _ (all_labelled_read b m r e (omega (arith, next_less n))) refl)

names_part_here : {sg : Sign} {ts rest : List Token} {c : NamesClause} (sign : Sign) → NamesPart sg ts c rest → at_sign sign ts ≡ same_sign sg sign
names_part_here sign (names_part n r) = next_sign sign n

names_part_is : {sg : Sign} {ts rest : List Token} {c : NamesClause} → NamesPart sg ts c rest → at_sign sg ts ≡ true
names_part_is (names_part n r) = here n

predicates_part_here : {sg : Sign} {ts rest : List Token} {c : PredicatesClause} {h : ℕ} (sign : Sign) → PredicatesPart sg ts c h rest → at_sign sign ts ≡ same_sign sg sign
predicates_part_here sign (predicates_part n r) = next_sign sign n

predicates_part_is : {sg : Sign} {ts rest : List Token} {c : PredicatesClause} {h : ℕ} → PredicatesPart sg ts c h rest → at_sign sg ts ≡ true
predicates_part_is (predicates_part n r) = here n

inherits_read : (m : ℕ) {ts rest : List Token} {c : Option Inheritance} → Inherits ts c rest → goes_on rest ≡ false → at_sign s.Refines rest ≡ false → at_sign s.Extends rest ≡ false → length ts < m → inherits_at m ts ≡ Ok (c, rest)
unfolding inherits_at refines_at extends_at same_sign
inherits_read m {ts} {rest} (refines {c = c} p) e f g l = taken (at_sign s.Refines ts) _ _ _ (names_part_is p) (bind_is (names_part_at s.Refines m ts) _ (c, rest) _ (names_part_read m p e l) refl)
inherits_read m {ts} {rest} (extends {c = c} p) e f g l =
    left (at_sign s.Refines ts) _ _ _ (names_part_here s.Refines p) (taken (at_sign s.Extends ts) _ _ _ (names_part_is p) (bind_is (names_part_at s.Extends m ts) _ (c, rest) _ (names_part_read m p e l) refl))
inherits_read m {ts} {rest} inherits_nothing e f g l = left (at_sign s.Refines ts) _ _ _ f (left (at_sign s.Extends ts) _ _ _ g refl)

parameters_read : (m : ℕ) {ts rest : List Token} {c : Option NamesClause} → Parameters ts c rest → goes_on rest ≡ false → at_sign s.Any rest ≡ false → length ts < m → parameters_at m ts ≡ Ok (c, rest)
unfolding parameters_at
parameters_read m {ts} {rest} (any {c = c} p) e f l = taken (at_sign s.Any ts) _ _ _ (names_part_is p) (bind_is (names_part_at s.Any m ts) _ (c, rest) _ (names_part_read m p e l) refl)
parameters_read m {ts} {rest} no_parameters e f l = left (at_sign s.Any ts) _ _ _ f refl

part_read : (b : Limit) (m : ℕ) {sg : Sign} {ts rest : List Token} {c : PredicatesClause} {h : ℕ} → PredicatesPart sg ts c h rest → heads stops rest ≡ true → length ts < m → Outcome b.n h (part_behind_at sg b.n m ts) (Some c, rest)
unfolding part_behind_at
part_read b m {sg} {ts} {rest} {c} p e l = chosen (at_sign sg ts) _ _ _ (predicates_part_is p) (mapped (predicates_part_at sg b.n m ts) _ (c, rest) _ (predicates_part_read b m p e l) refl)

guards_read : (b : Limit) (m : ℕ) {ts rest : List Token} {c : Option PredicatesClause} {h : ℕ} → Guards ts c h rest → heads stops rest ≡ true → at_sign s.Where rest ≡ false → at_sign s.When rest ≡ false → length ts < m → Outcome b.n h (guards_at b.n m ts) (c, rest)
unfolding guards_at part_behind_at same_sign
guards_read b m {ts} {rest} (where_part p) e f g l = chosen (at_sign s.Where ts) _ _ _ (predicates_part_is p) (part_read b m p e l)
guards_read b m {ts} {rest} (when_part p) e f g l = other (at_sign s.Where ts) _ _ _ (predicates_part_here s.Where p) (part_read b m p e l)
guards_read b m {ts} {rest} no_guards e f g l = reads b.some (left (at_sign s.Where ts) _ _ _ f (left (at_sign s.When ts) _ _ _ g refl))

witnesses_read : (b : Limit) (m : ℕ) {ts rest : List Token} {c : Option PredicatesClause} {h : ℕ} → Witnesses ts c h rest → heads stops rest ≡ true → at_sign s.With rest ≡ false → length ts < m → Outcome b.n h (part_behind_at s.With b.n m ts) (c, rest)
unfolding part_behind_at
witnesses_read b m (with_part p) e f l = part_read b m p e l
witnesses_read b m {ts} no_witnesses e f l = reads b.some (left (at_sign s.With ts) _ _ _ f refl)

does_read : (b : Limit) (m : ℕ) {ts rest : List Token} {xs : List Action} {h : ℕ} → Does ts xs h rest → heads stops rest ≡ true → at_sign s.Then rest ≡ false → at_sign s.Begin rest ≡ false → length ts < m → Outcome b.n h (does_at b.n m ts) (xs, rest)
unfolding does_at same_sign
does_read b m {ts} {rest} {xs} {h} (then_part n q) e f g l =
    chosen (at_sign s.Then ts || at_sign s.Begin ts) _ _ _ (ap (λ z. z || at_sign s.Begin ts) (here n))
    (subst (λ z. Outcome b.n h (all_actions b.n m z) (xs, rest)) (sym (next_after n)) (all_actions_read b m q e (omega (arith, next_less n))))
does_read b m {ts} {rest} {xs} {h} (begin_part n q) e f g l =
    chosen (at_sign s.Then ts || at_sign s.Begin ts) _ _ _ (ap (λ z. z || at_sign s.Begin ts) (next_sign s.Then n) ∙ here n)
    (subst (λ z. Outcome b.n h (all_actions b.n m z) (xs, rest)) (sym (next_after n)) (all_actions_read b m q e (omega (arith, next_less n))))
does_read b m {ts} {rest} does_nothing e f g l = reads b.some (left (at_sign s.Then ts || at_sign s.Begin ts) _ _ _ (ap (λ z. z || at_sign s.Begin ts) f ∙ g) refl)

body_read : (b : Limit) (m : ℕ) {ys zs os cs rest : List Token} {to : ℕ} {g w : Option PredicatesClause} {xs : List Action} {h k j : ℕ} → Guards ys g h zs → Witnesses zs w k os → Does os xs j cs → Next s.End cs to rest → length ys < m
    → Outcome b.n (max h (max k j)) (event_body_at b.n m ys) ((g, w, xs), rest)
unfolding event_body_at same_sign
body_read b m {ys} {zs} {os} {cs} {rest} {to} {g} {w} {xs} i j d n l =
    let stop = end_stops n in
    let a = does_stops d stop in
    let c = witnesses_stops j a in
    let end_not : (sign : Sign) → same_sign s.End sign ≡ false → at_sign sign cs ≡ false = λ sign e. next_sign sign n ∙ e in
    let x = guards_less b.laws i in
    let y = witnesses_less b.laws j in
    both (guards_at b.n m ys) _ (g, zs) _
    (guards_read b m i c (witnesses_not s.Where refl j (does_not s.Where refl refl d (end_not s.Where refl))) (witnesses_not s.When refl j (does_not s.When refl refl d (end_not s.When refl))) l)
    (both (part_behind_at s.With b.n m zs) _ (w, os) _ (witnesses_read b m j a (does_not s.With refl refl d (end_not s.With refl)) (omega arith))
    (mapped (does_at b.n m os) _ (xs, cs) _ (does_read b m d stop (end_not s.Then refl) (end_not s.Begin refl) (omega arith))
    (bind_is (sign_at s.End cs) _ (to, rest) _ (sign_read n) refl)))

-- what stands at the front behind the parameters
record Later (ts : List Token) : Type 0 where
  stop : heads stops ts ≡ true
  no_any : at_sign s.Any ts ≡ false
  no_refines : at_sign s.Refines ts ≡ false
  no_extends : at_sign s.Extends ts ≡ false

later : {ys zs os cs rest : List Token} {to : ℕ} {g w : Option PredicatesClause} {xs : List Action} {h k j : ℕ} → Guards ys g h zs → Witnesses zs w k os → Does os xs j cs → Next s.End cs to rest → Later ys
unfolding same_sign
later i j d n = record {
  stop = guards_stops i (witnesses_stops j (does_stops d (end_stops n)));
  no_any = guards_not s.Any refl refl i (witnesses_not s.Any refl j (does_not s.Any refl refl d (next_sign s.Any n)));
  no_refines = guards_not s.Refines refl refl i (witnesses_not s.Refines refl j (does_not s.Refines refl refl d (next_sign s.Refines n)));
  no_extends = guards_not s.Extends refl refl i (witnesses_not s.Extends refl j (does_not s.Extends refl refl d (next_sign s.Extends n)));
}

head_read : (m : ℕ) {us vs ws xs ys : List Token} {at : ℕ} {x : Identifier} {i : Option Inheritance} {p : Option NamesClause} → Next s.Event us at vs → Named vs x ws → Inherits ws i xs → Parameters xs p ys → Later ys → length us < m
    → event_head_at m us ≡ Ok ((x, i, p), ys)
unfolding event_head_at same_sign
head_read m {us} {vs} {ws} {xs} {ys} {at} {x} {i} {p} n w c q t l =
    bind_is (sign_at s.Event us) _ (at, vs) _ (sign_read n)
    (bind_is (name_at vs) _ (x, ws) _ (name_read w)
    (bind_is (inherits_at m ws) _ (i, xs) _
    (inherits_read m c (stops_names xs (parameters_stops q t.stop)) (parameters_not s.Refines refl q t.no_refines) (parameters_not s.Extends refl q t.no_extends) (omega (arith, next_less n, named_less w)))
    (bind_is (parameters_at m xs) _ (p, ys) _ (parameters_read m q (stops_names ys t.stop) t.no_any (omega (arith, next_less n, named_less w, inherits_less c))) refl)))

converges_read : {ts us vs : List Token} {at : ℕ} {c : Option Convergence} → Converges ts c us → Next s.Event us at vs → (convergence_at ts ≡ c) × (behind_convergence c ts ≡ us)
unfolding same_sign
converges_read {ts = ts} (ordinary n) e = (rw (here n) refl, next_after n)
converges_read {ts = ts} (convergent n) e = (rw (next_sign s.Ordinary n, here n) refl, next_after n)
converges_read {ts = ts} (anticipated n) e = (rw (next_sign s.Ordinary n, next_sign s.Convergent n, here n) refl, next_after n)
converges_read {ts = ts} unsaid e = (rw (next_sign s.Ordinary e, next_sign s.Convergent e, next_sign s.Anticipated e) refl, refl)

converges_less : {ts rest : List Token} {c : Option Convergence} → Converges ts c rest → length rest ≤ length ts
converges_less (ordinary n) = omega (arith, next_less n)
converges_less (convergent n) = omega (arith, next_less n)
converges_less (anticipated n) = omega (arith, next_less n)
converges_less unsaid = omega arith

event_so : (b : Limit) (m : ℕ) (ts us ys rest : List Token) (c : Option Convergence) (x : Identifier) (i : Option Inheritance) (p : Option NamesClause) (g w : Option PredicatesClause) (xs : List Action) (h : ℕ)
    → (convergence_at ts ≡ c) × (behind_convergence c ts ≡ us) → event_head_at m us ≡ Ok ((x, i, p), ys) → Outcome b.n h (event_body_at b.n m ys) ((g, w, xs), rest)
    → Outcome b.n h (event_at b.n m ts) (record { convergence = c; name = x; inheritance = i; parameters = p; guards = g; witnesses = w; actions = xs }, rest)
unfolding event_at
event_so b m ts us ys rest c x i p g w xs h so d o =
    passed (event_head_at m (behind_convergence (convergence_at ts) ts)) _ ((x, i, p), ys) _ (ap (λ z. event_head_at m (behind_convergence z ts)) so.0 ∙ (ap (event_head_at m) so.1 ∙ d))
    (mapped (event_body_at b.n m ys) _ ((g, w, xs), rest) _ o (ap (λ z. Ok (record { convergence = z; name = x; inheritance = i; parameters = p; guards = g; witnesses = w; actions = xs }, rest)) so.0))

event_read : (b : Limit) (m : ℕ) (ts rest : List Token) (x : Event) (h : ℕ) → IsEvent ts x h rest → heads stops rest ≡ true → length ts < m → Outcome b.n h (event_at b.n m ts) (x, rest)
event_read b m ts rest x h (event {us = us} {ys = ys} {c = c} {x = y} {i = i} {p = p} {g = g} {w = w} {bs = xs} a n d f q j k o t) e l =
    event_so b m ts us ys rest c y i p g w xs h (converges_read a n) (head_read m n d f q (later j k o t) (omega (arith, converges_less a)))
    (body_read b m j k o t (omega (arith, converges_less a, next_less n, named_less d, inherits_less f, parameters_less q)))

starts_event : (ts rest : List Token) (x : Event) (h : ℕ) → IsEvent ts x h rest → opens_event ts ≡ true
unfolding opens_event same_sign
starts_event ts rest x h (event (ordinary n) a b c d e f g q) = rw (next_sign s.Event n, here n) refl
starts_event ts rest x h (event (convergent n) a b c d e f g q) = rw (next_sign s.Event n, next_sign s.Ordinary n, here n) refl
starts_event ts rest x h (event (anticipated n) a b c d e f g q) = rw (next_sign s.Event n, next_sign s.Ordinary n, next_sign s.Convergent n, here n) refl
starts_event ts rest x h (event unsaid n b c d e f g q) = rw (here n) refl

-- ---- machines

variant_read : (b : Limit) {ts rest : List Token} {x : Option Label} {a : Ast} {h : ℕ} → Variant ts x a h rest → heads stops rest ≡ true → Outcome b.n h (variant_at b.n ts) (clauses.Variant x a, rest)
unfolding variant_at labelled_variant_at
variant_read b {ts} {rest} {x} {a} {h} (labelled_variant {us = us} {l = l} p f) e =
    chosen (at_label ts) _ _ _ (labels_label p) (passed (label_at ts) _ (l, us) _ (label_read p) (mapped (formula_at b.n formula.Expr us) _ (a, rest) _ (front_read b formula.Expr f (stops_ends rest e)) refl))
variant_read b {ts} {rest} {x} {a} {h} (bare_variant f) e =
    other (at_label ts) _ _ _ (front_label b.laws formula.Expr ts rest a h f) (mapped (formula_at b.n formula.Expr ts) _ (a, rest) _ (front_read b formula.Expr f (stops_ends rest e)) refl)

-- where events end
ends_events : List Token → Bool
ends_events ts = cond (opens_event ts) false (heads stops ts)

machine_part_read : (b : Limit) (m : ℕ) (ts rest : List Token) (x : MachineClause) (h : ℕ) → MachinePart ts x h rest → (heads stops rest ≡ true) × (opens_event rest ≡ false) → length ts < m → Outcome b.n h (machine_part_at b.n m ts) (x, rest)
unfolding machine_part_at variables_at invariants_at events_at same_sign
machine_part_read b m ts rest x h (variables {us = us} {xs = xs} n r) e l =
    reads b.some (taken (at_sign s.Variables ts) _ _ _ (here n) (bind_is (names_at m (after_first ts)) _ (xs, rest) _ (ap (names_at m) (next_after n) ∙ names_read m r (stops_names rest e.0) (omega (arith, next_less n))) refl))
machine_part_read b m ts rest x h (invariants {us = us} {ps = ps} n r) e l =
    other (at_sign s.Variables ts) _ _ _ (next_sign s.Variables n) (chosen (at_sign s.Invariants ts) _ _ _ (here n)
    (mapped (all_labelled b.n m (after_first ts)) _ (ps, rest) _ (subst (λ z. Outcome b.n h (all_labelled b.n m z) (ps, rest)) (sym (next_after n)) (all_labelled_read b m r e.0 (omega (arith, next_less n)))) refl))
machine_part_read b m ts rest x h (variant {us = us} {l = k} {a = a} n r) e l =
    other (at_sign s.Variables ts) _ _ _ (next_sign s.Variables n) (other (at_sign s.Invariants ts) _ _ _ (next_sign s.Invariants n) (chosen (at_sign s.Variant ts) _ _ _ (here n)
    (subst (λ z. Outcome b.n h (variant_at b.n z) (clauses.Variant k a, rest)) (sym (next_after n)) (variant_read b r e.0))))
machine_part_read b m ts rest x h (events {us = us} {at = at} {es = es} n r) e l =
    other (at_sign s.Variables ts) _ _ _ (next_sign s.Variables n) (other (at_sign s.Invariants ts) _ _ _ (next_sign s.Invariants n) (other (at_sign s.Variant ts) _ _ _ (next_sign s.Variant n)
    (passed (sign_at s.Events ts) _ (at, us) _ (sign_read n)
    (mapped (all_events b.n m us) _ (es, rest) _
    (many_read b.n m opens_event (event_at b.n m) IsEvent (heads stops) b.some
    (record { starts = starts_event; follows = λ fs gs v g r. event_stops r; less = event_less b.laws; read = event_read b m })
    m us rest es h r e.1 e.0 (omega (arith, next_less n)) (omega (arith, next_less n))) refl))))

starts_machine_part : (ts rest : List Token) (x : MachineClause) (h : ℕ) → MachinePart ts x h rest → opens_machine_part ts ≡ true
unfolding opens_machine_part same_sign
starts_machine_part ts rest x h (variables n r) = rw (here n) refl
starts_machine_part ts rest x h (invariants n r) = rw (next_sign s.Variables n, here n) refl
starts_machine_part ts rest x h (variant n r) = rw (next_sign s.Variables n, next_sign s.Invariants n, here n) refl
starts_machine_part ts rest x h (events n r) = rw (next_sign s.Variables n, next_sign s.Invariants n, next_sign s.Variant n, here n) refl

shut_machine : {ts rest : List Token} {at : ℕ} → Next s.End ts at rest → opens_machine_part ts ≡ false
unfolding opens_machine_part same_sign
shut_machine n = rw (next_sign s.Variables n, next_sign s.Invariants n, next_sign s.Variant n, next_sign s.Events n) refl

no_event : {sg : Sign} {ts rest : List Token} {at : ℕ} → Next sg ts at rest → same_sign sg s.Event ≡ false → same_sign sg s.Ordinary ≡ false → same_sign sg s.Convergent ≡ false → same_sign sg s.Anticipated ≡ false → opens_event ts ≡ false
unfolding opens_event
no_event n a b c d = rw (next_sign s.Event n, next_sign s.Ordinary n, next_sign s.Convergent n, next_sign s.Anticipated n, a, b, c, d) refl

machine_part_no_event : {ts rest : List Token} {x : MachineClause} {h : ℕ} → MachinePart ts x h rest → opens_event ts ≡ false
unfolding same_sign
machine_part_no_event (variables n r) = no_event n refl refl refl refl
machine_part_no_event (invariants n r) = no_event n refl refl refl refl
machine_part_no_event (variant n r) = no_event n refl refl refl refl
machine_part_no_event (events n r) = no_event n refl refl refl refl

end_no_event : {ts rest : List Token} {at : ℕ} → Next s.End ts at rest → opens_event ts ≡ false
unfolding same_sign
end_no_event n = no_event n refl refl refl refl

cut : (ts : List Token) → ends_events ts ≡ true → (heads stops ts ≡ true) × (opens_event ts ≡ false)
unfolding ends_events
cut ts e = by_cases (opens_event ts) (heads stops ts) e
  where
    by_cases : (c d : Bool) → cond c false d ≡ true → (d ≡ true) × (c ≡ false)
    by_cases true d e = absurd cc
    by_cases false d e = (e, refl)

cut_is : (ts : List Token) → heads stops ts ≡ true → opens_event ts ≡ false → ends_events ts ≡ true
unfolding ends_events
cut_is ts e f = left (opens_event ts) _ _ _ f e

machine_parts_stop : {ts rest : List Token} {xs : List MachineClause} {h : ℕ} → Each MachinePart ts xs h rest → heads stops rest ≡ true → heads stops ts ≡ true
machine_parts_stop none e = e
machine_parts_stop (more r q) e = machine_part_stops r

machine_parts_not : {ts rest : List Token} {xs : List MachineClause} {h : ℕ} (sign : Sign) → same_sign s.Variables sign ≡ false → same_sign s.Invariants sign ≡ false → same_sign s.Variant sign ≡ false → same_sign s.Events sign ≡ false
    → Each MachinePart ts xs h rest → at_sign sign rest ≡ false → at_sign sign ts ≡ false
machine_parts_not sign a b c d none e = e
machine_parts_not sign a b c d (more (variables n r) q) e = next_sign sign n ∙ a
machine_parts_not sign a b c d (more (invariants n r) q) e = next_sign sign n ∙ b
machine_parts_not sign a b c d (more (variant n r) q) e = next_sign sign n ∙ c
machine_parts_not sign a b c d (more (events n r) q) e = next_sign sign n ∙ d

refinement_read : {ts rest : List Token} {c : Option Refinement} → Refines ts c rest → at_sign s.Refines rest ≡ false → refinement_at ts ≡ Ok (c, rest)
unfolding refinement_at
refinement_read {ts} {rest} (refined {at = at} {x = x} n w) e =
    taken (at_sign s.Refines ts) _ _ _ (here n) (bind_is (name_at (after_first ts)) _ (x, rest) _ (ap name_at (next_after n) ∙ name_read w) (ap (λ z. Ok (Some (record { place = z; machine = x }), rest)) (next_place n)))
refinement_read {ts} {rest} unrefined e = left (at_sign s.Refines ts) _ _ _ e refl

machine_read : (b : Limit) (m : ℕ) {ts rest : List Token} {x : Machine} {h : ℕ} → IsMachine ts x h rest → length ts < m → Outcome b.n h (machine_at b.n m ts) (x, rest)
unfolding machine_at same_sign
machine_read b m {ts} {rest} {x} {h} (machine {us = us} {vs = vs} {ws = ws} {xs = xs} {ys = ys} {at = at} {to = to} {x = y} {r = r} {es = es} {cs = cs} n w f c q o) l =
    let early = machine_parts_not s.Refines refl refl refl refl q (next_sign s.Refines o) in
    passed (sign_at s.Machine ts) _ (at, us) _ (sign_read n)
    (passed (name_at us) _ (y, vs) _ (name_read w)
    (passed (refinement_at vs) _ (r, ws) _ (refinement_read f (behind_not s.Refines refl c early))
    (passed (names_behind_at s.Sees m ws) _ (es, xs) _
    (behind_read m c (machine_parts_not s.Sees refl refl refl refl q (next_sign s.Sees o)) (stops_names xs (machine_parts_stop q (end_stops o))) (omega (arith, next_less n, named_less w, refines_less f)))
    (mapped (all_machine_parts b.n m xs) _ (cs, ys) _
    (many_read b.n m opens_machine_part (machine_part_at b.n m) MachinePart ends_events b.some
    (record { starts = starts_machine_part; follows = λ fs gs v g r. cut_is fs (machine_part_stops r) (machine_part_no_event r); less = machine_part_less b.laws; read = λ fs gs v g r e. machine_part_read b m fs gs v g r (cut gs e) })
    m xs ys cs h q (shut_machine o) (cut_is ys (end_stops o) (end_no_event o)) (omega (arith, next_less n, named_less w, refines_less f, names_behind_less c)) (omega (arith, next_less n, named_less w, refines_less f, names_behind_less c)))
    (bind_is (sign_at s.End ys) _ (to, rest) _ (sign_read o) refl)))))

-- ---- scopes

bound_read : {ts rest : List Token} {n : ℤ} → Bounds ts n rest → bound_at ts ≡ Ok (n, rest)
unfolding bound_at
bound_read {ts} (positive n) = left (at_sign s.Minus ts) _ _ _ (numbered_sign s.Minus n) (number_read n)
bound_read {ts} {rest} (negative {n = k} m n) = taken (at_sign s.Minus ts) _ _ _ (here m) (bind_is (number_at (after_first ts)) _ (k, rest) _ (ap number_at (next_after m) ∙ number_read n) refl)

setting_read : (ts rest : List Token) (x : ScopeSetting) (h : ℕ) → Sets ts x h rest → setting_at ts ≡ Ok (x, rest)
unfolding setting_at integers_at size_at depth_at
setting_read ts rest x h (integers {us = us} {vs = vs} {ws = ws} {at = at} {to = to} {m = m} {n = n} k a p c) =
    taken (at_word (codes "int") ts) _ _ _ (word_here k) (bind_is (word_at (codes "int") ts) _ (at, us) _ (word_read k) (bind_is (bound_at us) _ (m, vs) _ (bound_read a)
    (bind_is (sign_at s.UpTo vs) _ (to, ws) _ (sign_read p) (bind_is (bound_at ws) _ (n, rest) _ (bound_read c) refl))))
setting_read ts rest x h (size {us = us} {vs = vs} {at = at} {x = y} {n = n} k a p) =
    left (at_word (codes "int") ts) _ _ _ (keyword_word (codes "int") k) (taken (at_word (codes "size") ts) _ _ _ (word_here k)
    (bind_is (word_at (codes "size") ts) _ (at, us) _ (word_read k) (bind_is (name_at us) _ (y, vs) _ (name_read a) (bind_is (number_at vs) _ (n, rest) _ (number_read p) refl))))
setting_read ts rest x h (depth {us = us} {at = at} {n = n} k a) =
    left (at_word (codes "int") ts) _ _ _ (keyword_word (codes "int") k) (left (at_word (codes "size") ts) _ _ _ (keyword_word (codes "size") k)
    (bind_is (word_at (codes "depth") ts) _ (at, us) _ (word_read k) (bind_is (number_at us) _ (n, rest) _ (number_read a) refl)))

starts_setting : (ts rest : List Token) (x : ScopeSetting) (h : ℕ) → Sets ts x h rest → at_name ts ≡ true
starts_setting ts rest x h (integers k a p c) = keyword_name k
starts_setting ts rest x h (size k a p) = keyword_name k
starts_setting ts rest x h (depth k a) = keyword_name k

low_setting : (n : ℕ) (ts rest : List Token) (x : ScopeSetting) (h : ℕ) → Sets ts x h rest → 0 < n → h < n
low_setting n ts rest x h (integers k a p c) l = l
low_setting n ts rest x h (size k a p) l = l
low_setting n ts rest x h (depth k a) l = l

scope_read : (m : ℕ) {ts rest : List Token} {x : ScopeBlock} → IsScope ts x rest → length ts < m → scope_at m ts ≡ Ok (x, rest)
unfolding scope_at
scope_read m {ts} {rest} (scope {us = us} {vs = vs} {at = at} {to = to} {h = h} {ss = ss} k q o) l =
    bind_is (word_at (codes "scope") ts) _ (at, us) _ (word_read k)
    (bind_is (all_settings m us) _ (ss, vs) _
    (sure (all_settings m us) (ss, vs) (many_read (suc h) m at_name setting_at Sets anything (omega arith)
    (record { starts = starts_setting; follows = λ fs gs v g r. refl; less = sets_less; read = λ fs gs v g r e j. reads (low_setting (suc h) fs gs v g r (omega arith)) (setting_read fs gs v g r) })
    m us vs ss h q (next_name_not o) refl (omega (arith, keyword_less k)) (omega (arith, keyword_less k))))
    (bind_is (sign_at s.End vs) _ (to, rest) _ (sign_read o) refl))

-- ---- queries

event_name_read : {ts rest : List Token} {x : Identifier} → Named ts x rest → event_name_at ts ≡ Ok (x.name, rest)
unfolding event_name_at
event_name_read {ts} {rest} {x} n = bind_is (name_at ts) _ (x, rest) _ (name_read n) refl

next_event_read : (ts rest : List Token) (x : List ℕ) (h : ℕ) → NextEvent ts x h rest → next_event_at ts ≡ Ok (x, rest)
unfolding next_event_at
next_event_read ts rest x h (next_event {us = us} {at = at} n w) = bind_is (sign_at s.Comma ts) _ (at, us) _ (sign_read n) (event_name_read w)

starts_next_event : (ts rest : List Token) (x : List ℕ) (h : ℕ) → NextEvent ts x h rest → at_sign s.Comma ts ≡ true
starts_next_event ts rest x h (next_event n w) = here n

low_event : (n : ℕ) (ts rest : List Token) (x : List ℕ) (h : ℕ) → NextEvent ts x h rest → 0 < n → h < n
low_event n ts rest x h (next_event k w) l = l

sequence_read : (m : ℕ) {ts rest : List Token} {xs : List (List ℕ)} → Sequence ts xs rest → length ts < m → sequence_at m ts ≡ Ok (xs, rest)
unfolding sequence_at some_events_at same_sign
sequence_read m {ts} {rest} (empty {us = us} {at = at} n o) l =
    bind_is (sign_at s.LeftBracket ts) _ (at, us) _ (sign_read n) (taken (at_sign s.RightBracket us) _ _ _ (here o) (ap (λ z. Ok ([], z)) (next_after o)))
sequence_read m {ts} {rest} (sequence {us = us} {vs = vs} {ws = ws} {at = at} {to = to} {h = h} {x = x} {xs = xs} n w q o) l =
    bind_is (sign_at s.LeftBracket ts) _ (at, us) _ (sign_read n) (left (at_sign s.RightBracket us) _ _ _ (named_sign s.RightBracket w)
    (bind_is (event_name_at us) _ (x.name, vs) _ (event_name_read w)
    (bind_is (with_front (x.name ∷ []) (more_events m vs)) _ (x.name ∷ xs, ws) _
    (bind_is (more_events m vs) _ (xs, ws) _
    (sure (more_events m vs) (xs, ws) (many_read (suc h) m (at_sign s.Comma) next_event_at NextEvent anything (omega arith)
    (record { starts = starts_next_event; follows = λ fs gs v g r. refl; less = next_event_less; read = λ fs gs v g r e j. reads (low_event (suc h) fs gs v g r (omega arith)) (next_event_read fs gs v g r) })
    m vs ws xs h q (next_sign s.Comma o) refl (omega (arith, next_less n, named_less w)) (omega (arith, next_less n, named_less w)))) refl)
    (bind_is (sign_at s.RightBracket ws) _ (to, rest) _ (sign_read o) refl))))

goal_read : {ts rest : List Token} {g : Goal} → IsGoal ts g rest → goal_at ts ≡ Ok (g, rest)
unfolding goal_at take_at false_at
goal_read {ts} {rest} (take_event {x = x} k w) =
    taken (at_word (codes "take") ts) _ _ _ (word_here k) (bind_is (event_name_at (after_first ts)) _ (x.name, rest) _ (ap event_name_at (keyword_after k) ∙ event_name_read w) refl)
goal_read {ts} {rest} (false_guard {us = us} {vs = vs} {at = at} {x = x} {n = n} k w i) =
    left (at_word (codes "take") ts) _ _ _ (next_word_not (codes "take") k) (bind_is (sign_at s.Falsity ts) _ (at, us) _ (sign_read k) (bind_is (event_name_at us) _ (x.name, vs) _ (event_name_read w) (bind_is (number_at vs) _ (n, rest) _ (number_read i) refl)))

target_read : {ts us rest : List Token} {x : Identifier} {l : Label} → Named ts x us → Labels us l rest → target_at ts ≡ Ok ((x.name, l.name), rest)
unfolding target_at
target_read {ts} {us} {rest} {x} {l} w p = bind_is (event_name_at ts) _ (x.name, us) _ (event_name_read w) (bind_is (label_at us) _ (l, rest) _ (label_read p) refl)

-- neither of the two signs that begin a query
by_word : (m : ℕ) {text : List ℕ} {ts us rest : List Token} {at : ℕ} (q : Query) → Keyword text ts at us → word_query_at m ts ≡ Ok (q, rest) → query_at m ts ≡ Ok (q, rest)
unfolding query_at
by_word m {ts = ts} q k e = left (at_sign s.Axioms ts) _ _ _ (keyword_sign s.Axioms k) (left (at_sign s.Theorem ts) _ _ _ (keyword_sign s.Theorem k) e)

by_name : (m : ℕ) {text : List ℕ} {ts us rest : List Token} {at : ℕ} (q : Query) → Keyword text ts at us → bytes_eq text (codes "deadlock") ≡ false → bytes_eq text (codes "sequence") ≡ false → name_query_at m ts ≡ Ok (q, rest) → query_at m ts ≡ Ok (q, rest)
unfolding word_query_at
by_name m {ts = ts} q k e f g = by_word m q k (left (at_word (codes "deadlock") ts) _ _ _ (keyword_word (codes "deadlock") k ∙ e) (left (at_word (codes "sequence") ts) _ _ _ (keyword_word (codes "sequence") k ∙ f) g))

query_read : (m : ℕ) (ts rest : List Token) (x : Query) (h : ℕ) → IsQuery ts x h rest → length ts < m → query_at m ts ≡ Ok (x, rest)
unfolding query_at word_query_at name_query_at ask_enabled_at ask_invariant_at ask_wd_at ask_theorem_at ask_sequence_at ask_goal_at same_sign
query_read m ts rest x h (ask_axioms n) l = taken (at_sign s.Axioms ts) _ _ _ (here n) (ap (λ z. Ok (queries.Axioms, z)) (next_after n))
query_read m ts rest x h (ask_theorem {x = y} {l = k} n w p) l =
    left (at_sign s.Axioms ts) _ _ _ (next_sign s.Axioms n) (taken (at_sign s.Theorem ts) _ _ _ (here n) (bind_is (target_at (after_first ts)) _ ((y.name, k.name), rest) _ (ap target_at (next_after n) ∙ target_read w p) refl))
query_read m ts rest x h (ask_deadlock k) l = by_word m x k (taken (at_word (codes "deadlock") ts) _ _ _ (word_here k) (ap (λ z. Ok (queries.Deadlock, z)) (keyword_after k)))
query_read m ts rest x h (ask_sequence {xs = xs} k q) l =
    by_word m x k (left (at_word (codes "deadlock") ts) _ _ _ (keyword_word (codes "deadlock") k) (taken (at_word (codes "sequence") ts) _ _ _ (word_here k)
    (bind_is (sequence_at m (after_first ts)) _ (xs, rest) _ (ap (sequence_at m) (keyword_after k) ∙ sequence_read m q (omega (arith, keyword_less k))) refl)))
query_read m ts rest x h (ask_enabled {x = y} k w) l =
    by_name m x k refl refl (taken (at_word (codes "enabled") ts) _ _ _ (word_here k) (bind_is (event_name_at (after_first ts)) _ (y.name, rest) _ (ap event_name_at (keyword_after k) ∙ event_name_read w) refl))
query_read m ts rest x h (ask_invariant {x = y} {l = j} k w p) l =
    by_name m x k refl refl (left (at_word (codes "enabled") ts) _ _ _ (keyword_word (codes "enabled") k) (taken (at_word (codes "invariant") ts) _ _ _ (word_here k)
    (bind_is (target_at (after_first ts)) _ ((y.name, j.name), rest) _ (ap target_at (keyword_after k) ∙ target_read w p) refl)))
query_read m ts rest x h (ask_wd {x = y} {l = j} k w p) l =
    by_name m x k refl refl (left (at_word (codes "enabled") ts) _ _ _ (keyword_word (codes "enabled") k) (left (at_word (codes "invariant") ts) _ _ _ (keyword_word (codes "invariant") k) (taken (at_word (codes "wd") ts) _ _ _ (word_here k)
    (bind_is (target_at (after_first ts)) _ ((y.name, j.name), rest) _ (ap target_at (keyword_after k) ∙ target_read w p) refl))))
query_read m ts rest x h (ask_goal {us = us} {vs = vs} {at = at} {xs = xs} {g = g} k q i) l =
    by_name m x k refl refl (left (at_word (codes "enabled") ts) _ _ _ (keyword_word (codes "enabled") k) (left (at_word (codes "invariant") ts) _ _ _ (keyword_word (codes "invariant") k) (left (at_word (codes "wd") ts) _ _ _ (keyword_word (codes "wd") k)
    (bind_is (word_at (codes "goal") ts) _ (at, us) _ (word_read k) (bind_is (sequence_at m us) _ (xs, vs) _ (sequence_read m q (omega (arith, keyword_less k))) (bind_is (goal_at vs) _ (g, rest) _ (goal_read i) refl))))))

low_query : (n : ℕ) (ts rest : List Token) (x : Query) (h : ℕ) → IsQuery ts x h rest → 0 < n → h < n
low_query n ts rest x h (ask_axioms a) l = l
low_query n ts rest x h (ask_enabled a c) l = l
low_query n ts rest x h (ask_invariant a c d) l = l
low_query n ts rest x h (ask_deadlock a) l = l
low_query n ts rest x h (ask_sequence a c) l = l
low_query n ts rest x h (ask_wd a c d) l = l
low_query n ts rest x h (ask_theorem a c d) l = l
low_query n ts rest x h (ask_goal a c d) l = l

word_opens : {text : List ℕ} {ts rest : List Token} {at : ℕ} → Keyword text ts at rest → opens_query ts ≡ true
unfolding opens_query
word_opens k = rw (keyword_name k) refl

starts_query : (ts rest : List Token) (x : Query) (h : ℕ) → IsQuery ts x h rest → opens_query ts ≡ true
unfolding opens_query same_sign
starts_query ts rest x h (ask_axioms a) = rw (next_name_not a, here a) refl
starts_query ts rest x h (ask_enabled a c) = word_opens a
starts_query ts rest x h (ask_invariant a c d) = word_opens a
starts_query ts rest x h (ask_deadlock a) = word_opens a
starts_query ts rest x h (ask_sequence a c) = word_opens a
starts_query ts rest x h (ask_wd a c d) = word_opens a
starts_query ts rest x h (ask_theorem a c d) = rw (next_name_not a, next_sign s.Axioms a, here a) refl
starts_query ts rest x h (ask_goal a c d) = word_opens a

shut_queries : {ts rest : List Token} {at : ℕ} → Next s.End ts at rest → opens_query ts ≡ false
unfolding opens_query same_sign
shut_queries n = rw (next_name_not n, next_sign s.Axioms n, next_sign s.Theorem n) refl

queries_read : (m : ℕ) {ts rest : List Token} {x : List Query} → IsQueries ts x rest → length ts < m → queries_at m ts ≡ Ok (x, rest)
unfolding queries_at
queries_read m {ts} {rest} (block {us = us} {vs = vs} {at = at} {to = to} {h = h} {qs = qs} k q o) l =
    bind_is (word_at (codes "queries") ts) _ (at, us) _ (word_read k)
    (bind_is (all_queries m us) _ (qs, vs) _
    (sure (all_queries m us) (qs, vs) (many_read (suc h) m opens_query (query_at m) IsQuery anything (omega arith)
    (record { starts = starts_query; follows = λ fs gs v g r. refl; less = query_less; read = λ fs gs v g r e j. reads (low_query (suc h) fs gs v g r (omega arith)) (query_read m fs gs v g r j) })
    m us vs qs h q (shut_queries o) refl (omega (arith, keyword_less k)) (omega (arith, keyword_less k))))
    (bind_is (sign_at s.End vs) _ (to, rest) _ (sign_read o) refl))

-- ---- texts

again : {text : List ℕ} {ts rest : List Token} {at : ℕ} → Keyword text ts at rest → Keyword text ts (place_at ts) (after_first ts)
again (keyword t i) = keyword t i

context_starts : {ts rest : List Token} {c : Context} {h : ℕ} → IsContext ts c h rest → at_sign s.Context ts ≡ true
context_starts (context n w c q o) = here n

machine_starts : {ts rest : List Token} {c : Machine} {h : ℕ} (sign : Sign) → IsMachine ts c h rest → at_sign sign ts ≡ same_sign s.Machine sign
machine_starts sign (machine n w f c q o) = next_sign sign n

scope_starts : {ts rest : List Token} {c : ScopeBlock} → IsScope ts c rest → Keyword (codes "scope") ts (place_at ts) (after_first ts)
scope_starts (scope k q o) = again k

queries_start : {ts rest : List Token} {c : List Query} → IsQueries ts c rest → Keyword (codes "queries") ts (place_at ts) (after_first ts)
queries_start (block k q o) = again k

unit_read : (b : Limit) (m : ℕ) (ts rest : List Token) (x : EbUnit) (h : ℕ) → IsUnit ts x h rest → length ts < m → Outcome b.n h (unit_at b.n m ts) (x, rest)
unfolding unit_at scope_or_queries_at same_sign
unit_read b m ts rest x h (unit_context {c = c} r) l = chosen (at_sign s.Context ts) _ _ _ (context_starts r) (mapped (context_at b.n m ts) _ (c, rest) _ (context_read b m r l) refl)
unit_read b m ts rest x h (unit_machine {m = c} r) l =
    other (at_sign s.Context ts) _ _ _ (machine_starts s.Context r) (chosen (at_sign s.Machine ts) _ _ _ (machine_starts s.Machine r) (mapped (machine_at b.n m ts) _ (c, rest) _ (machine_read b m r l) refl))
unit_read b m ts rest x h (unit_scope {b = c} r) l =
    let k = scope_starts r in
    reads b.some (left (at_sign s.Context ts) _ _ _ (keyword_sign s.Context k) (left (at_sign s.Machine ts) _ _ _ (keyword_sign s.Machine k) (taken (at_word (codes "scope") ts) _ _ _ (word_here k)
    (bind_is (scope_at m ts) _ (c, rest) _ (scope_read m r l) refl))))
unit_read b m ts rest x h (unit_queries {qs = c} r) l =
    let k = queries_start r in
    reads b.some (left (at_sign s.Context ts) _ _ _ (keyword_sign s.Context k) (left (at_sign s.Machine ts) _ _ _ (keyword_sign s.Machine k) (left (at_word (codes "scope") ts) _ _ _ (keyword_word (codes "scope") k)
    (bind_is (queries_at m ts) _ (c, rest) _ (queries_read m r l) refl))))

token_here : (ts rest : List Token) → length rest < length ts → is_token ts ≡ true
token_here [] rest l = absurd (omega arith)
token_here (t ∷ ts) rest l = refl

-- a text is read, or is too deep where it is not lower than the limit
pub text_read : (b : Limit) (m : ℕ) (ts : List Token) (us : List EbUnit) (h : ℕ) → Each IsUnit ts us h [] → length ts < m → Outcome b.n h (text_at b.n m ts) (us, [])
text_read b m ts us h q l =
    many_read b.n m is_token (unit_at b.n m) IsUnit anything b.some
    (record { starts = λ fs gs v g r. token_here fs gs (unit_less b.laws fs gs v g r); follows = λ fs gs v g r. refl; less = unit_less b.laws; read = λ fs gs v g r e j. unit_read b m fs gs v g r j })
    m ts [] us h q refl refl l l
