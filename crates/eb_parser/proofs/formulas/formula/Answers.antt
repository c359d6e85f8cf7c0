use Rattle.std.proofs.Common.{◌≡◌, ◌∙◌, ◌-◌, inl, true, false, length, drop, Ok, Err, refl, sym, ap, rules}
use Rattle.eb_parser.specs.declared.fault.Fault.TheVariants.{Syntax, TooDeep}
use Rattle.eb_parser.specs.declared.fault.Stop.TheVariants as stopped
use Rattle.eb_parser.specs.Formulas.{fits, place_of}
use Rattle.eb_parser.specs.steps.Climbing.{read}
use Rattle.eb_parser.proofs.Equations.{fails_at}
use Rattle.eb_parser.proofs.FormulaLaws.{at, same_read, no_formula, wrong_kind, found_means, high_means, deep_means, same_answer, ok_deep}
use Rattle.eb_parser.proofs.FrontLaws.{fails_front, wrong_front, found_front}
use Rattle.eb_parser.proofs.formulas.formula.Goals as goal

pub returns-then-not-fits-clause-cause : goal.returns-then-not-fits-clause-cause
returns-then-not-fits-clause-cause c =
    let ts : c.tokens_from.result.now ≡ drop c.args.from c.args.tokens.now = c.tokens_from.ensures ∙ ap (drop c.args.from) c.as_slice-tokens.ensures in
    let e : at c.args.kind c.args.tokens.now c.args.from ≡ Ok (c.in-Ok.part, c.in-Ok.rest.now) = same_read _ _ _ _ _ c.least_of.ensures ts c.in-Ok.ensures.exact in
    let n : fits c.args.kind c.in-Ok.part.level ≡ false = search rules in
    (wrong_kind c.args.kind c.args.tokens.now c.in-Ok.rest.now c.args.from c.in-Ok.part e n, c.place_of.ensures ∙ ap (λ z. place_of z c.args.from) c.as_slice-tokens.ensures)

pub returns-then-not-fits-clause-high : goal.returns-then-not-fits-clause-high
returns-then-not-fits-clause-high c =
    let ts : c.tokens_from.result.now ≡ drop c.args.from c.args.tokens.now = c.tokens_from.ensures ∙ ap (drop c.args.from) c.as_slice-tokens.ensures in
    let e : at c.args.kind c.args.tokens.now c.args.from ≡ Ok (c.in-Ok.part, c.in-Ok.rest.now) = same_read _ _ _ _ _ c.least_of.ensures ts c.in-Ok.ensures.exact in
    let n : fits c.args.kind c.in-Ok.part.level ≡ false = search rules in
    λ end a h l i. absurd (wrong_kind c.args.kind c.args.tokens.now c.in-Ok.rest.now c.args.from c.in-Ok.part e n end a h l.stands)

pub returns-then-not-fits-clause-complete : goal.returns-then-not-fits-clause-complete
returns-then-not-fits-clause-complete c =
    let ts : c.tokens_from.result.now ≡ drop c.args.from c.args.tokens.now = c.tokens_from.ensures ∙ ap (drop c.args.from) c.as_slice-tokens.ensures in
    let e : at c.args.kind c.args.tokens.now c.args.from ≡ Ok (c.in-Ok.part, c.in-Ok.rest.now) = same_read _ _ _ _ _ c.least_of.ensures ts c.in-Ok.ensures.exact in
    let n : fits c.args.kind c.in-Ok.part.level ≡ false = search rules in
    λ end a h l i o. absurd (wrong_kind c.args.kind c.args.tokens.now c.in-Ok.rest.now c.args.from c.in-Ok.part e n end a h l.stands)

pub returns-else-not-fits-clause-found : goal.returns-else-not-fits-clause-found
returns-else-not-fits-clause-found c =
    let ts : c.tokens_from.result.now ≡ drop c.args.from c.args.tokens.now = c.tokens_from.ensures ∙ ap (drop c.args.from) c.as_slice-tokens.ensures in
    let e : at c.args.kind c.args.tokens.now c.args.from ≡ Ok (c.in-Ok.part, c.in-Ok.rest.now) = same_read _ _ _ _ _ c.least_of.ensures ts c.in-Ok.ensures.exact in
    let n : fits c.args.kind c.in-Ok.part.level ≡ true = search rules in
    let end : c.count_before.result ≡ length c.args.tokens.now - length c.in-Ok.rest.now = c.count_before.ensures ∙ ap (λ z. length z - length c.in-Ok.rest.now) c.as_slice-tokens.ensures in
    let inner : c.into_inner.result ≡ c.in-Ok.part.tree = c.into_inner.ensures in
    rw (inner, end) (found_means c.args.kind c.args.tokens.now c.in-Ok.rest.now c.args.from c.in-Ok.part e n)

pub returns-else-not-fits-clause-high : goal.returns-else-not-fits-clause-high
returns-else-not-fits-clause-high c =
    let ts : c.tokens_from.result.now ≡ drop c.args.from c.args.tokens.now = c.tokens_from.ensures ∙ ap (drop c.args.from) c.as_slice-tokens.ensures in
    let e : at c.args.kind c.args.tokens.now c.args.from ≡ Ok (c.in-Ok.part, c.in-Ok.rest.now) = same_read _ _ _ _ _ c.least_of.ensures ts c.in-Ok.ensures.exact in
    λ end a h l i. absurd (ok_deep c.in-Ok.part c.in-Ok.rest.now (sym e ∙ high_means c.args.kind c.args.tokens.now c.args.from end a h l i))

pub returns-else-not-fits-clause-complete : goal.returns-else-not-fits-clause-complete
returns-else-not-fits-clause-complete c =
    let ts : c.tokens_from.result.now ≡ drop c.args.from c.args.tokens.now = c.tokens_from.ensures ∙ ap (drop c.args.from) c.as_slice-tokens.ensures in
    let e : at c.args.kind c.args.tokens.now c.args.from ≡ Ok (c.in-Ok.part, c.in-Ok.rest.now) = same_read _ _ _ _ _ c.least_of.ensures ts c.in-Ok.ensures.exact in
    let count : c.count_before.result ≡ length c.args.tokens.now - length c.in-Ok.rest.now = c.count_before.ensures ∙ ap (λ z. length z - length c.in-Ok.rest.now) c.as_slice-tokens.ensures in
    let inner : c.into_inner.result ≡ c.in-Ok.part.tree = c.into_inner.ensures in
    λ end a h l i o.
    let w = same_answer c.args.kind c.args.tokens.now c.in-Ok.rest.now c.args.from end c.in-Ok.part a h e l.stands i o in
    inl (rw (inner, w.0, count, w.1) refl)

pub returns-in-Err-Fault-Syntax-clause-cause : goal.returns-in-Err-Fault-Syntax-clause-cause
returns-in-Err-Fault-Syntax-clause-cause c =
    let ts : c.tokens_from.result.now ≡ drop c.args.from c.args.tokens.now = c.tokens_from.ensures ∙ ap (drop c.args.from) c.as_slice-tokens.ensures in
    let is : c.in-Err-Fault-Syntax.field-0-0 ≡ Syntax = search rules in
    let bad : read 201 c.least_of.result c.tokens_from.result.now ≡ Err Syntax = fails_at c.in-Err-Fault-Syntax.field-0 Syntax _ (c.in-Err-Fault-Syntax.field-0-is ∙ ap stopped.Fault is) c.in-Err-Fault-Syntax.ensures.exact in
    let e : at c.args.kind c.args.tokens.now c.args.from ≡ Err Syntax = same_read _ _ _ _ _ c.least_of.ensures ts bad in
    (λ end a h s. no_formula c.args.kind c.args.tokens.now c.args.from end a h e s, c.place_of-in-Err-Fault-Syntax.ensures ∙ ap (λ z. place_of z c.args.from) c.as_slice-tokens.ensures)

pub returns-in-Err-Fault-Syntax-clause-high : goal.returns-in-Err-Fault-Syntax-clause-high
returns-in-Err-Fault-Syntax-clause-high c =
    let ts : c.tokens_from.result.now ≡ drop c.args.from c.args.tokens.now = c.tokens_from.ensures ∙ ap (drop c.args.from) c.as_slice-tokens.ensures in
    let is : c.in-Err-Fault-Syntax.field-0-0 ≡ Syntax = search rules in
    let bad : read 201 c.least_of.result c.tokens_from.result.now ≡ Err Syntax = fails_at c.in-Err-Fault-Syntax.field-0 Syntax _ (c.in-Err-Fault-Syntax.field-0-is ∙ ap stopped.Fault is) c.in-Err-Fault-Syntax.ensures.exact in
    let e : at c.args.kind c.args.tokens.now c.args.from ≡ Err Syntax = same_read _ _ _ _ _ c.least_of.ensures ts bad in
    λ end a h l i. absurd (no_formula c.args.kind c.args.tokens.now c.args.from end a h e l.stands)

pub returns-in-Err-Fault-Syntax-clause-complete : goal.returns-in-Err-Fault-Syntax-clause-complete
returns-in-Err-Fault-Syntax-clause-complete c =
    let ts : c.tokens_from.result.now ≡ drop c.args.from c.args.tokens.now = c.tokens_from.ensures ∙ ap (drop c.args.from) c.as_slice-tokens.ensures in
    let is : c.in-Err-Fault-Syntax.field-0-0 ≡ Syntax = search rules in
    let bad : read 201 c.least_of.result c.tokens_from.result.now ≡ Err Syntax = fails_at c.in-Err-Fault-Syntax.field-0 Syntax _ (c.in-Err-Fault-Syntax.field-0-is ∙ ap stopped.Fault is) c.in-Err-Fault-Syntax.ensures.exact in
    let e : at c.args.kind c.args.tokens.now c.args.from ≡ Err Syntax = same_read _ _ _ _ _ c.least_of.ensures ts bad in
    λ end a h l i o. absurd (no_formula c.args.kind c.args.tokens.now c.args.from end a h e l.stands)

pub returns-in-Err-Fault-TooDeep-clause-cause : goal.returns-in-Err-Fault-TooDeep-clause-cause
returns-in-Err-Fault-TooDeep-clause-cause c =
    let ts : c.tokens_from.result.now ≡ drop c.args.from c.args.tokens.now = c.tokens_from.ensures ∙ ap (drop c.args.from) c.as_slice-tokens.ensures in
    let is : c.in-Err-Fault-TooDeep.field-0-0 ≡ TooDeep = search rules in
    let bad : read 201 c.least_of.result c.tokens_from.result.now ≡ Err TooDeep = fails_at c.in-Err-Fault-TooDeep.field-0 TooDeep _ (c.in-Err-Fault-TooDeep.field-0-is ∙ ap stopped.Fault is) c.in-Err-Fault-TooDeep.ensures.exact in
    let e : at c.args.kind c.args.tokens.now c.args.from ≡ Err TooDeep = same_read _ _ _ _ _ c.least_of.ensures ts bad in
    deep_means c.args.kind c.args.tokens.now c.args.from e

pub returns-in-Err-Fault-TooDeep-clause-complete : goal.returns-in-Err-Fault-TooDeep-clause-complete
returns-in-Err-Fault-TooDeep-clause-complete c =
    let ts : c.tokens_from.result.now ≡ drop c.args.from c.args.tokens.now = c.tokens_from.ensures ∙ ap (drop c.args.from) c.as_slice-tokens.ensures in
    let is : c.in-Err-Fault-TooDeep.field-0-0 ≡ TooDeep = search rules in
    let bad : read 201 c.least_of.result c.tokens_from.result.now ≡ Err TooDeep = fails_at c.in-Err-Fault-TooDeep.field-0 TooDeep _ (c.in-Err-Fault-TooDeep.field-0-is ∙ ap stopped.Fault is) c.in-Err-Fault-TooDeep.ensures.exact in
    let e : at c.args.kind c.args.tokens.now c.args.from ≡ Err TooDeep = same_read _ _ _ _ _ c.least_of.ensures ts bad in
    λ end a h l i o. absurd (o ((deep_means c.args.kind c.args.tokens.now c.args.from e).1 end a h l i))

pub returns-then-not-fits-clause-exact : goal.returns-then-not-fits-clause-exact
returns-then-not-fits-clause-exact c =
    let ts : c.tokens_from.result.now ≡ drop c.args.from c.args.tokens.now = c.tokens_from.ensures ∙ ap (drop c.args.from) c.as_slice-tokens.ensures in
    let e : at c.args.kind c.args.tokens.now c.args.from ≡ Ok (c.in-Ok.part, c.in-Ok.rest.now) = same_read _ _ _ _ _ c.least_of.ensures ts c.in-Ok.ensures.exact in
    let n : fits c.args.kind c.in-Ok.part.level ≡ false = search rules in
    wrong_front c.args.kind c.args.tokens.now c.in-Ok.rest.now c.args.from c.in-Ok.part e n

pub returns-else-not-fits-clause-exact : goal.returns-else-not-fits-clause-exact
returns-else-not-fits-clause-exact c =
    let ts : c.tokens_from.result.now ≡ drop c.args.from c.args.tokens.now = c.tokens_from.ensures ∙ ap (drop c.args.from) c.as_slice-tokens.ensures in
    let e : at c.args.kind c.args.tokens.now c.args.from ≡ Ok (c.in-Ok.part, c.in-Ok.rest.now) = same_read _ _ _ _ _ c.least_of.ensures ts c.in-Ok.ensures.exact in
    let n : fits c.args.kind c.in-Ok.part.level ≡ true = search rules in
    let end : c.count_before.result ≡ length c.args.tokens.now - length c.in-Ok.rest.now = c.count_before.ensures ∙ ap (λ z. length z - length c.in-Ok.rest.now) c.as_slice-tokens.ensures in
    let inner : c.into_inner.result ≡ c.in-Ok.part.tree = c.into_inner.ensures in
    rw (inner, end) (found_front c.args.kind c.args.tokens.now c.in-Ok.rest.now c.args.from c.in-Ok.part e n)

pub returns-in-Err-Fault-Syntax-clause-exact : goal.returns-in-Err-Fault-Syntax-clause-exact
returns-in-Err-Fault-Syntax-clause-exact c =
    let ts : c.tokens_from.result.now ≡ drop c.args.from c.args.tokens.now = c.tokens_from.ensures ∙ ap (drop c.args.from) c.as_slice-tokens.ensures in
    let is : c.in-Err-Fault-Syntax.field-0-0 ≡ Syntax = search rules in
    let bad : read 201 c.least_of.result c.tokens_from.result.now ≡ Err Syntax = fails_at c.in-Err-Fault-Syntax.field-0 Syntax _ (c.in-Err-Fault-Syntax.field-0-is ∙ ap stopped.Fault is) c.in-Err-Fault-Syntax.ensures.exact in
    fails_front c.args.kind c.args.tokens.now c.args.from Syntax (same_read _ _ _ _ _ c.least_of.ensures ts bad)

pub returns-in-Err-Fault-TooDeep-clause-exact : goal.returns-in-Err-Fault-TooDeep-clause-exact
returns-in-Err-Fault-TooDeep-clause-exact c =
    let ts : c.tokens_from.result.now ≡ drop c.args.from c.args.tokens.now = c.tokens_from.ensures ∙ ap (drop c.args.from) c.as_slice-tokens.ensures in
    let is : c.in-Err-Fault-TooDeep.field-0-0 ≡ TooDeep = search rules in
    let bad : read 201 c.least_of.result c.tokens_from.result.now ≡ Err TooDeep = fails_at c.in-Err-Fault-TooDeep.field-0 TooDeep _ (c.in-Err-Fault-TooDeep.field-0-is ∙ ap stopped.Fault is) c.in-Err-Fault-TooDeep.ensures.exact in
    fails_front c.args.kind c.args.tokens.now c.args.from TooDeep (same_read _ _ _ _ _ c.least_of.ensures ts bad)
