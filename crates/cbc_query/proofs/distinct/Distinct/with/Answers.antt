use Rattle.std.proofs.Common.{◌≡◌, ◌∙◌, sym, ap, subst, String, Global}
use Rattle.std.specs.String.{string_bytes}
use Rattle.std.specs.BTreeSet.{contains}
use Rattle.cbc_query.specs.steps.Distinct.{with_note, text_order, AreTexts}
use Rattle.cbc_query.proofs.TextSets.{with_texts, nothing_new, one_new, there_from, absent_from}
use Rattle.cbc_query.proofs.distinct.Distinct.with.Goals as goal

pub returns-then-not-is_new : goal.returns-then-not-is_new
returns-then-not-is_new c =
    let key : String Global × String Global = (c.in_ok-label.label, c.in_ok-identifier.identifier) in
    let l : string_bytes c.in_ok-label.label ≡ c.args.note.label = c.in_ok-label.ensures.ok ∙ c.as_str.ensures in
    let i : string_bytes c.in_ok-identifier.identifier ≡ c.args.note.identifier = c.in_ok-identifier.ensures.ok ∙ c.as_str-2.ensures in
    let there = there_from c.in_ok-is_new.is_new (contains text_order c.self.inside.texts key) c.in_ok-is_new.ensures.added c.if-not-is_new.true in
    sym (nothing_new c.self.inside.texts key c.args.note c.self.inside.notes c.self.invariant (l, i) there) ∙ ap (λ ds. with_note ds c.args.note) c.self.view_is

pub invariant_of-result-2 : goal.invariant_of-result-2
invariant_of-result-2 c =
    let key : String Global × String Global = (c.in_ok-label.label, c.in_ok-identifier.identifier) in
    let l : string_bytes c.in_ok-label.label ≡ c.args.note.label = c.in_ok-label.ensures.ok ∙ c.as_str.ensures in
    let i : string_bytes c.in_ok-identifier.identifier ≡ c.args.note.identifier = c.in_ok-identifier.ensures.ok ∙ c.as_str-2.ensures in
    subst (λ z. AreTexts c.insert.new.self z) (sym c.in_ok-push.ensures.ok)
    (with_texts c.self.inside.texts c.insert.new.self key c.args.note c.self.inside.notes c.self.invariant (l, i) c.in_ok-is_new.ensures.updates)

pub returns : goal.returns
returns c =
    let key : String Global × String Global = (c.in_ok-label.label, c.in_ok-identifier.identifier) in
    let l : string_bytes c.in_ok-label.label ≡ c.args.note.label = c.in_ok-label.ensures.ok ∙ c.as_str.ensures in
    let i : string_bytes c.in_ok-identifier.identifier ≡ c.args.note.identifier = c.in_ok-identifier.ensures.ok ∙ c.as_str-2.ensures in
    let there = absent_from c.in_ok-is_new.is_new (contains text_order c.self.inside.texts key) c.in_ok-is_new.ensures.added c.if-not-is_new.false in
    c.in_ok-push.ensures.ok ∙ (sym (one_new c.self.inside.texts key c.args.note c.self.inside.notes c.self.invariant (l, i) there) ∙ ap (λ ds. with_note ds c.args.note) c.self.view_is)
