use Rattle.std.proofs.Common.{◌≡◌, ◌∙◌, map, ap, sym, subst}
use Rattle.eb_scoping.specs.FreeNames.{names_of, mark_names}
use Rattle.std.specs.List.{flat_map}
use Rattle.eb_declared.specs.steps.Written as seen
use Rattle.eb_declared.specs.steps.Keys.{BindsApart, Judged}
use Rattle.eb_declared.proofs.KeyLaws.{binds_judged}
use Rattle.eb_declared.proofs.repeats.judge.Goals as goal

pub returns-in_ok-names-in-Identifiers : goal.returns-in_ok-names-in-Identifiers
returns-in_ok-names-in-Identifiers c = λ before k. let h = c.args.known.now in let xs = names_of c.in-Identifiers.identifiers.now in
    let same : map (λ x. x.now) c.deref.result.now ≡ xs = ap (map (λ x. x.now)) c.deref.ensures.value ∙ c.in_ok-names-in-Identifiers.ensures in
    subst (λ z. Judged before (seen.declaration z) h.keys h.parameters c.judge_binder.result) (sym c.in-Identifiers.is)
    (binds_judged h.keys h.parameters before xs c.judge_binder.result (subst (λ z. BindsApart z c.judge_binder.result) same c.judge_binder.ensures) k)

pub returns-in_ok-names-in-Pattern : goal.returns-in_ok-names-in-Pattern
returns-in_ok-names-in-Pattern c = λ before k. let h = c.args.known.now in let xs = flat_map mark_names c.in-Pattern.marks.now in
    let same : map (λ x. x.now) c.deref-in-Pattern.result.now ≡ xs = ap (map (λ x. x.now)) c.deref-in-Pattern.ensures.value ∙ c.in_ok-names-in-Pattern.ensures in
    subst (λ z. Judged before (seen.declaration z) h.keys h.parameters c.judge_binder-in-Pattern.result) (sym c.in-Pattern.is)
    (binds_judged h.keys h.parameters before xs c.judge_binder-in-Pattern.result (subst (λ z. BindsApart z c.judge_binder-in-Pattern.result) same c.judge_binder-in-Pattern.ensures) k)
