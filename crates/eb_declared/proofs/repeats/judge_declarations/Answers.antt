use Rattle.std.proofs.Common.{◌≡◌, ◌∙◌, map, ap, sym, subst}
use Rattle.eb_declared.specs.Declarations.{part_declarations, declarations}
use Rattle.eb_declared.specs.Seen as held
use Rattle.eb_declared.specs.steps.Written as seen
use Rattle.eb_declared.specs.steps.Keys.{AreJudged}
use Rattle.eb_declared.proofs.FormulaLaws.{flat_mapped}
use Rattle.eb_declared.proofs.KeyLaws.{judged_parts}
use Rattle.eb_declared.proofs.repeats.judge_declarations.Goals as goal

pub returns : goal.returns
returns c =
    let ps = map held.part c.args.parts.now in
    let found : map seen.declaration c.deref.result.now ≡ declarations ps =
    ap (map seen.declaration) c.deref.ensures.value ∙ (c.in_ok-found.ensures ∙ sym (flat_mapped part_declarations held.part c.args.parts.now)) in
    let r = judged_parts ps c.judge_all.result (subst (λ z. AreJudged z c.judge_all.result) found c.judge_all.ensures) in
    record { distinct = r.0; cause = r.1 }
