use Rattle.std.proofs.Common.{◌∙◌, ap, sym, map}
use Rattle.eb_forms.specs.declared.kind.Kind.TheVariants as kind
use Rattle.eb_forms.specs.Forms.{judge, judged, all_misplaced}
use Rattle.eb_forms.proofs.JudgedRows.{judge_extension, judge_partition}
use Rattle.eb_forms.proofs.forms.+judging.Goals as goal

pub judge-returns-in_ok-within-in-Extension : goal.judge-returns-in_ok-within-in-Extension
judge-returns-in_ok-within-in-Extension t c =
    c.judgement-in-Extension.ensures
    ∙ ap (judged kind.Value c.args.formula.now.place) (c.in_ok-within-in-Extension.ensures ∙ ap (λ z. all_misplaced (map (judge c.args.types.now) z)) c.as_slice.ensures)
    ∙ sym (judge_extension c.args.types.now c.args.formula.now c.in-Extension.members c.in-Extension.is)

pub judge-returns-in_ok-within-in-Partition : goal.judge-returns-in_ok-within-in-Partition
judge-returns-in_ok-within-in-Partition t c =
    c.judgement-in-Partition.ensures
    ∙ ap (judged kind.Value c.args.formula.now.place) (c.in_ok-within-in-Partition.ensures ∙ ap (λ z. all_misplaced (map (judge c.args.types.now) z)) c.as_slice-in-Partition.ensures)
    ∙ sym (judge_partition c.args.types.now c.args.formula.now c.in-Partition.members c.in-Partition.is)
