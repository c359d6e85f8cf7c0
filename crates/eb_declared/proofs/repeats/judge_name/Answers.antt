use Rattle.std.proofs.Common.{◌∙◌, sym}
use Rattle.eb_declared.proofs.KeyLaws.{taken_meets, free_repeats_none, keeps_declared}
use Rattle.eb_declared.proofs.repeats.judge_name.Goals as goal

pub returns-then-is_repeated : goal.returns-then-is_repeated
returns-then-is_repeated c = λ before k. let h = c.args.known.now in
    let r = taken_meets h.keys h.parameters before k c.args.space c.args.name.now (sym c.is_repeated.ensures ∙ c.if-is_repeated.true) in
    (sym c.in_ok-name.ensures, r.0, r.1, r.2)

pub returns : goal.returns
returns c = λ before k. let h = c.args.known.now in let n = c.note.new.known in (
  keeps_declared h.keys h.parameters before k n.keys n.parameters c.args.space c.args.name.now c.in_ok-note.ensures.keys c.in_ok-note.ensures.parameters,
  free_repeats_none h.keys h.parameters before k c.args.space c.args.name.now (sym c.is_repeated.ensures ∙ c.if-is_repeated.false),
)
