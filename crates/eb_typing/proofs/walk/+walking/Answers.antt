use Rattle.std.proofs.Common.{◌≡◌, ◌∙◌, ap, rules, map}
use Rattle.eb_typing.specs.Numbering as numbers
use Rattle.eb_typing.specs.steps.Generating as spec
use Rattle.eb_typing.proofs.WalkLaws.{all_row}
use Rattle.eb_typing.proofs.walk.+walking.Goals as goal

pub all-returns-clause-found : goal.all-returns-clause-found
all-returns-clause-found t c =
    let ts = map numbers.numbered c.args.members.now in
    let r = spec.gens c.args.asked (numbers.parts_of ts) c.args.out.now in
    let e : c.in_ok-found.found ≡ (spec.row_of_all c.args.row.part c.args.row.whole r.0 r.1).0 = search rules in
    e ∙ ap (λ z. z.0) (all_row c.args.asked c.args.row.part c.args.row.whole ts c.args.out.now)

pub all-returns-clause-made : goal.all-returns-clause-made
all-returns-clause-made t c =
    let ts = map numbers.numbered c.args.members.now in
    let r = spec.gens c.args.asked (numbers.parts_of ts) c.args.out.now in
    let e : c.all.new.self ≡ (spec.row_of_all c.args.row.part c.args.row.whole r.0 r.1).1 = search rules in
    e ∙ ap (λ z. z.1) (all_row c.args.asked c.args.row.part c.args.row.whole ts c.args.out.now)
