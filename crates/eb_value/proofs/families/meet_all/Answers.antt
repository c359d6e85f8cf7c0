use Rattle.std.proofs.Common.{rules, ◌≡◌, ◌∷◌}
use Rattle.eb_value.proofs.FamilyLaws.{met}
use Rattle.eb_value.proofs.families.meet_all.Goals as goal

pub returns : goal.returns
returns c =
    let parts : c.args.sets.now ≡ c.in-Some.first.now ∷ c.in-Some.others.now = search rules in
    met c.args.sets.now c.in-Some.first.now c.in-Some.others.now c.in_ok-kept_in_all.field-0 parts c.requires (search rules)
