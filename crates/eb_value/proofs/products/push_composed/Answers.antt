use Rattle.std.proofs.Common.{◌≡◌, Some, None, refl, rules, subst}
use Rattle.std.specs.List.{Contains}
use Rattle.eb_value.specs.Sets.{IsSetOf}
use Rattle.eb_value.specs.steps.Merges.{first_of}
use Rattle.eb_value.specs.steps.Joins
use Rattle.eb_value.proofs.ComposeLaws.{run_added, run_empty, ends_set}
use Rattle.eb_value.proofs.products.push_composed.Goals as goal

pub returns-in_ok-push_pairs : goal.returns-in_ok-push_pairs
returns-in_ok-push_pairs c =
    let is : first_of c.args.value.now ≡ Some c.in-Some.first.now = search rules in
    let made : c.in_ok-ends.field-0.items ≡ Joins.ends c.args.s.now c.args.run.now = search rules in
    let set : IsSetOf (Joins.InEnds c.args.run.now c.args.s.now) c.set_of-seconds.result =
    ends_set c.args.run.now c.args.s.now c.set_of-seconds.result (subst (λ xs. IsSetOf (Contains xs) c.set_of-seconds.result) made c.set_of-seconds.ensures.is_set) in
    run_added c.args.value.now c.in-Some.first.now c.args.run.now c.args.s.now c.set_of-seconds.result c.args.all.now.items c.push_pairs.new.all.items is c.requires.first set (search rules)

pub returns-in_default : goal.returns-in_default
returns-in_default c =
    let is : first_of c.args.value.now ≡ None = search rules in
    run_empty c.args.value.now c.args.run.now c.args.s.now c.args.all.now.items c.args.all.now.items is c.requires.first refl
