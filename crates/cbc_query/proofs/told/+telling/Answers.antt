use Rattle.std.proofs.Common.{◌∙◌, ◌++◌, sym, ap, ap₂}
use Rattle.std.specs.List.{flat_map}
use Rattle.cbc_query.specs.Limits.{range_types}
use Rattle.cbc_query.specs.steps.Told.{told_number}
use Rattle.cbc_query.proofs.Ranges.{many_ranges, over_flat, all_flat, after_one, after_two}
use Rattle.cbc_query.proofs.told.+telling.Goals as goal

pub push_numbers-returns-in-Many : goal.push_numbers-returns-in-Many
push_numbers-returns-in-Many t c =
    after_one c.push_row.result c.push_row.new.numbers c.args.numbers.now (flat_map told_number (flat_map range_types c.as_slice.result.now)) (flat_map told_number (range_types c.args.term.now))
    c.push_row.ensures
    (ap (flat_map told_number) (many_ranges c.args.term.now _ c.in-Many.parts c.in-Many.is ∙ ap (flat_map range_types) (sym c.as_slice.ensures)))

pub push_numbers-returns-in_ok-push_numbers-in-Over : goal.push_numbers-returns-in_ok-push_numbers-in-Over
push_numbers-returns-in_ok-push_numbers-in-Over t c =
    after_two c.push_numbers-in-Over-2.result c.push_numbers-in-Over-2.new.numbers c.push_numbers-in-Over.new.numbers c.args.numbers.now
    (flat_map told_number (range_types c.get-in-Over.result.now)) (flat_map told_number (range_types c.get-in-Over-2.result.now)) (flat_map told_number (range_types c.args.term.now))
    c.push_numbers-in-Over-2.ensures c.in_ok-push_numbers-in-Over.ensures
    (over_flat told_number c.args.term.now c.in-Over.range c.in-Over.body _ c.in-Over.is
    ∙ ap₂ (λ y z. flat_map told_number (range_types y) ++ flat_map told_number (range_types z)) (sym c.get-in-Over.ensures) (sym c.get-in-Over-2.ensures))

pub push_numbers-returns-in_ok-push_told-in-All : goal.push_numbers-returns-in_ok-push_told-in-All
push_numbers-returns-in_ok-push_told-in-All t c =
    after_two c.push_numbers-in-All.result c.push_numbers-in-All.new.numbers c.push_told-in-All.new.numbers c.args.numbers.now
    (told_number c.get-in-All.result.now) (flat_map told_number (range_types c.get-in-All-2.result.now)) (flat_map told_number (range_types c.args.term.now))
    c.push_numbers-in-All.ensures c.in_ok-push_told-in-All.ensures
    (all_flat told_number c.args.term.now c.in-All.body _ _ c.in-All.is
    ∙ ap₂ (λ y z. told_number y ++ flat_map told_number (range_types z)) (sym c.get-in-All.ensures) (sym c.get-in-All-2.ensures))
