use Rattle.std.proofs.Common.{◌∙◌, ◌||◌, sym, ap, ap₂}
use Rattle.std.specs.List.{list_any, flat_map}
use Rattle.cbc_query.specs.Limits.{has_many, range_types}
use Rattle.cbc_query.proofs.Ranges.{many_ranges, over_any}
use Rattle.cbc_query.proofs.large.+going.Goals as goal

pub goes_far-returns-in-Many : goal.goes_far-returns-in-Many
goes_far-returns-in-Many t c =
    c.go_far.ensures
    ∙ ap (list_any (has_many c.args.scope.now)) (ap (flat_map range_types) c.as_slice.ensures ∙ sym (many_ranges c.args.term.now _ c.in-Many.parts c.in-Many.is))

pub goes_far-returns-in-Over : goal.goes_far-returns-in-Over
goes_far-returns-in-Over t c =
    let p = has_many c.args.scope.now in
    c.either.ensures
    ∙ (ap₂ (λ x y. x || y) (c.goes_far-is_range_far.ensures ∙ ap (λ z. list_any p (range_types z)) c.get-range.ensures)
    (c.goes_far-is_body_far.ensures ∙ ap (λ z. list_any p (range_types z)) c.get-body.ensures)
    ∙ sym (over_any p c.args.term.now c.in-Over.range c.in-Over.body _ c.in-Over.is))
