use Rattle.std.proofs.Common.{◌∙◌, ◌+◌, ◌<◌, [], ◌∷◌, sym, ap, ap₂, length, take, arith}
use Rattle.std.proofs.lemmas.Result.{on_ok_weaker}
use Rattle.std.specs.List.{flat_map}
use Rattle.eb_term.specs.Nodes.{subterms}
use Rattle.problem_nodes.specs.declared.lists.Made.TheVariants as made
use Rattle.problem_nodes.specs.Places.{parts}
use Rattle.problem_nodes.specs.Aboves.{rows}
use Rattle.problem_nodes.specs.steps.Lists.{extended, made_at}
use Rattle.problem_nodes.proofs.PushLaws.{the_record, closed, binary_parts, over_parts, two_parts, next_row, taken_more, taken_length}
use Rattle.problem_nodes.proofs.lists.+walking.Goals as goal

pub push_term-returns : goal.push_term-returns
push_term-returns t c =
    let l = c.args.lists.now in
    let node = c.args.term.now in
    c.close.ensures ∙ ap (λ p. the_record p c.len-number.result) c.in_ok-push_parts.ensures
    ∙ ap₂ (λ b n. the_record (extended b (flat_map subterms (parts node)) (rows (made_at (made.Parts n)) 0 (length b.terms) (parts node))) n) c.in_ok-begin.ensures c.len-number.ensures.count
    ∙ closed l node c.args.above c.len-number.ensures.even

pub push_parts-returns-in_ok-push_term-in-Binary : goal.push_parts-returns-in_ok-push_term-in-Binary
push_parts-returns-in_ok-push_term-in-Binary t c =
    let node = c.args.term.now in
    let left = c.get-in-Binary.result.now in
    let right = c.get-in-Binary-2.result.now in
    let two = binary_parts node c.in-Binary.left c.in-Binary.right _ c.in-Binary.is ∙ ap₂ (λ x y. x ∷ y ∷ []) (sym c.get-in-Binary.ensures) (sym c.get-in-Binary-2.ensures) in
    on_ok_weaker c.push_term-in-Binary-2.result
    (two_parts c.args.lists.now c.push_term-in-Binary.new.lists c.push_term-in-Binary-2.new.lists node left right c.at-in-Binary.result c.at-in-Binary-2.result c.args.number two
    c.in_ok-push_term-in-Binary.ensures c.at-in-Binary.ensures c.at-in-Binary-2.ensures)
    c.push_term-in-Binary-2.ensures

pub push_parts-returns-in_ok-push_term-in-Over : goal.push_parts-returns-in_ok-push_term-in-Over
push_parts-returns-in_ok-push_term-in-Over t c =
    let node = c.args.term.now in
    let left = c.get-in-Over.result.now in
    let right = c.get-in-Over-2.result.now in
    let two = over_parts node c.in-Over.range c.in-Over.body _ c.in-Over.is ∙ ap₂ (λ x y. x ∷ y ∷ []) (sym c.get-in-Over.ensures) (sym c.get-in-Over-2.ensures) in
    on_ok_weaker c.push_term-in-Over-2.result
    (two_parts c.args.lists.now c.push_term-in-Over.new.lists c.push_term-in-Over-2.new.lists node left right c.at-in-Over.result c.at-in-Over-2.result c.args.number two
    c.in_ok-push_term-in-Over.ensures c.at-in-Over.ensures c.at-in-Over-2.ensures)
    c.push_term-in-Over-2.ensures

pub push_row-loop-place-preserved : goal.push_row-loop-place-preserved
push_row-loop-place-preserved t c =
    let terms = c.args.terms.now in
    let j = c.loop-place.place in
    let term = c.index-terms-place.result in
    let below : j < length terms = grind (arith, c.loop-place-test.true) in
    let longer = taken_more terms j term below c.index-terms-place.is in
    next_row c.args.lists.now c.loop-place.lists c.push_term.new.lists (take j terms) (take (j + 1) terms) term c.at.result j (made_at c.args.made) longer (taken_length terms j below)
    c.loop-place.invariant c.at.ensures c.in_ok-push_term.ensures
