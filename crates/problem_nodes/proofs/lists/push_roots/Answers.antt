use Rattle.std.proofs.Common.{◌∙◌, ◌+◌, ◌<◌, [], ◌∷◌, ◌++◌, ap, length, take, arith}
use Rattle.problem_nodes.specs.Aboves.{rows}
use Rattle.problem_nodes.specs.steps.Lists.{made_at}
use Rattle.problem_nodes.proofs.PushLaws.{next_row, next_root, taken_more, taken_length}
use Rattle.problem_nodes.proofs.lists.push_roots.Goals as goal

pub loop-place-preserved : goal.loop-place-preserved
loop-place-preserved c =
    let l = c.args.lists.now in
    let m = c.loop-place.lists in
    let terms = c.args.terms.now in
    let j = c.loop-place.place in
    let term = c.index-terms-place.result in
    let below : j < length terms = grind (arith, c.loop-place-test.true) in
    let longer = taken_more terms j term below c.index-terms-place.is in
    let roots = c.loop-place.roots.items in (
      next_root l m roots c.push.new.self.items (take j terms) (take (j + 1) terms) term (rows (made_at c.args.made) 0 (length l.terms) (take j terms)) longer
          c.loop-place.invariant.1 c.loop-place.invariant.0 (c.in_ok-push.ensures.items ∙ ap (λ n. roots ++ (n ∷ [])) c.len.ensures.count),
      next_row l m c.push_term.new.lists (take j terms) (take (j + 1) terms) term c.at.result j (made_at c.args.made) longer (taken_length terms j below)
          c.loop-place.invariant.1 c.at.ensures c.in_ok-push_term.ensures,
    )
