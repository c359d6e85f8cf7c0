use Rattle.std.proofs.Common.{◌≡◌, ◌∷◌, arith}
use Rattle.occ_store.specs.Boxes.{after_first}
use Rattle.tree_checker.specs.Trees.{facts_of}
use Rattle.branch_search.specs.steps.Going as going
use Rattle.branch_search.proofs.Goings as goings
use Rattle.branch_search.proofs.depth_first.close.Goals as goal

pub next_move-requires : goal.next_move-requires
next_move-requires c =
    let first : c.loop-store.boxes ≡ c.in-Some.store.now ∷ after_first c.loop-store.boxes = c.in-Some.ensures in
    let within = goings.first_within c.args.first c.in-Some.store.now (after_first c.loop-store.boxes) c.loop-store.boxes first c.loop-store.invariant.within in
    let same = goings.same_length c.args.first c.in-Some.store.now within in
    record { few = omega (arith, same, c.requires.few) }

pub halves-halves-requires : goal.halves-halves-requires
halves-halves-requires c =
    let first : c.loop-store.boxes ≡ c.in-Some.store.now ∷ after_first c.loop-store.boxes = c.in-Some.ensures in
    let within = goings.first_within c.args.first c.in-Some.store.now (after_first c.loop-store.boxes) c.loop-store.boxes first c.loop-store.invariant.within in
    let move : going.IsMove (facts_of c.args.scope.now c.args.problem.now) c.in-Some.store.now c.loop-store.left c.in_ok-choice.field-0 = c.in_ok-choice.ensures in
    let parts = rw c.in-Split.is at move in
    goings.two_numbers c.args.first c.in-Some.store.now c.in-Split.choice c.in-Split.domain within (parts.0).domain (parts.0).several

pub split-requires : goal.split-requires
split-requires c =
    let first : c.loop-store.boxes ≡ c.in-Some.store.now ∷ after_first c.loop-store.boxes = c.in-Some.ensures in
    let move : going.IsMove (facts_of c.args.scope.now c.args.problem.now) c.in-Some.store.now c.loop-store.left c.in_ok-choice.field-0 = c.in_ok-choice.ensures in
    let parts = rw c.in-Split.is at move in
    record { there = goings.has_choice c.in-Some.store.now (after_first c.loop-store.boxes) c.loop-store.boxes c.in-Split.choice c.in-Split.domain first (parts.0).domain }

pub loop-store-preserved-in-Split : goal.loop-store-preserved-in-Split
loop-store-preserved-in-Split c =
    let first : c.loop-store.boxes ≡ c.in-Some.store.now ∷ after_first c.loop-store.boxes = c.in-Some.ensures in
    let move : going.IsMove (facts_of c.args.scope.now c.args.problem.now) c.in-Some.store.now c.loop-store.left c.in_ok-choice.field-0 = c.in_ok-choice.ensures in
    let parts = rw c.in-Split.is at move in
    rw (c.in_ok-split-in-Split.ensures.split, c.in_ok-push-in-Split.ensures.items, c.split_line.ensures)
    (goings.split_going (facts_of c.args.scope.now c.args.problem.now) c.args.first c.args.budget c.loop-store.boxes c.in-Some.store.now (after_first c.loop-store.boxes) c.loop-store.lines.items c.loop-store.left c.loop-store.gave_up
    c.in-Split.choice c.in-Split.domain c.halves-halves.result first c.loop-store.invariant (parts.0).domain c.halves-halves.ensures parts.1)

pub loop-store-preserved-in-Open : goal.loop-store-preserved-in-Open
loop-store-preserved-in-Open c =
    let first : c.loop-store.boxes ≡ c.in-Some.store.now ∷ after_first c.loop-store.boxes = c.in-Some.ensures in
    let move : going.IsMove (facts_of c.args.scope.now c.args.problem.now) c.in-Some.store.now c.loop-store.left c.in_ok-choice.field-0 = c.in_ok-choice.ensures in
    let parts = rw c.in-Open.is at move in
    rw (c.close.ensures, c.in_ok-push-in-Open.ensures.items)
    (goings.open_going (facts_of c.args.scope.now c.args.problem.now) c.args.first c.args.budget c.loop-store.boxes c.in-Some.store.now (after_first c.loop-store.boxes) c.loop-store.lines.items c.loop-store.left c.loop-store.gave_up
    first c.loop-store.invariant parts.0 parts.1)

pub loop-store-preserved : goal.loop-store-preserved
loop-store-preserved c =
    let first : c.loop-store.boxes ≡ c.in-Some.store.now ∷ after_first c.loop-store.boxes = c.in-Some.ensures in
    let move : going.IsMove (facts_of c.args.scope.now c.args.problem.now) c.in-Some.store.now c.loop-store.left c.in_ok-choice.field-0 = c.in_ok-choice.ensures in
    let fits = rw c.in-Eval.is at move in
    rw (c.close-in-Eval.ensures, c.in_ok-push-in-Eval.ensures.items)
    (goings.eval_going (facts_of c.args.scope.now c.args.problem.now) c.args.first c.args.budget c.loop-store.boxes c.in-Some.store.now (after_first c.loop-store.boxes) c.loop-store.lines.items c.loop-store.left c.loop-store.gave_up
    c.in-Eval.fact first c.loop-store.invariant fits)
