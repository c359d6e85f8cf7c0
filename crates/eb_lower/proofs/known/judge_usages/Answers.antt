use Rattle.std.proofs.Common.{◌≡◌, ◌∙◌, ◌++◌, [], map, take, sym, ap, subst}
use Rattle.std.specs.List.{flat_map, AllByRecursion}
use Rattle.std.specs.declared.result.Result.TheVariants.{Err}
use Rattle.eb_declared.specs.Parts.{parts}
use Rattle.eb_declared.specs.Seen as held
use Rattle.eb_lower.specs.Usages.{IsKnown, usages, part_usages}
use Rattle.eb_lower.specs.steps.Positions as seen
use Rattle.eb_lower.specs.steps.Answers.{KnowsAll}
use Rattle.eb_lower.specs.steps.Known.{ArePlaced}
use Rattle.eb_lower.proofs.AnswerLaws.{part_unknown, all_more}
use Rattle.eb_lower.proofs.PartLaws.{flat_at, flat_more, flat_all, flat_mapped}
use Rattle.eb_lower.proofs.PlacedLaws.{placed_part}
use Rattle.eb_lower.proofs.UnitLaws.{marks_length}
use Rattle.eb_lower.proofs.known.judge_usages.Goals as goal

pub returns-in-Err : goal.returns-in-Err
returns-in-Err c = let us = c.args.units.now in let bs = c.args.marks.now in let ps = c.args.found.now in let i = c.loop-part.part-index in let x = c.part-item.result in
    let found : map seen.usage c.deref.result.now ≡ part_usages (held.part x) = ap (map seen.usage) c.deref.ensures.value ∙ (c.in_ok-push_part.ensures ∙ ap (λ z. map seen.usage z ++ part_usages (held.part x)) c.new-usages.ensures.items) in
    let all : usages (parts us bs) ≡ flat_map (λ p. part_usages (held.part p)) ps = ap usages (sym c.requires.parts) ∙ flat_mapped part_usages held.part ps in
    let split = flat_at (λ p. part_usages (held.part p)) ps i x c.loop-part-test.true c.part-item.is in
    part_unknown us bs (usages (parts us bs)) (flat_map (λ p. part_usages (held.part p)) (take i ps)) (part_usages (held.part x)) split.0 c.in-Err.fault c.loop-part.invariant.known (all ∙ split.1)
    (subst (λ z. KnowsAll us bs z (Err c.in-Err.fault)) found (c.in-Err.ensures.known bs (c.requires.marked, c.in_ok-facts.ensures)))

pub loop-part-preserved : goal.loop-part-preserved
loop-part-preserved c = let us = c.args.units.now in let bs = c.args.marks.now in let ps = c.args.found.now in let i = c.loop-part.part-index in let x = c.part-item.result in
    let found : map seen.usage c.deref.result.now ≡ part_usages (held.part x) = ap (map seen.usage) c.deref.ensures.value ∙ (c.in_ok-push_part.ensures ∙ ap (λ z. map seen.usage z ++ part_usages (held.part x)) c.new-usages.ensures.items) in
    record {
      reach = c.in_default.ensures.reached;
      known = subst (AllByRecursion (IsKnown us bs)) (sym (flat_more (λ p. part_usages (held.part p)) ps i x c.loop-part-test.true c.part-item.is))
          (all_more us bs (flat_map (λ p. part_usages (held.part p)) (take i ps)) (part_usages (held.part x)) c.loop-part.invariant.known (subst (AllByRecursion (IsKnown us bs)) found (c.in_default.ensures.known bs (c.requires.marked, c.in_ok-facts.ensures))));
    }

pub returns : goal.returns
returns c = let us = c.args.units.now in let bs = c.args.marks.now in let ps = c.args.found.now in
    let all : usages (parts us bs) ≡ flat_map (λ p. part_usages (held.part p)) ps = ap usages (sym c.requires.parts) ∙ flat_mapped part_usages held.part ps in
    subst (AllByRecursion (IsKnown us bs)) (flat_all (λ p. part_usages (held.part p)) ps c.loop-part.part-index c.loop-part-test.false ∙ sym all) c.loop-part.invariant.known

pub facts_of-requires : goal.facts_of-requires
facts_of-requires c = marks_length c.args.units.now [] c.args.units.now c.args.marks.now c.requires.marked

pub judge_part-requires-clause-placed : goal.judge_part-requires-clause-placed
judge_part-requires-clause-placed c = let us = c.args.units.now in let bs = c.args.marks.now in let ps = c.args.found.now in let i = c.loop-part.part-index in let x = c.part-item.result in
    let found : map seen.usage c.deref.result.now ≡ part_usages (held.part x) = ap (map seen.usage) c.deref.ensures.value ∙ (c.in_ok-push_part.ensures ∙ ap (λ z. map seen.usage z ++ part_usages (held.part x)) c.new-usages.ensures.items) in
    subst (ArePlaced us) (sym found) (placed_part us bs held.part ps i x c.requires.marked c.requires.parts c.loop-part-test.true c.part-item.is)
