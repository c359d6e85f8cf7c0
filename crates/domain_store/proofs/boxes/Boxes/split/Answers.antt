use Rattle.std.proofs.Common.{◌∙◌, ap}
use Rattle.domain_store.specs.Boxes.{split_first}
use Rattle.domain_store.specs.steps.Kept.{with_change, box_at}
use Rattle.domain_store.proofs.BoxLaws.{split_is}
use Rattle.domain_store.proofs.boxes.Boxes.split.Goals as goal

pub returns-clause-split : goal.returns-clause-split
returns-clause-split c =
    split_is (record { exact = c.order_is_total.ensures.exact; reflexive = c.order_is_total.ensures.reflexive }) c.made_slot.new.self c.push_box.new.self c.args.place c.args.bound.now
    c.in_ok-slot.slot c.args.first c.args.second c.in_ok-slot.ensures.slot (c.in_ok-push_box.ensures ∙ ap (λ s. with_change s (box_at c.in_ok-slot.slot c.args.second)) c.in_ok-change.ensures)
    ∙ ap (split_first c.args.place c.args.bound.now c.args.first c.args.second) c.in_ok-slot.ensures.same.stores
