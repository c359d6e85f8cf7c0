use Rattle.std.proofs.Common.{◌≡◌, rules, slice_get, Some, None, refl, reverse}
use Rattle.occ_store.specs.Boxes.{HasChoice}
use Rattle.occ_store.specs.steps.Changes.{boxes_from}
use Rattle.occ_store.proofs.BoxLaws.{split, absent}
use Rattle.occ_store.proofs.boxes.Boxes.split.Goals as goal

pub returns-in_ok-extend_from_slice-clause-split : goal.returns-in_ok-extend_from_slice-clause-split
returns-in_ok-extend_from_slice-clause-split c =
    let at : slice_get c.self.inside.store c.args.choice ≡ Some c.in-Some.before = search rules in
    search (rules, split c.self.inside.is_closed c.self.inside.store c.args.choice c.args.low c.args.high c.in-Some.before _ _ c.self.inside.changes.items at refl refl)

pub returns-in_default : goal.returns-in_default
returns-in_default c = absurd (
    let at : slice_get c.self.inside.store c.args.choice ≡ None = search rules in
    let has : HasChoice (boxes_from c.self.inside.is_closed c.self.inside.store (reverse c.self.inside.changes.items)) c.args.choice = search (rules, c.requires.there) in
    absent c.self.inside.is_closed c.self.inside.store c.args.choice (reverse c.self.inside.changes.items) has at)
