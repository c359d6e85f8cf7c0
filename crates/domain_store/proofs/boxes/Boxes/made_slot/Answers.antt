use Rattle.std.proofs.Common.{◌≡◌, sym, subst, refl, Some, None}
use Rattle.domain_store.specs.Slots.{slot_of}
use Rattle.domain_store.specs.Places.{place_number}
use Rattle.domain_store.proofs.BoxLaws.{Sound, has_slot, same_boxes, new_slot}
use Rattle.domain_store.proofs.KeyLaws.{free_key}
use Rattle.domain_store.proofs.boxes.Boxes.made_slot.Goals as goal

pub returns-in-Some-clause-slot : goal.returns-in-Some-clause-slot
returns-in-Some-clause-slot c =
    has_slot (record { exact = c.order_is_total.ensures.exact; reflexive = c.order_is_total.ensures.reflexive }) c.args.self.now c.args.place c.args.bound.now c.in-Some.slot
    (subst Sound c.self.view_is c.self.invariant) (sym c.in-Some.ensures)

pub returns-clause-slot : goal.returns-clause-slot
returns-clause-slot c =
    let number : place_number c.args.self.now.problem c.args.place ≡ Some c.in-Some-number.number = sym c.in-Some-number.ensures in
    let none : slot_of c.args.self.now.problem c.args.self.now.keys c.args.place c.args.bound.now ≡ None = sym c.in_default.ensures in
    new_slot (record { exact = c.order_is_total.ensures.exact; reflexive = c.order_is_total.ensures.reflexive }) c.args.self.now c.add.new.self c.args.place c.in-Some-number.number
    c.args.bound.now _ c.in_ok-slot-in-Some-number.slot (subst Sound c.self.view_is c.self.invariant) number refl refl none
    c.in_ok-slot-in-Some-number.ensures.slot c.in_ok-slot-in-Some-number.ensures.added

pub returns-clause-same : goal.returns-clause-same
returns-clause-same c = same_boxes c.args.self.now c.add.new.self _ (subst Sound c.self.view_is c.self.invariant) c.in_ok-slot-in-Some-number.ensures.added

pub add-requires : goal.add-requires
add-requires c =
    let number : place_number c.args.self.now.problem c.args.place ≡ Some c.in-Some-number.number = sym c.in-Some-number.ensures in
    let none : slot_of c.args.self.now.problem c.args.self.now.keys c.args.place c.args.bound.now ≡ None = sym c.in_default.ensures in
    free_key c.args.self.now.problem c.args.self.now.keys c.args.place c.in-Some-number.number c.args.bound.now number none
