use Rattle.std.proofs.Common.{◌≡◌, ◌∙◌, refl, ap, sym, rules, arith, List, [], ◌∷◌, length}
use Rattle.domain_store.specs.Boxes.{State, narrow_first}
use Rattle.domain_store.proofs.BoxLaws.{narrow_is, put_is}
use Rattle.domain_store.proofs.boxes.Boxes.narrow.Goals as goal

length_0 : {A : Type 0} (xs : List A) → length xs ≡ 0 → xs ≡ []
length_0 [] e = refl
length_0 (x ∷ xs) e = absurd (omega arith)

pub returns-then-is_empty-clause-narrowed : goal.returns-then-is_empty-clause-narrowed
returns-then-is_empty-clause-narrowed c =
    let count : length c.self.inside.changes.items ≡ 0 = search rules in
    let none : c.self.inside.changes.items ≡ [] = length_0 c.self.inside.changes.items count in
    put_is (record { exact = c.order_is_total.ensures.exact; reflexive = c.order_is_total.ensures.reflexive }) c.made_slot.new.self c.put.new.self c.args.place c.args.bound.now
    c.in_ok-slot.slot c.args.domain c.in_ok-slot.ensures.slot (sym (ap (λ (s : State). s.changes) c.self.view_is) ∙ none) c.put.ensures
    ∙ ap (narrow_first c.args.place c.args.bound.now c.args.domain) c.in_ok-slot.ensures.same.stores

pub returns-clause-narrowed : goal.returns-clause-narrowed
returns-clause-narrowed c =
    narrow_is (record { exact = c.order_is_total.ensures.exact; reflexive = c.order_is_total.ensures.reflexive }) c.made_slot.new.self c.change.new.self c.args.place c.args.bound.now
    c.in_ok-slot.slot c.args.domain c.in_ok-slot.ensures.slot c.in_ok-change.ensures
    ∙ ap (narrow_first c.args.place c.args.bound.now c.args.domain) c.in_ok-slot.ensures.same.stores
