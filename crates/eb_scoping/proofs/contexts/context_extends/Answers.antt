use Rattle.std.proofs.Common.{◌≡◌, ◌∙◌, Contains, sym, subst}
use Rattle.eb_scoping.specs.Groups.{group}
use Rattle.eb_scoping.proofs.IndexLaws.{group_some, first_in}
use Rattle.eb_scoping.proofs.WalkLaws.{extends_at}
use Rattle.eb_scoping.proofs.contexts.context_extends.Goals as goal

pub unit_at-requires : goal.unit_at-requires
unit_at-requires c = let m = c.args.groups.now in let q = c.args.name.now in let p = c.in-Some-first.place.now in
    let places : c.deref.result.now ≡ group m q = c.deref.ensures.value ∙ sym (group_some m q c.in-Some.places.now c.in-Some.ensures.value) in
    (c.requires.sound q p (subst (λ z. Contains z p) places (first_in c.deref.result.now p c.in-Some-first.ensures.value))).inside

pub returns-in-Some-first : goal.returns-in-Some-first
returns-in-Some-first c = λ t. let m = c.args.groups.now in let q = c.args.name.now in let p = c.in-Some-first.place.now in
    let places : c.deref.result.now ≡ group m q = c.deref.ensures.value ∙ sym (group_some m q c.in-Some.places.now c.in-Some.ensures.value) in
    extends_at c.args.units.now m c.requires q c.args.extended.now p c.unit_at.result.now (subst (λ z. Contains z p) places (first_in c.deref.result.now p c.in-Some-first.ensures.value)) c.unit_at.ensures (sym c.unit_extends.ensures ∙ t)
