use Rattle.std.proofs.Common.{◌≡◌, ◌∙◌, ◌<◌, ◌≤◌, [], All, length, sym, subst, arith}
use Rattle.eb_scoping.specs.Groups.{group}
use Rattle.eb_scoping.proofs.IndexLaws.{group_inside, group_some, group_none}
use Rattle.eb_scoping.proofs.WalkLaws.{expands}
use Rattle.eb_scoping.proofs.contexts.expand.Goals as goal

pub reach_places-requires : goal.reach_places-requires
reach_places-requires c = let us = c.args.units.now in let m = c.args.groups.now in let q = c.args.name.now in
    let places : c.deref.result.now ≡ group m q = c.deref.ensures.value ∙ sym (group_some m q c.in-Some.places.now c.in-Some.ensures.value) in
    let le : length us ≤ length us = omega arith in
    subst (λ z. All (λ place. place < length us) z) (sym places) (group_inside us m c.requires (length us) le q)

pub returns-in-Some : goal.returns-in-Some
returns-in-Some c = let m = c.args.groups.now in let q = c.args.name.now in
    expands c.args.units.now m c.requires q c.deref.result.now (c.deref.ensures.value ∙ sym (group_some m q c.in-Some.places.now c.in-Some.ensures.value)) c.args.walk.now c.reach_places.new.walk c.reach_places.result c.reach_places.ensures

pub returns-in-None : goal.returns-in-None
returns-in-None c = let m = c.args.groups.now in let q = c.args.name.now in
    expands c.args.units.now m c.requires q [] (sym (group_none m q c.in-None.ensures.value)) c.args.walk.now c.reach_places-in-None.new.walk c.reach_places-in-None.result c.reach_places-in-None.ensures
