use Rattle.eb_value.specs.Comprehensions as set
use Rattle.eb_value.proofs.ComprehensionLaws.{one_set, compose_is}
use Rattle.std.proofs.Common.{◌≡◌, ◌++◌, sym, subst, rules, ◌∷◌, ◌↔◌, ◌⊎◌, []}
use Rattle.std.specs.List.{Contains}
use Rattle.std.proofs.lemmas.List.{nil_from_length}
use Rattle.eb_value.specs.declared.value.Value.{Value}
use Rattle.eb_value.specs.Relations
use Rattle.eb_value.proofs.ComposeLaws.{Composes, composes_none, composes_on, compose_set, runs_have_first, run_front}
use Rattle.eb_value.proofs.products.compose.Goals as goal

pub loop-value-init : goal.loop-value-init
loop-value-init c =
    let whole : c.as_slice-rest.result.now ≡ c.args.r.now = search rules in
    subst (λ rest. Composes c.args.r.now c.args.s.now c.new-all.result.items rest) (sym whole)
    (subst (λ all. Composes c.args.r.now c.args.s.now all c.args.r.now) (sym c.new-all.ensures.items) (composes_none c.args.r.now c.args.s.now))

pub push_composed-requires-clause-first : goal.push_composed-requires-clause-first
push_composed-requires-clause-first c =
    let whole : c.loop-value.rest.now ≡ c.in-Some.value.now ∷ c.in-Some.others.now = search rules in
    runs_have_first c.in-Some.value.now c.in-Some.others.now c.split_at.result.0.now c.run_length.result c.run_length.ensures
    (run_front c.loop-value.rest.now c.in-Some.others.now c.split_at.result.0.now c.in-Some.value.now c.run_length.result whole c.split_at.ensures.front)

pub loop-value-preserved : goal.loop-value-preserved
loop-value-preserved c =
    let split : c.split_at.result.0.now ++ c.split_at.result.1.now ≡ c.loop-value.rest.now = search rules in
    let relation : c.as_slice.result.now ≡ c.args.s.now = search rules in
    let added = subst (λ s. (v : Value) → Contains c.push_composed.new.all.items v ↔ (Contains c.loop-value.all.items v ⊎ Relations.InCompose c.split_at.result.0.now s v)) relation c.in_ok-push_composed.ensures in
    composes_on c.args.r.now c.args.s.now c.split_at.result.0.now c.split_at.result.1.now c.loop-value.rest.now c.loop-value.all.items c.push_composed.new.all.items split added c.loop-value.invariant

pub returns-clause-is_set : goal.returns-clause-is_set
returns-clause-is_set c =
    let end : c.loop-value.rest.now ≡ [] = nil_from_length c.loop-value.rest.now (search rules) in
    compose_set c.args.r.now c.args.s.now c.loop-value.all.items c.set_of.result (subst (Composes c.args.r.now c.args.s.now c.loop-value.all.items) end c.loop-value.invariant) c.set_of.ensures.is_set

pub returns-clause-equals : goal.returns-clause-equals
returns-clause-equals c = one_set (Relations.InCompose c.args.r.now c.args.s.now) c.set_of.result (set.compose c.args.r.now c.args.s.now) (returns-clause-is_set c) (compose_is c.args.r.now c.args.s.now)
