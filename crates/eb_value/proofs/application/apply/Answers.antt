use Rattle.std.proofs.Common.{◌∙◌, ap}
use Rattle.eb_value.specs.steps.Joins.{applied}
use Rattle.eb_value.specs.Relations as spec
use Rattle.eb_value.proofs.FunctionLaws.{applied_none, applied_some, applied_is, none_behind, some_behind}
use Rattle.eb_value.proofs.application.apply.Goals as goal

pub returns-clause-none : goal.returns-clause-none
returns-clause-none c =
    none_behind c.applied.result _ (applied_none c.args.f.now c.args.x.now _ c.requires (c.applied.ensures ∙ ap (λ f. applied f c.args.x.now) c.as_slice.ensures))

pub returns-clause-some : goal.returns-clause-some
returns-clause-some c =
    some_behind c.applied.result (λ y. spec.Relates c.args.f.now c.args.x.now y) (applied_some c.args.f.now c.args.x.now _ c.requires (c.applied.ensures ∙ ap (λ f. applied f c.args.x.now) c.as_slice.ensures))

pub returns-clause-equals : goal.returns-clause-equals
returns-clause-equals c = c.applied.ensures ∙ ap (λ f. applied f c.args.x.now) c.as_slice.ensures ∙ applied_is c.args.f.now c.args.x.now c.requires
