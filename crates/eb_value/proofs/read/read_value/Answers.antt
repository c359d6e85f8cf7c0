use Rattle.std.proofs.Common.{◌≡◌, ◌<◌, ◌^◌, ◌∙◌, true, Some, None, sym, subst}
use Rattle.std.specs.Prelude.{All}
use Rattle.eb_value.specs.Texts.{value_text}
use Rattle.eb_value.specs.Typing.{has_type}
use Rattle.eb_value.proofs.PairLaws.{same_some}
use Rattle.eb_value.proofs.ReadingLaws.{complete, sound, given_ok, given_form}
use Rattle.eb_value.proofs.read.read_value.Goals as goal

pub returns-clause-read : goal.returns-clause-read
returns-clause-read c = given_ok c.whole_value.result _ (λ v. c.args.text.now ≡ value_text c.args.names.now v) c.whole_value.ensures.gives
    (λ v e. (sound c.args.names.now c.args.scope.now c.args.ty.now c.args.text.now v e).0)

pub returns-clause-typed : goal.returns-clause-typed
returns-clause-typed c = given_ok c.whole_value.result _ (λ v. has_type c.args.scope.now v c.args.ty.now ≡ true) c.whole_value.ensures.gives
    (λ v e. (sound c.args.names.now c.args.scope.now c.args.ty.now c.args.text.now v e).1)

pub returns-clause-only : goal.returns-clause-only
returns-clause-only c =
    let fit : All (λ size. size < 2 ^ 32) c.args.scope.now.sizes = subst (All (λ size. size < 2 ^ 32)) c.as_slice.ensures c.whole_value.ensures.fit in
    given_ok c.whole_value.result _ _ c.whole_value.ensures.gives
    (λ v e w h k. same_some w v (sym (complete c.args.names.now c.args.scope.now c.requires fit c.args.ty.now w c.args.text.now h k) ∙ e))

pub returns-clause-form : goal.returns-clause-form
returns-clause-form c =
    let fit : All (λ size. size < 2 ^ 32) c.args.scope.now.sizes = subst (All (λ size. size < 2 ^ 32)) c.as_slice.ensures c.whole_value.ensures.fit in
    λ e w h k.
    let none : None ≡ Some w = sym (given_form c.whole_value.result _ c.whole_value.ensures.gives e) ∙ complete c.args.names.now c.args.scope.now c.requires fit c.args.ty.now w c.args.text.now h k in
    cc
