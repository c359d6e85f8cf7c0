use Rattle.std.proofs.Common.{◌≡◌, ◌<◌, ◌^◌, ◌∙◌, Some, None, sym, subst}
use Rattle.std.specs.Prelude.{All}
use Rattle.eb_value.specs.Typing.{AreOfTypes}
use Rattle.eb_value.proofs.PairLaws.{same_some}
use Rattle.eb_value.proofs.ReadingLaws.{given_ok, given_form}
use Rattle.eb_value.proofs.RowLaws.{complete, sound}
use Rattle.eb_value.proofs.rows.read_values.Goals as goal

pub returns-clause-read : goal.returns-clause-read
returns-clause-read c = given_ok c.whole_row.result _ _ c.whole_row.ensures.gives
    (λ vs e. (sound c.args.names.now c.args.scope.now c.args.types.now c.args.text.now vs e).0)

pub returns-clause-typed : goal.returns-clause-typed
returns-clause-typed c = given_ok c.whole_row.result _ (λ vs. AreOfTypes c.args.scope.now vs c.args.types.now) c.whole_row.ensures.gives
    (λ vs e. (sound c.args.names.now c.args.scope.now c.args.types.now c.args.text.now vs e).1)

pub returns-clause-only : goal.returns-clause-only
returns-clause-only c =
    let fit : All (λ size. size < 2 ^ 32) c.args.scope.now.sizes = subst (All (λ size. size < 2 ^ 32)) c.as_slice.ensures c.whole_row.ensures.fit in
    given_ok c.whole_row.result _ _ c.whole_row.ensures.gives
    (λ vs e ws h k. same_some ws vs (sym (complete c.args.names.now c.args.scope.now c.requires fit c.args.types.now ws c.args.text.now h k) ∙ e))

pub returns-clause-form : goal.returns-clause-form
returns-clause-form c =
    let fit : All (λ size. size < 2 ^ 32) c.args.scope.now.sizes = subst (All (λ size. size < 2 ^ 32)) c.as_slice.ensures c.whole_row.ensures.fit in
    λ e ws h k.
    let none : None ≡ Some ws = sym (given_form c.whole_row.result _ c.whole_row.ensures.gives e) ∙ complete c.args.names.now c.args.scope.now c.requires fit c.args.types.now ws c.args.text.now h k in
    cc
