use Rattle.std.proofs.Common.{rules, ◌≡◌, Some, false, nat_eq, subst}
use Rattle.std.specs.Cmp.Lexicographic.{pointwise}
use Rattle.eb_value.specs.steps.Reading.{value_at}
use Rattle.eb_value.specs.Texts.{value_text}
use Rattle.eb_value.proofs.ReadingSteps.{not_printed}
use Rattle.eb_value.proofs.read.whole_value.Goals as goal

pub returns-then-ne-clause-gives : goal.returns-then-ne-clause-gives
returns-then-ne-clause-gives c =
    let read : value_at c.args.names.now c.args.scope.now.sizes c.args.ty.now c.args.text.now ≡ Some (c.in_ok-value.value, c.in_ok-value.rest.now) =
    subst (λ sizes. value_at c.args.names.now sizes c.args.ty.now c.args.text.now ≡ Some (c.in_ok-value.value, c.in_ok-value.rest.now)) c.requires c.in_ok-value.ensures in
    let differs : pointwise nat_eq (value_text c.args.names.now c.in_ok-value.value) c.args.text.now ≡ false = search rules in
    not_printed c.args.names.now c.args.scope.now c.args.ty.now c.args.text.now c.in_ok-value.value c.in_ok-value.rest.now read differs
