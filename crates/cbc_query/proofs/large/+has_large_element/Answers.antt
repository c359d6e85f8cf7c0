use Rattle.std.proofs.Common.{◌∙◌, ◌||◌, sym, ap, ap₂}
use Rattle.std.specs.List.{list_any}
use Rattle.cbc_query.specs.Limits.{has_many, element_types}
use Rattle.cbc_query.proofs.Elements.{power_elements}
use Rattle.cbc_query.proofs.large.+has_large_element.Goals as goal

pub returns-in-Power : goal.returns-in-Power
returns-in-Power t c =
    let p = has_many c.args.scope.now in
    c.either.ensures
    ∙ (ap₂ (λ x y. x || y) (c.has_many-is_large.ensures ∙ ap p c.get-member.ensures) (c.has_large_element-has_large.ensures ∙ ap (λ z. list_any p (element_types z)) c.get-member.ensures)
    ∙ sym (ap (list_any p) (power_elements c.args.ty.now c.in-Power.member c.in-Power.is)))
