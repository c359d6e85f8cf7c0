use Rattle.std.proofs.Common.{◌≡◌, ◌∙◌, ap, sym, map}
use Rattle.eb_resolved.specs.Formulas as made
use Rattle.eb_resolved.specs.Resolving.{all, each, resolved}
use Rattle.eb_resolved.proofs.EachLaws.{of_members, not_empty}
use Rattle.eb_resolved.proofs.resolving.+resolving.Goals as goal

pub resolve-returns-in_ok-members-in-Extension-clause-found : goal.resolve-returns-in_ok-members-in-Extension-clause-found
resolve-returns-in_ok-members-in-Extension-clause-found t c =
    let e = of_members c.args.scope.now.entries c.args.ast.now c.args.names.now c.in-Extension.members c.in-Extension.is
    (not_empty c.is_empty.result c.in-Extension.members c.if-is_empty.false c.is_empty.ensures.1) in
    let ms = c.in_ok-members-in-Extension.ensures.found ∙ ap (λ z. (each (map (resolved c.args.scope.now.entries) z) c.args.names.now).0) c.as_slice-in-Extension.ensures in
    ap (made.extension c.args.ast.now.place) ms ∙ ap (λ z. z.0) (sym e)

pub resolve-returns-in_ok-members-in-Extension-clause-names : goal.resolve-returns-in_ok-members-in-Extension-clause-names
resolve-returns-in_ok-members-in-Extension-clause-names t c =
    let e = of_members c.args.scope.now.entries c.args.ast.now c.args.names.now c.in-Extension.members c.in-Extension.is
    (not_empty c.is_empty.result c.in-Extension.members c.if-is_empty.false c.is_empty.ensures.1) in
    c.in_ok-members-in-Extension.ensures.names ∙ ap (λ z. (each (map (resolved c.args.scope.now.entries) z) c.args.names.now).1) c.as_slice-in-Extension.ensures ∙ ap (λ z. z.1) (sym e)
