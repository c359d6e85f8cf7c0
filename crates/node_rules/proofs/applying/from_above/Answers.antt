use Rattle.std.proofs.Common.{◌∙◌, sym, ap}
use Rattle.occ_domains.specs.Domains as domains
use Rattle.node_rules.specs.Narrowing as spec
use Rattle.node_rules.proofs.applying.from_above.Goals as goal

pub returns : goal.returns
returns g c =
    let p = c.args.nodes.now in
    let at = g.V.View.domains c.args.view.now in
    c.in_ok-d.ensures.equals
    ∙ ap (domains.meet c.args.now.now) (c.in_ok-given.ensures ∙ ap (spec.given_down p at c.args.k c.args.bound.now) (sym ((c.nodes_have_their_places.ensures.above p c.args.k c.above-above.result).0 c.above-above.ensures)))
