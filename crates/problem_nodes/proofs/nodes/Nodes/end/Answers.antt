use Rattle.std.proofs.Common.{◌∙◌, ap, sym, length, slice_get}
use Rattle.eb_term.specs.Nodes.{nodes_of}
use Rattle.problem_nodes.specs.steps.Lists.{ends_from}
use Rattle.problem_nodes.proofs.LengthLaws.{ends-length, within, ends_there}
use Rattle.problem_nodes.proofs.nodes.Nodes.end.Goals as goal

pub end-requires : goal.end-requires
end-requires c =
    let nodes = nodes_of c.args.self.now in
    let is = ap (λ l. l.ends) c.self.invariant.0 ∙ ap (λ q. ends_from 0 (nodes_of q)) c.self.view_is in
    within c.self.inside.lists.ends (ends_from 0 nodes) c.args.k (length nodes) is (ends-length 0 nodes) c.requires

pub returns : goal.returns
returns c =
    let is = ap (λ l. l.ends) c.self.invariant.0 ∙ ap (λ q. ends_from 0 (nodes_of q)) c.self.view_is in
    ends_there c.args.self.now c.args.k c.end.result (ap (λ ends. slice_get ends c.args.k) (sym is) ∙ c.end.ensures)
