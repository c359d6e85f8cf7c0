use Rattle.std.proofs.Common.{◌∙◌, ap, sym, length, slice_get}
use Rattle.eb_term.specs.Nodes.{nodes_of}
use Rattle.problem_nodes.specs.Aboves.{aboves_of}
use Rattle.problem_nodes.proofs.LengthLaws.{aboves-length, within}
use Rattle.problem_nodes.proofs.AboveLaws.{row_stands}
use Rattle.problem_nodes.proofs.nodes.Nodes.above.Goals as goal

pub above-requires : goal.above-requires
above-requires c =
    let p = c.args.self.now in
    let is = ap (λ l. l.aboves) c.self.invariant.0 ∙ ap aboves_of c.self.view_is in
    within c.self.inside.lists.aboves (aboves_of p) c.args.k (length (nodes_of p)) is (aboves-length p) c.requires

pub returns : goal.returns
returns c =
    let is = ap (λ l. l.aboves) c.self.invariant.0 ∙ ap aboves_of c.self.view_is in
    row_stands c.args.self.now c.args.k c.above.result (ap (λ rows. slice_get rows c.args.k) (sym is) ∙ c.above.ensures)
