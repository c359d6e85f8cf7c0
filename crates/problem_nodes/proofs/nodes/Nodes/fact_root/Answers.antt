use Rattle.std.proofs.Common.{◌∙◌, ap, length}
use Rattle.std.specs.List.{flat_map}
use Rattle.eb_term.specs.Nodes.{subterms}
use Rattle.problem_nodes.specs.Places.{fact_roots}
use Rattle.problem_nodes.proofs.LengthLaws.{starts-length, within}
use Rattle.problem_nodes.proofs.nodes.Nodes.fact_root.Goals as goal

pub at-requires : goal.at-requires
at-requires c =
    let p = c.args.self.now in
    within c.deref.result.now (fact_roots p) c.args.place (length p.facts) (c.deref.ensures.value ∙ c.self.invariant.2 ∙ ap fact_roots c.self.view_is) (starts-length (length (flat_map subterms p.definitions)) p.facts) c.requires
