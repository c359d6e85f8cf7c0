use Rattle.std.proofs.Common.{◌∙◌, ap, length}
use Rattle.problem_nodes.specs.Places.{definition_roots}
use Rattle.problem_nodes.proofs.LengthLaws.{starts-length, within}
use Rattle.problem_nodes.proofs.nodes.Nodes.definition_root.Goals as goal

pub at-requires : goal.at-requires
at-requires c =
    let p = c.args.self.now in
    within c.deref.result.now (definition_roots p) c.args.place (length p.definitions) (c.deref.ensures.value ∙ c.self.invariant.1 ∙ ap definition_roots c.self.view_is) (starts-length 0 p.definitions) c.requires
