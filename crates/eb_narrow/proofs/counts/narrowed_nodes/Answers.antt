use Rattle.std.proofs.Common.{◌∙◌, sym, ap}
use Rattle.eb_narrow.specs.steps.Counting.{cap, nodes}
use Rattle.eb_narrow.proofs.Capped.{is_capped}
use Rattle.eb_narrow.proofs.Counted.{is_counted}
use Rattle.eb_narrow.proofs.counts.narrowed_nodes.Goals as goal

pub returns : goal.returns
unfolding cap nodes
returns c = ap (λ x. x.term) c.counts_of.ensures ∙ ((is_capped c.args.term.now).term ∙ ap cap (sym ((is_counted c.args.term.now).term 0)))
