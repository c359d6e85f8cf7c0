use Rattle.std.proofs.Common.{rules}
use Rattle.type_equations.specs.steps.Merging.{Gives, merge}
use Rattle.type_equations.specs.Stores.{entry_at}
use Rattle.type_equations.proofs.MergeSteps.{links}
use Rattle.type_equations.proofs.merging.link.Goals as goal

pub returns : goal.returns
returns c =
    let gives : Gives (merge (entry_at c.args.store.now c.args.lower) (entry_at c.args.store.now c.args.upper)) c.in_ok-entry.entry c.args.pairs.now.items c.merged.new.pairs.items = search rules in
    search (rules, links c.args.store.now c.args.pairs.now.items c.merged.new.pairs.items c.args.lower c.args.upper c.in_ok-entry.entry c.requires.placed c.requires.below c.requires.order c.requires.there c.requires.lower_root c.requires.upper_root gives)
