use Rattle.std.proofs.Common.{rules}
use Rattle.type_equations.specs.steps.Merging.{Gives, merge}
use Rattle.type_equations.specs.Stores.{entry_at}
use Rattle.type_equations.proofs.MergeSteps.{binds}
use Rattle.type_equations.proofs.merging.bind.Goals as goal

pub returns : goal.returns
returns c =
    let gives : Gives (merge (entry_at c.root-root.new.self c.root-root.result) c.args.entry) c.in_ok-entry.entry c.args.pairs.now.items c.merged.new.pairs.items = search rules in
    search (rules, binds c.args.store.now c.root-root.new.self c.args.pairs.now.items c.merged.new.pairs.items c.args.number c.root-root.result c.args.entry c.in_ok-entry.entry c.root-root.ensures.same c.root-root.ensures.leads c.root-root.ensures.root c.requires.below c.requires.number c.requires.entry c.requires.shape gives)
