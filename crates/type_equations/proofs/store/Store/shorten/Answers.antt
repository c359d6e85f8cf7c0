use Rattle.std.proofs.Common.{◌≡◌, rules}
use Rattle.type_equations.specs.declared.store.Entry.TheVariants.{Link}
use Rattle.type_equations.specs.Stores.{entry_at}
use Rattle.type_equations.proofs.StoreLaws.{shortens}
use Rattle.type_equations.proofs.store.Store.shorten.Goals as goal

pub returns-in-Link : goal.returns-in-Link
returns-in-Link c =
    let then : entry_at c.args.self.now c.args.next ≡ Link c.in-Link.after = search rules in
    search (rules, shortens c.args.self.now c.args.number c.args.next c.in-Link.after c.requires.placed c.requires.link then)
