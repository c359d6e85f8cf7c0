use Rattle.std.proofs.Common.{◌≡◌, ◌∙◌, map, rules, sym}
use Rattle.eb_scoping.specs.FreeNames.{seen}
use Rattle.eb_scoping.specs.steps.FreeByParts.{free_by_parts}
use Rattle.eb_scoping.proofs.FreeReadLaws.{free_of_parts}
use Rattle.eb_scoping.proofs.uses.free_uses.Goals as goal

pub returns : goal.returns
returns c = let e : map seen c.push_free.new.out.items ≡ free_by_parts c.args.ast.now = search rules in e ∙ sym (free_of_parts c.args.ast.now)
