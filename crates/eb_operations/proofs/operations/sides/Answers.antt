use Rattle.std.proofs.Common.{◌≡◌, subst, arith}
use Rattle.std.specs.List.{filter_map}
use Rattle.std.proofs.lemmas.Grind.{common_steps}
use Rattle.eb_operations.specs.Operations as spec
use Rattle.eb_value.specs.Canonical.{AreCanonical}
use Rattle.eb_operations.proofs.CanonicalMaps.{sides}
use Rattle.eb_operations.proofs.CanonicalLists.{item_is_canonical}
use Rattle.eb_operations.proofs.operations.sides.Goals as goal

pub part_of-requires : goal.part_of-requires
part_of-requires c = item_is_canonical _ _ _ c.requires c.loop-value-test.true c.value-item.is

pub returns-clause-canonical : goal.returns-clause-canonical
returns-clause-canonical c =
    let all : filter_map (spec.part_of c.args.side) c.args.values.now ≡ c.loop-value.sides.items = grind (arith, common_steps) in
    subst AreCanonical all (sides c.canonical_values_have_canonical_parts.ensures.maplet c.args.side c.args.values.now c.requires)
