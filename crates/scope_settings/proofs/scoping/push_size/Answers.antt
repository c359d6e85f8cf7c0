use Rattle.std.proofs.Common.{◌≤ℤ◌, pos, map, arith}
use Rattle.std.proofs.lemmas.Int.{ints, to_z-of_z}
use Rattle.scope_settings.proofs.LimitLaws.{sizes_are_small}
use Rattle.scope_settings.proofs.scoping.push_size.Goals as goal

pub natural-requires : goal.natural-requires
natural-requires c =
    let small : c.size-atoms.result ≤ℤ pos 16 = rw c.size-atoms.ensures (sizes_are_small c.as_str.result.now (map (λ s. s.now) c.args.settings.now) c.requires) in
    grind (arith, ints, to_z-of_z)
