use Rattle.std.proofs.Common.{◌≡◌, Some, arith}
use Rattle.std.proofs.lemmas.Grind.{common_steps}
use Rattle.eb_operations.specs.Operations as spec
use Rattle.eb_operations.proofs.CanonicalLists.{member_is_canonical}
use Rattle.eb_operations.proofs.operations.greatest.Goals as goal

pub returns-in_ok-copied-in-Some-clause-canonical : goal.returns-in_ok-copied-in-Some-clause-canonical
returns-in_ok-copied-in-Some-clause-canonical c =
    let e : spec.last_of c.args.s.now ≡ Some c.in_ok-copied-in-Some.field-0 = grind (arith, common_steps) in
    member_is_canonical _ _ _ c.requires e
