use Rattle.std.proofs.Common.{rules, ◌≡◌, Some, None, ap, slice_get}
use Rattle.int_dom.specs.Intervals as interval
use Rattle.occ_store.specs.Places.{passes}
use Rattle.occ_store.specs.steps.Parts.{both}
use Rattle.occ_store.proofs.Parts.{both_parts}
use Rattle.occ_store.proofs.store.Store.parts.Goals as goal

pub returns-in-Some : goal.returns-in-Some
returns-in-Some c =
    let at : slice_get c.args.self.now c.args.choice ≡ Some c.in-Some.domain = search rules in
    let parts : c.both_parts.result ≡ both (interval.filled (interval.at_most c.args.n c.in-Some.domain)) (interval.filled (interval.above c.args.n c.in-Some.domain)) = search rules in
    both_parts c.args.self.now c.args.choice c.args.n c.in-Some.domain c.both_parts.result at parts

pub returns-in-None : goal.returns-in-None
returns-in-None c =
    let none : slice_get c.args.self.now c.args.choice ≡ None = search rules in
    ap (passes (interval.has_parts c.args.n)) none
