use Rattle.std.proofs.Common.{◌≡◌, true, take}
use Rattle.std.specs.List.{list_all}
use Rattle.int_dom.specs.Intervals.{is_single}
use Rattle.occ_store.proofs.store.Store.loose.Given as goal

abbrev pub invariant-loop-choice : goal.invariant-loop-choice
invariant-loop-choice l = list_all is_single (take l.choice l.self) ≡ true
