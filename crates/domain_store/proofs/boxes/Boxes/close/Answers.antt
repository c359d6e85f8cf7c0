use Rattle.std.proofs.Common.{◌≡◌, ◌∙◌, [], ◌∷◌, ◌++◌}
use Rattle.domain_store.proofs.BoxLaws.{front_sound, passed_is}
use Rattle.domain_store.proofs.boxes.Boxes.close.Goals as goal

pub loop-change-preserved : goal.loop-change-preserved
loop-change-preserved c =
    let e : c.loop-change.self-inside.changes.items ≡ c.pop.new.self.items ++ c.in-Some.change ∷ [] = c.in-Some.ensures.items in
    record {
      sound = rw c.make.ensures (front_sound c.loop-change.self-inside.firsts.problem c.loop-change.self-inside.slots c.loop-change.self-inside.cells.items c.loop-change.self-inside.changes.items
          c.pop.new.self.items c.in-Some.change c.loop-change.invariant.sound e);
      scope = c.loop-change.invariant.scope;
      problem = c.loop-change.invariant.problem;
      stores = c.loop-change.invariant.stores ∙ rw c.make.ensures (passed_is c.loop-change.self-inside.firsts.scope c.loop-change.self-inside.firsts.problem c.loop-change.self-inside.slots
          c.loop-change.self-inside.is_closed c.loop-change.self-inside.cells.items c.loop-change.self-inside.changes.items c.pop.new.self.items c.in-Some.change e c.if-is_box.false);
    }
