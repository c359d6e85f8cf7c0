use Rattle.std.proofs.Common.{◌∙◌, ◌<◌, [], length, ap, refl, sym, subst}
use Rattle.std.proofs.lemmas.List.{get_or-map, length-map}
use Rattle.eb_scoping.proofs.WalkLaws.{goes_on}
use Rattle.eb_scoping.proofs.contexts.search.Goals as goal

pub loop-at-preserved : goal.loop-at-preserved
loop-at-preserved c = let us = c.args.units.now in let a = c.loop-at.walk in let n = c.loop-at.at in let x = c.index-name.result.now in
    let low : n < length a.queue.items = subst (λ z. n < z) (c.len.ensures ∙ a.queue.ok.0) c.if-at-len.false in
    record {
      done = refl;
      walk = λ first w. goes_on us first a c.expand.new.walk _ n x.now c.loop-at.invariant.done (subst (λ z. n < z) (sym (length-map a.queue.items (λ y. y.now))) low)
          (ap (λ z. z.now) c.index-name.ensures ∙ sym (get_or-map (λ z. z.now) a.queue.items n x [] low)) c.in_ok-expand.ensures refl refl refl (c.loop-at.invariant.walk first w);
    }
