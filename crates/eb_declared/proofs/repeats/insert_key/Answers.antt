use Rattle.std.proofs.Common.{◌∙◌, true, cond, ap}
use Rattle.eb_declared.specs.steps.Keys.{has, key_at, same_key}
use Rattle.eb_declared.proofs.KeyLaws.{cond_or, eq_key}
use Rattle.eb_declared.proofs.repeats.insert_key.Goals as goal

pub returns : goal.returns
returns c = λ k o n. let a = c.args.key in let old = has c.args.keys.now k o n in
    c.in_ok-insert.ensures.updates.0 (key_at k o n)
    ∙ (ap (λ z. cond z true old) (eq_key a.kind k a.owner.now o a.name.now n) ∙ cond_or (same_key a k o n) old)
