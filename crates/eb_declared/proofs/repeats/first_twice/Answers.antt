use Rattle.std.proofs.Common.{◌≡◌, ◌∙◌, ◌||◌, ℕ, List, true, false, map, take, drop, ◌+◌, sym, subst, bytes_eq}
use Rattle.eb_scoping.specs.Sets.{has_text}
use Rattle.eb_declared.specs.steps.Keys.{HasFront}
use Rattle.eb_declared.proofs.KeyLaws.{front_more}
use Rattle.eb_declared.proofs.RepeatLaws.{parts_at, taken_more}
use Rattle.eb_declared.proofs.repeats.first_twice.Goals as goal

pub returns-then-has_name : goal.returns-then-has_name
returns-then-has_name c = let xs = c.args.names.now in let i = c.loop-name.name-index in let x = c.name-item.result in (
  map (λ x. x.now) (take i xs),
  map (λ x. x.now) (drop (i + 1) xs),
  parts_at (λ x. x.now) xs i x c.loop-name-test.true c.name-item.is,
  c.loop-name.invariant.had x.now (subst (λ z. has_text c.loop-name.front z ≡ true) c.as_str-text.ensures (sym c.has_name.ensures ∙ c.if-has_name.true)),
  c.loop-name.invariant.apart,
)

pub loop-name-preserved : goal.loop-name-preserved
loop-name-preserved c = let xs = c.args.names.now in let i = c.loop-name.name-index in let x = c.name-item.result in let front = c.loop-name.front in
    subst (λ z. HasFront c.insert_name.new.names z) (sym (taken_more (λ x. x.now) xs i x c.loop-name-test.true c.name-item.is))
    (front_more front c.insert_name.new.names (map (λ x. x.now) (take i xs)) x.now c.loop-name.invariant
    (subst (λ z. (q : List ℕ) → has_text c.insert_name.new.names q ≡ (bytes_eq z q || has_text front q)) c.as_str-text.ensures c.in_ok-insert_name.ensures)
    (subst (λ z. has_text front z ≡ false) c.as_str-text.ensures (sym c.has_name.ensures ∙ c.if-has_name.false)))
