use Rattle.std.proofs.Common.{◌≡◌, sym, ap, rules}
use Rattle.eb_term.specs.declared.operators.Many.TheVariants as many
use Rattle.eb_narrow.specs.steps.Counting.{cap, capped, by_many, each_term}
use Rattle.eb_narrow.proofs.Capped.{of_zero, term_next, part_next, many_head}
use Rattle.eb_narrow.proofs.counts.+counting.Goals as goal

pub all_nodes-loop-term-preserved : goal.all_nodes-loop-term-preserved
unfolding cap
all_nodes-loop-term-preserved t c =
    let h = c.loop-term.invariant in
    let e = c.saturating_add-all.ensures in
    let f = c.counts_of.ensures in
    let i = c.term-item.is in
    let n = term_next c.args.terms.now c.loop-term.term-index c.term-item.result c.loop-term-test.true in
    cc

pub all_nodes-loop-term-init : goal.all_nodes-loop-term-init
all_nodes-loop-term-init t c = sym of_zero

pub counts_of-returns-in-Extension : goal.counts_of-returns-in-Extension
counts_of-returns-in-Extension t c =
    let e = many_head c.args.term.now c.in-Many.many c.in-Many.parts c.in-Many.is in
    let is : by_many capped c.in-Many.many (each_term capped c.in-Many.parts) ≡ by_many capped many.Extension (each_term capped c.in-Many.parts) = ap (λ o. by_many capped o (each_term capped c.in-Many.parts)) c.in-Extension.is in
    search (rules, e, is)

pub counts_of-returns-in-Partition : goal.counts_of-returns-in-Partition
counts_of-returns-in-Partition t c =
    let e = many_head c.args.term.now c.in-Many.many c.in-Many.parts c.in-Many.is in
    let is : by_many capped c.in-Many.many (each_term capped c.in-Many.parts) ≡ by_many capped many.Partition (each_term capped c.in-Many.parts) = ap (λ o. by_many capped o (each_term capped c.in-Many.parts)) c.in-Partition.is in
    search (rules, e, is)

pub partition-loop-term-preserved : goal.partition-loop-term-preserved
partition-loop-term-preserved t c =
    let h = c.loop-term.invariant in
    let e = c.and-parts.ensures in
    let f = c.counts_of.ensures in
    let i = c.term-item.is in
    let n = part_next c.loop-term.parts c.args.terms.now c.loop-term.term-index c.term-item.result c.loop-term-test.true in
    cc
