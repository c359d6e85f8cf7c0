use Rattle.std.proofs.Common.{◌≡◌, ◌++◌, ◌∷◌, [], rules}
use Rattle.type_equations.proofs.UnifyLaws.{is_last, goes_on, differs}
use Rattle.type_equations.proofs.merging.unify.Goals as goal

pub join-requires-clause-below : goal.join-requires-clause-below
join-requires-clause-below c =
    let at : c.loop-first.pairs.items ≡ c.pop.new.self.items ++ ((c.in-Some.first, c.in-Some.second) ∷ []) = search rules in
    let last = is_last c.args.store.now c.loop-first.store c.args.pairs.now.items c.loop-first.pairs.items c.pop.new.self.items c.in-Some.first c.in-Some.second c.loop-first.invariant at in
    last.below

pub join-requires-clause-first : goal.join-requires-clause-first
join-requires-clause-first c =
    let at : c.loop-first.pairs.items ≡ c.pop.new.self.items ++ ((c.in-Some.first, c.in-Some.second) ∷ []) = search rules in
    let last = is_last c.args.store.now c.loop-first.store c.args.pairs.now.items c.loop-first.pairs.items c.pop.new.self.items c.in-Some.first c.in-Some.second c.loop-first.invariant at in
    last.first

pub join-requires-clause-second : goal.join-requires-clause-second
join-requires-clause-second c =
    let at : c.loop-first.pairs.items ≡ c.pop.new.self.items ++ ((c.in-Some.first, c.in-Some.second) ∷ []) = search rules in
    let last = is_last c.args.store.now c.loop-first.store c.args.pairs.now.items c.loop-first.pairs.items c.pop.new.self.items c.in-Some.first c.in-Some.second c.loop-first.invariant at in
    last.second

pub loop-first-preserved : goal.loop-first-preserved
loop-first-preserved c =
    let at : c.loop-first.pairs.items ≡ c.pop.new.self.items ++ ((c.in-Some.first, c.in-Some.second) ∷ []) = search rules in
    let last = is_last c.args.store.now c.loop-first.store c.args.pairs.now.items c.loop-first.pairs.items c.pop.new.self.items c.in-Some.first c.in-Some.second c.loop-first.invariant at in
    goes_on c.args.store.now c.loop-first.store c.join.new.store c.args.pairs.now.items c.pop.new.self.items c.join.new.pairs.items c.in-Some.first c.in-Some.second last c.in_ok-join.ensures

pub returns-in_err-join : goal.returns-in_err-join
returns-in_err-join c =
    let at : c.loop-first.pairs.items ≡ c.pop.new.self.items ++ ((c.in-Some.first, c.in-Some.second) ∷ []) = search rules in
    let last = is_last c.args.store.now c.loop-first.store c.args.pairs.now.items c.loop-first.pairs.items c.pop.new.self.items c.in-Some.first c.in-Some.second c.loop-first.invariant at in
    search (rules, differs c.args.store.now c.loop-first.store c.args.pairs.now.items c.pop.new.self.items c.in-Some.first c.in-Some.second last)
