use Rattle.std.proofs.Common.{rules, arith, length, get_or, subst, sym}
use Rattle.std.proofs.lemmas.List.{get_or_default}
use Rattle.type_equations.specs.declared.equation.Equation.{Equation}
use Rattle.type_equations.specs.declared.equation.Equation.TheVariants.{Same}
use Rattle.type_equations.specs.Equations.{IsBelow, Holds, HaveNone}
use Rattle.type_equations.specs.Faults.{OnFault}
use Rattle.type_equations.specs.steps.Merging.{Refutes, Differ}
use Rattle.type_equations.proofs.Faulting.{refused}
use Rattle.type_equations.proofs.UnifyLaws.{Turn, turn_more, turn_refuted, turn_differs, below_at}
use Rattle.type_equations.proofs.merging.add_all.Goals as goal

pub add-requires-clause-there : goal.add-requires-clause-there
add-requires-clause-there c =
    let e : Equation = get_or c.args.equations.now c.loop-equation.equation-index (Same 0 0) in
    subst (λ n. IsBelow n e) (sym c.loop-equation.invariant.0.count) (below_at (length c.args.store.now) c.loop-equation.equation-index c.args.equations.now (Same 0 0) (omega arith) c.requires.below)

pub returns-in_err-add : goal.returns-in_err-add
returns-in_err-add c =
    let e : Equation = get_or c.args.equations.now c.loop-equation.equation-index (Same 0 0) in
    let turn : Turn (length c.args.store.now) c.loop-equation.equation-index c.args.equations.now e c.loop-equation.store c.loop-equation.pairs.items = record {
      says = c.loop-equation.invariant.0;
      idle = c.loop-equation.invariant.1;
      less = omega arith;
      item = get_or_default c.args.equations.now c.loop-equation.equation-index (Same 0 0) e (omega arith);
    } in
    let told : OnFault c.in_err-add.field-0.0 (HaveNone c.args.equations.now) ⊥ = refused c.in_err-add.field-0.0 (Refutes (λ σ. Holds σ e) c.loop-equation.store c.loop-equation.pairs.items) (HaveNone c.args.equations.now) ⊥ (turn_refuted (length c.args.store.now) c.loop-equation.equation-index c.args.equations.now e c.loop-equation.store c.loop-equation.pairs.items turn) c.in_err-add.ensures in
    search (rules, told)

pub returns-in_err-unify : goal.returns-in_err-unify
returns-in_err-unify c =
    let e : Equation = get_or c.args.equations.now c.loop-equation.equation-index (Same 0 0) in
    let turn : Turn (length c.args.store.now) c.loop-equation.equation-index c.args.equations.now e c.loop-equation.store c.loop-equation.pairs.items = record {
      says = c.loop-equation.invariant.0;
      idle = c.loop-equation.invariant.1;
      less = omega arith;
      item = get_or_default c.args.equations.now c.loop-equation.equation-index (Same 0 0) e (omega arith);
    } in
    let told : OnFault c.in_err-unify.field-0.0 (HaveNone c.args.equations.now) ⊥ = refused c.in_err-unify.field-0.0 (Differ c.add.new.store c.add.new.pairs.items) (HaveNone c.args.equations.now) ⊥ (turn_differs (length c.args.store.now) c.loop-equation.equation-index c.args.equations.now e c.loop-equation.store c.add.new.store c.loop-equation.pairs.items c.add.new.pairs.items turn c.in_ok-add.ensures) c.in_err-unify.ensures in
    search (rules, told)

pub loop-equation-preserved : goal.loop-equation-preserved
loop-equation-preserved c =
    let e : Equation = get_or c.args.equations.now c.loop-equation.equation-index (Same 0 0) in
    let turn : Turn (length c.args.store.now) c.loop-equation.equation-index c.args.equations.now e c.loop-equation.store c.loop-equation.pairs.items = record {
      says = c.loop-equation.invariant.0;
      idle = c.loop-equation.invariant.1;
      less = omega arith;
      item = get_or_default c.args.equations.now c.loop-equation.equation-index (Same 0 0) e (omega arith);
    } in
    turn_more (length c.args.store.now) c.loop-equation.equation-index c.args.equations.now e c.loop-equation.store c.add.new.store c.unify.new.store c.loop-equation.pairs.items c.add.new.pairs.items c.unify.new.pairs.items turn c.in_ok-add.ensures c.in_ok-unify.ensures
