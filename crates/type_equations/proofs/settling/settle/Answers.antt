use Rattle.std.proofs.Common.{◌≡◌, rules}
use Rattle.type_equations.specs.declared.marks.Mark.TheVariants.{Fresh}
use Rattle.type_equations.specs.steps.Settling.{mark_at}
use Rattle.type_equations.proofs.SettleLaws.{starts_fresh, starts_known}
use Rattle.type_equations.proofs.DepthLaws.{deep_first}
use Rattle.type_equations.proofs.settling.settle.Goals as goal
use Rattle.type_equations.proofs.settling.settle.Goals.{then-eq+in_ok-push, else-eq}

pub loop-last-init : goal.loop-last-init
loop-last-init c =
    elim c.if-eq.branch [
      | then-eq+in_ok-push w ↦
          (let fresh : mark_at c.args.marks.now c.args.number ≡ Fresh = search rules in
          record {
            settling = search (rules, starts_fresh c.args.store.now c.args.marks.now c.args.path.now.items c.args.number c.requires.way c.requires.idle c.requires.there fresh);
            deep = search (rules, deep_first c.args.store.now c.args.marks.now c.args.depths.now c.args.path.now.items c.args.number c.requires.way c.requires.there c.requires.deep);
          })
      | else-eq w ↦
          (let known : mark_at c.args.marks.now c.args.number ≡ Fresh → ⊥ = search rules in
          record {
            settling = search (rules, starts_known c.args.store.now c.args.marks.now c.args.path.now.items c.args.number c.requires.way known);
            deep = search (rules, c.requires.deep);
          })
    ]
