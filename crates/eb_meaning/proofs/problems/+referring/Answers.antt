use Rattle.std.proofs.Common.{rules, ◌∙◌, sym}
use Rattle.eb_meaning.proofs.Referring.{many_refer, over_refer}
use Rattle.eb_meaning.proofs.problems.+referring.Goals as goal

pub names_undefined-returns-in-Many : goal.names_undefined-returns-in-Many
names_undefined-returns-in-Many t c = c.one_names_undefined.ensures ∙ rw c.as_slice.ensures (sym (many_refer c.args.slots.now c.args.term.now _ _ c.in-Many.is))

pub names_undefined-returns-then-names_undefined-2 : goal.names_undefined-returns-then-names_undefined-2
names_undefined-returns-then-names_undefined-2 t c =
    let e = over_refer c.args.slots.now c.args.term.now _ _ _ c.in-Over.is in
    search (rules, e)

pub names_undefined-returns-else-names_undefined-2 : goal.names_undefined-returns-else-names_undefined-2
names_undefined-returns-else-names_undefined-2 t c =
    let e = over_refer c.args.slots.now c.args.term.now _ _ _ c.in-Over.is in
    search (rules, e)
