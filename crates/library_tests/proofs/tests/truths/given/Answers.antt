use Rattle.eb_value.specs.Canonical as canonical
use Rattle.library_tests.proofs.tests.truths.given.Goals as goal

pub slots_of-requires : goal.slots_of-requires
slots_of-requires c = rw (c.as_slice.ensures, c.in_ok-push.ensures.ok, c.new-values.ensures, c.integer.ensures)
    (canonical.more (canonical.integer _) canonical.none)
