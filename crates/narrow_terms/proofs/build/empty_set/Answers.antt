use Rattle.std.proofs.Common.{refl}
use Rattle.eb_value.specs.Canonical.{family, none}
use Rattle.narrow_terms.proofs.build.empty_set.Goals as goal

pub literal-requires : goal.literal-requires
literal-requires c = rw (c.set.ensures, c.new.ensures) (family refl none)
