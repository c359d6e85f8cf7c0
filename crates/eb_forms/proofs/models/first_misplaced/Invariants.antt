use Rattle.std.proofs.Common.{◌≡◌, drop}
use Rattle.eb_forms.specs.Forms as spec
use Rattle.eb_forms.proofs.models.first_misplaced.Given as goal

abbrev pub invariant-loop-part : goal.invariant-loop-part
invariant-loop-part l = spec.first_in (spec.in_part l.types) l.model.parts ≡ spec.first_in (spec.in_part l.types) (drop l.part-index l.model.parts)
