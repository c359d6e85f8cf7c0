use Rattle.std.proofs.Common.{◌≡◌, ◌∷◌, ◌++◌, take}
use Rattle.std.specs.List.{flat_map}
use Rattle.eb_value.specs.Texts as spec
use Rattle.eb_value.proofs.text.+writing.Given as goal

abbrev pub invariant-write_members-loop-member : goal.invariant-write_members-loop-member
invariant-write_members-loop-member l = l.text.items ≡ l.initial.text.items ++ flat_map (λ v. 44 ∷ spec.value_text l.names v) (take l.member-index l.others)
