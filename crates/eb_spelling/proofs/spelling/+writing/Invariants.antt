use Rattle.std.proofs.Common.{◌≡◌, ◌++◌, ◌∷◌, take}
use Rattle.std.specs.List.{flat_map}
use Rattle.eb_signs.specs.declared.sign.Sign.TheVariants as signs
use Rattle.eb_spelling.specs.Spelling.{sign, kinds_of}
use Rattle.eb_spelling.proofs.spelling.+writing.Given as goal

abbrev pub invariant-row-loop-member : goal.invariant-row-loop-member
invariant-row-loop-member l = l.out ≡ l.initial.out ++ flat_map (λ a. sign signs.Comma ∷ kinds_of a) (take l.member-index l.others)
