-- Laws of the marks of units.
use Rattle.std.proofs.Common.{◌≡◌, ◌++◌, ◌∷◌, [], Bool, List, length, refl, arith}
use Rattle.eb_syntax.specs.declared.units.EbUnit.{EbUnit}
use Rattle.eb_scoping.specs.Models.{AreMarkedBehind}

pub marks_length : (us before vs : List EbUnit) (bs : List Bool) → AreMarkedBehind us before vs bs → length bs ≡ length vs
marks_length us before [] [] m = refl
marks_length us before [] (b ∷ bs) m = absurd m
marks_length us before (v ∷ vs) [] m = absurd m
marks_length us before (v ∷ vs) (b ∷ bs) m = let e = marks_length us (before ++ v ∷ []) vs bs m.2 in omega (arith, e)
