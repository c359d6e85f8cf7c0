use Rattle.std.proofs.Common.{◌≡◌, take}
use Rattle.std.specs.Prelude.{fold}
use Rattle.eb_typing.specs.steps.Generating as spec
use Rattle.eb_typing.proofs.generated.Generated.fit_all.Given as goal

abbrev pub invariant-loop-found : goal.invariant-loop-found
invariant-loop-found l = l.self ≡ fold (λ h f. spec.fit l.letters l.pattern f h) l.initial.self (take l.found-index l.parts)
