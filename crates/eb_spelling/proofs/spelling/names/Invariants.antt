use Rattle.std.proofs.Common.{◌≡◌, ◌++◌, [], ◌∷◌, take}
use Rattle.std.specs.List.{flat_map}
use Rattle.eb_lexer.specs.declared.token.TokenKind.TheVariants as kind
use Rattle.eb_signs.specs.declared.sign.Sign.TheVariants as signs
use Rattle.eb_spelling.specs.Spelling.{sign}
use Rattle.eb_spelling.proofs.spelling.names.Given as goal

abbrev pub invariant-loop-name : goal.invariant-loop-name
invariant-loop-name l = l.out ≡ l.initial.out ++ flat_map (λ y. sign signs.Comma ∷ kind.Word y.name ∷ []) (take l.name-index l.others)
