use Rattle.std.proofs.Common.{arith}
use Rattle.model_text.proofs.TextLaws.{few_tokens}
use Rattle.model_text.proofs.text.units_of.Goals as goal

pub units-requires : goal.units-requires
units-requires c =
    let few = few_tokens c.in_ok-tokens.tokens c.args.text.now (c.tokens_name_slices.ensures c.in_ok-tokens.tokens c.args.text.now c.in_ok-tokens.ensures.tokens) in
    let short = c.requires in
    omega arith
