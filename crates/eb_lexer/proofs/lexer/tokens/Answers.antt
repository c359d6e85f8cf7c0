use Rattle.std.proofs.Common.{◌∙◌, sym, ap, arith, inl, Ok}
use Rattle.eb_lexer.specs.steps.Lexing.{seen}
use Rattle.eb_lexer.specs.Tokens as spec
use Rattle.eb_lexer.proofs.TextLaws.{gap_moves, token_moves, is_whole, is_bad, one_reading, no_bad_place}
use Rattle.eb_lexer.proofs.lexer.tokens.Goals as goal

pub returns-in-End-clause-tokens : goal.returns-in-End-clause-tokens
returns-in-End-clause-tokens c = is_whole c.loop-tokens.tokens c.loop-tokens.at c.args.text.now c.loop-tokens.rest.now c.loop-tokens.invariant.utf8 c.loop-tokens.invariant.so_far (sym c.in_ok-front.ensures ∙ ap seen c.in-End.is)

pub returns-in-End-clause-complete : goal.returns-in-End-clause-complete
returns-in-End-clause-complete c =
    let here : spec.IsTokens c.loop-tokens.tokens c.args.text.now = is_whole c.loop-tokens.tokens c.loop-tokens.at c.args.text.now c.loop-tokens.rest.now c.loop-tokens.invariant.utf8 c.loop-tokens.invariant.so_far (sym c.in_ok-front.ensures ∙ ap seen c.in-End.is) in
    λ ts h. inl (ap (λ z. Ok z) (one_reading c.loop-tokens.tokens ts c.args.text.now here h))

pub returns-in-Bad-clause-cause : goal.returns-in-Bad-clause-cause
returns-in-Bad-clause-cause c = is_bad c.loop-tokens.tokens c.loop-tokens.at c.args.text.now c.loop-tokens.rest.now c.loop-tokens.invariant.utf8 c.loop-tokens.invariant.so_far (sym c.in_ok-front.ensures ∙ ap seen c.in-Bad.is)

pub returns-in-Bad-clause-complete : goal.returns-in-Bad-clause-complete
returns-in-Bad-clause-complete c =
    let here : spec.IsBadAt c.loop-tokens.at c.args.text.now = is_bad c.loop-tokens.tokens c.loop-tokens.at c.args.text.now c.loop-tokens.rest.now c.loop-tokens.invariant.utf8 c.loop-tokens.invariant.so_far (sym c.in_ok-front.ensures ∙ ap seen c.in-Bad.is) in
    λ ts h. absurd (no_bad_place ts c.loop-tokens.at c.args.text.now h here)

pub split_at-requires : goal.split_at-requires
split_at-requires c = (gap_moves c.loop-tokens.tokens c.loop-tokens.at c.in-Gap.len c.args.text.now c.loop-tokens.rest.now c.in_ok-front.field-0 c.loop-tokens.invariant.utf8 c.loop-tokens.invariant.so_far c.in_ok-front.ensures c.in-Gap.is).within

pub size-at-requires : goal.size-at-requires
size-at-requires c =
    let m = gap_moves c.loop-tokens.tokens c.loop-tokens.at c.in-Gap.len c.args.text.now c.loop-tokens.rest.now c.in_ok-front.field-0 c.loop-tokens.invariant.utf8 c.loop-tokens.invariant.so_far c.in_ok-front.ensures c.in-Gap.is in
    omega (arith, ap spec.size c.split_at.ensures.front, m.bound, c.requires)

pub overflow_add-at : goal.overflow_add-at
overflow_add-at c =
    let m = gap_moves c.loop-tokens.tokens c.loop-tokens.at c.in-Gap.len c.args.text.now c.loop-tokens.rest.now c.in_ok-front.field-0 c.loop-tokens.invariant.utf8 c.loop-tokens.invariant.so_far c.in_ok-front.ensures c.in-Gap.is in
    omega (arith, ap spec.size c.split_at.ensures.front, m.bound, c.requires, c.size-at.ensures)

pub loop-tokens-smaller-in-Gap : goal.loop-tokens-smaller-in-Gap
loop-tokens-smaller-in-Gap c =
    let m = gap_moves c.loop-tokens.tokens c.loop-tokens.at c.in-Gap.len c.args.text.now c.loop-tokens.rest.now c.in_ok-front.field-0 c.loop-tokens.invariant.utf8 c.loop-tokens.invariant.so_far c.in_ok-front.ensures c.in-Gap.is in
    omega (arith, c.split_at.ensures.back_len, m.some, m.within)

pub loop-tokens-preserved-in-Gap : goal.loop-tokens-preserved-in-Gap
loop-tokens-preserved-in-Gap c =
    let m = gap_moves c.loop-tokens.tokens c.loop-tokens.at c.in-Gap.len c.args.text.now c.loop-tokens.rest.now c.in_ok-front.field-0 c.loop-tokens.invariant.utf8 c.loop-tokens.invariant.so_far c.in_ok-front.ensures c.in-Gap.is in
    record { utf8 = c.loop-tokens.invariant.utf8; so_far = rw (c.size-at.ensures, c.split_at.ensures.front, c.split_at.ensures.back) m.read }

pub split_at-requires-in-Found : goal.split_at-requires-in-Found
split_at-requires-in-Found c = (token_moves c.loop-tokens.tokens c.loop-tokens.at c.in-Found.len c.in-Found.kind c.args.text.now c.loop-tokens.rest.now c.in_ok-front.field-0 c.loop-tokens.invariant.utf8 c.loop-tokens.invariant.so_far c.in_ok-front.ensures c.in-Found.is).within

pub size-at-requires-in-Found : goal.size-at-requires-in-Found
size-at-requires-in-Found c =
    let m = token_moves c.loop-tokens.tokens c.loop-tokens.at c.in-Found.len c.in-Found.kind c.args.text.now c.loop-tokens.rest.now c.in_ok-front.field-0 c.loop-tokens.invariant.utf8 c.loop-tokens.invariant.so_far c.in_ok-front.ensures c.in-Found.is in
    omega (arith, ap spec.size c.split_at-in-Found.ensures.front, m.bound, c.requires)

pub overflow_add-at-in-Found : goal.overflow_add-at-in-Found
overflow_add-at-in-Found c =
    let m = token_moves c.loop-tokens.tokens c.loop-tokens.at c.in-Found.len c.in-Found.kind c.args.text.now c.loop-tokens.rest.now c.in_ok-front.field-0 c.loop-tokens.invariant.utf8 c.loop-tokens.invariant.so_far c.in_ok-front.ensures c.in-Found.is in
    omega (arith, ap spec.size c.split_at-in-Found.ensures.front, m.bound, c.requires, c.size-at-in-Found.ensures)

pub loop-tokens-smaller : goal.loop-tokens-smaller
loop-tokens-smaller c =
    let m = token_moves c.loop-tokens.tokens c.loop-tokens.at c.in-Found.len c.in-Found.kind c.args.text.now c.loop-tokens.rest.now c.in_ok-front.field-0 c.loop-tokens.invariant.utf8 c.loop-tokens.invariant.so_far c.in_ok-front.ensures c.in-Found.is in
    omega (arith, c.split_at-in-Found.ensures.back_len, m.some, m.within)

pub loop-tokens-preserved : goal.loop-tokens-preserved
loop-tokens-preserved c =
    let m = token_moves c.loop-tokens.tokens c.loop-tokens.at c.in-Found.len c.in-Found.kind c.args.text.now c.loop-tokens.rest.now c.in_ok-front.field-0 c.loop-tokens.invariant.utf8 c.loop-tokens.invariant.so_far c.in_ok-front.ensures c.in-Found.is in
    record { utf8 = c.loop-tokens.invariant.utf8; so_far = rw (c.in_ok-push-in-Found.ensures.ok, c.size-at-in-Found.ensures, c.split_at-in-Found.ensures.front, c.split_at-in-Found.ensures.back) m.read }
