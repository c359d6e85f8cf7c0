use Rattle.std.proofs.Common.{rules, ◌≡◌, take, drop, Some, sym, ◌∙◌, ap₂}
use Rattle.tree_checker.proofs.Cuts.{cut_here, tail_is}
use Rattle.tree_checker.proofs.text.first_line.Goals as goal

pub returns-then-n-text : goal.returns-then-n-text
returns-then-n-text c =
    let front : c.split_at.result.0.now ≡ take c.line_length-n.result c.args.text.now = search rules in
    let back : c.split_at.result.1.now ≡ drop c.line_length-n.result c.args.text.now = search rules in
    ap₂ (λ x y. Some (x, y)) front (tail_is c.args.text.now c.split_at.result.1.now c.line_length-n.result back)
    ∙ sym (cut_here c.args.text.now c.line_length-n.result c.line_length-n.ensures c.if-n-text.true)
