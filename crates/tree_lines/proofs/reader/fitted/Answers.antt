use Rattle.tree_lines.proofs.reader.fitted.Goals as goal

pub returns-in-Eval : goal.returns-in-Eval
returns-in-Eval c = rw c.in-Eval.is (c.eval.ensures c.args.scope.now c.args.names.now)
