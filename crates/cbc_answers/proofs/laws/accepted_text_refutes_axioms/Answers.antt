use Rattle.cbc_answers.specs.Answers.{problem_of}
use Rattle.cbc_answers.proofs.Found.{low_of, high_of}
use Rattle.cbc_answers.proofs.laws.accepted_text_refutes_axioms.Goals as goal

pub returns : goal.returns
returns c = λ accepted values witness.
    c.accepted_text_refutes.ensures c.args.asked.now.scope (problem_of c.args.asked.now) c.args.text.now accepted values
    (c.solutions_are_witnesses.ensures.solutions c.args.asked.now.scope (low_of c.args.asked.now c.requires) (high_of c.args.asked.now c.requires) c.args.asked.now.model c.args.asked.now.types c.requires.typed values witness)
