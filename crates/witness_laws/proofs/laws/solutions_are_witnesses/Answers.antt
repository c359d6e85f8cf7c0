use Rattle.witness_laws.proofs.Hypotheses.{Laws}
use Rattle.witness_laws.proofs.Lowered.{solution_is_witness, witness_is_solution}
use Rattle.witness_laws.proofs.laws.solutions_are_witnesses.Goals as goal

pub returns : goal.returns
returns c =
    let laws : Laws = record {
      ascending = c.values_are_ascending.ensures;
      complete = c.values_are_complete.ensures;
      own = c.facts_over_values_have_their_own_truth.ensures.values;
      narrowed = c.narrow_form_keeps_the_meaning.ensures.truth;
      lowered = c.lowered_terms_are_typed.ensures.typed;
      fitting = c.lowered_terms_are_typed.ensures.fits;
    } in
    record {
      witnesses = λ scope low high m types typed values h. solution_is_witness laws scope (record { low = low; high = high }) m types typed values h;
      solutions = λ scope low high m types typed values h. witness_is_solution laws scope (record { low = low; high = high }) m types typed values h;
    }
