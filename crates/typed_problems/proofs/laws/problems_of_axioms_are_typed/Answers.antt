use Rattle.typed_problems.proofs.Hypotheses.{Laws}
use Rattle.typed_problems.proofs.Facts.{problem_typed}
use Rattle.typed_problems.proofs.laws.problems_of_axioms_are_typed.Goals as goal

pub returns : goal.returns
returns c =
    let formulas = c.formulas_of_models_have_typed_terms.ensures in
    let narrow = c.narrow_terms_are_typed.ensures in
    let laws : Laws = record {
      ascending = c.values_are_ascending.ensures;
      carriers = formulas.carriers;
      typed = formulas.typed;
      fitting = formulas.fits;
      referring = formulas.references;
      narrow_typed = narrow.typed;
      narrow_fits = narrow.fits;
      narrow_refers = narrow.references;
    } in
    problem_typed laws
