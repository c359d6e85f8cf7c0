use Rattle.std.proofs.Common.{◌≡◌, ◌∙◌, ◌<◌, ◌+◌, ℕ, List, [], ◌∷◌, length, get_or, take, sym, ap}
use Rattle.std.proofs.lemmas.List.{take_more}
use Rattle.eb_term.specs.declared.term.Term.{Term}
use Rattle.narrow_terms.specs.Building.{conjunction}
use Rattle.eb_wd.specs.WellDefined as spec
use Rattle.eb_wd.proofs.WellDefinedAt.{and_values, and_append}
use Rattle.eb_wd.proofs.parts.and_each.Goals as goal

one_more : (first all next item : Term) (terms : List Term) (i : ℕ) → i < length terms → item ≡ get_or terms i item → all ≡ and_values first (take i terms) → next ≡ conjunction all (spec.is_defined item)
    → next ≡ and_values first (take (i + 1) terms)
one_more first all next item terms i l e h k =
    k ∙ ap (λ z. conjunction z (spec.is_defined item)) h ∙ ap (λ z. conjunction (and_values first (take i terms)) (spec.is_defined z)) e
    ∙ and_append first (take i terms) (get_or terms i item ∷ []) ∙ ap (and_values first) (sym (take_more terms i item l))

pub loop-term-preserved : goal.loop-term-preserved
loop-term-preserved c = one_more c.args.first c.loop-term.all c.in_ok-all.all c.term-item.result c.args.terms.now c.loop-term.term-index c.loop-term-test.true c.term-item.is c.loop-term.invariant c.in_ok-all.ensures
