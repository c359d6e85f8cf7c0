use Rattle.std.proofs.Common.{◌≡◌, ◌++◌, ◌&&◌, map, drop, option_map}
use Rattle.std.specs.List.{list_all}
use Rattle.eb_value.specs.Canonical.{AreCanonical}
use Rattle.eb_operations.specs.Operations as operations
use Rattle.eb_operations.specs.Tests as tests
use Rattle.eb_meaning.specs.Meaning as spec
use Rattle.eb_meaning.specs.Truths as truths
use Rattle.eb_meaning.proofs.evaluation.+evaluation.Given as goal

abbrev pub invariant-for_all_at-loop-value : goal.invariant-for_all_at-loop-value
invariant-for_all_at-loop-value l = (truths.for_all (map (λ v. (spec.meaning l.scope l.body).truth (spec.inside l.at v)) l.range)
    ≡ truths.both l.all (truths.for_all (map (λ v. (spec.meaning l.scope l.body).truth (spec.inside l.at v)) (drop l.value-index l.range)))) × (l.bound ≡ l.at.bound)

abbrev pub invariant-exists_at-loop-value : goal.invariant-exists_at-loop-value
invariant-exists_at-loop-value l = (truths.exists (map (λ v. (spec.meaning l.scope l.body).truth (spec.inside l.at v)) l.range)
    ≡ truths.either l.any (truths.exists (map (λ v. (spec.meaning l.scope l.body).truth (spec.inside l.at v)) (drop l.value-index l.range)))) × (l.bound ≡ l.at.bound)

abbrev pub invariant-instances-loop-value : goal.invariant-instances-loop-value
invariant-instances-loop-value l = (spec.all_values (map (λ v. (spec.meaning l.scope l.body).value (spec.inside l.at v)) l.range)
    ≡ option_map (λ vs. l.parts.items ++ vs) (spec.all_values (map (λ v. (spec.meaning l.scope l.body).value (spec.inside l.at v)) (drop l.value-index l.range))))
    × AreCanonical l.parts.items × (l.bound ≡ l.at.bound)

abbrev pub invariant-values_at-loop-part : goal.invariant-values_at-loop-part
invariant-values_at-loop-part l = (spec.all_values (map (λ m. m.value l.at) (map (spec.meaning l.scope) l.parts))
    ≡ option_map (λ vs. l.values.items ++ vs) (spec.all_values (map (λ m. m.value l.at) (map (spec.meaning l.scope) (drop l.part-index l.parts)))))
    × AreCanonical l.values.items

abbrev pub invariant-side_covered-loop-relation : goal.invariant-side_covered-loop-relation
invariant-side_covered-loop-relation l = list_all (λ v. spec.covers (tests.is_whole l.side l.arrow) l.at (spec.meaning l.scope l.form) (operations.set_of_side l.side v)) l.range
    ≡ list_all (λ v. spec.covers (tests.is_whole l.side l.arrow) l.at (spec.meaning l.scope l.form) (operations.set_of_side l.side v)) (drop l.relation-index l.range)

abbrev pub invariant-powers_at-loop-value : goal.invariant-powers_at-loop-value
invariant-powers_at-loop-value l = list_all (λ v. tests.is_power l.without_empty v && spec.is_within l.at (spec.meaning l.scope l.part) v) l.range
    ≡ list_all (λ v. tests.is_power l.without_empty v && spec.is_within l.at (spec.meaning l.scope l.part) v) (drop l.value-index l.range)
