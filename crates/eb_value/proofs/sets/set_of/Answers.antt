use Rattle.eb_value.specs.Comprehensions as set
use Rattle.eb_value.proofs.ComprehensionLaws.{one_set, set_of_is}
use Rattle.std.proofs.Common.{rules, ◌≡◌, subst, sym, ◌∙◌}
use Rattle.std.specs.List.{Contains}
use Rattle.std.specs.Ordering.{is_lt, eq_by_cmp}
use Rattle.std.proofs.lemmas.List.Sorted.{answers_always, ranks_by}
use Rattle.std.proofs.lemmas.Fn.{dedup_same}
use Rattle.eb_value.specs.Values.{compare}
use Rattle.eb_value.specs.Sets.{IsSetOf}
use Rattle.eb_value.proofs.OrderLaws.{compare_total}
use Rattle.eb_value.proofs.SetLaws.{sorted_set}
use Rattle.eb_value.proofs.sets.set_of.Goals as goal

pub returns-clause-is_set : goal.returns-clause-is_set
returns-clause-is_set c =
    let sorted = c.sort_unstable_by.ensures.sorted (λ v w. is_lt (compare v w)) (ranks_by compare_total (λ v. v)) (answers_always _ (λ a r. is_lt r ≡ is_lt (compare a.0.now a.1.0.now)) _ (λ f a r q k. search rules)) in
    let kept = dedup_same _ (eq_by_cmp compare) _ (λ v w b f' v' w' k. search rules) _ _ c.dedup_by.ensures.filtered in
    subst (IsSetOf (Contains c.args.values.items)) (sym (c.from_vec.ensures ∙ kept)) (sorted_set c.args.values.items c.sort_unstable_by.new.self.items c.sort_unstable_by.ensures.permutation sorted)

pub returns-clause-equals : goal.returns-clause-equals
returns-clause-equals c = one_set (Contains c.args.values.items) c.from_vec.result (set.set_of c.args.values.items) (returns-clause-is_set c) (set_of_is c.args.values.items)
