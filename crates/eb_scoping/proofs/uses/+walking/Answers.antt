use Rattle.std.proofs.Common.{◌≡◌, ◌∙◌, ◌++◌, List, map, ap, sym, subst, rules}
use Rattle.std.specs.List.{flat_map}
use Rattle.eb_resolved.specs.Unknown.{Use}
use Rattle.eb_scoping.specs.FreeNames.{names_of, bound_names, seen}
use Rattle.eb_scoping.specs.steps.FreeByParts.{free_by_parts, unbound, plain_names}
use Rattle.eb_scoping.proofs.UseLaws.{bound_free}
use Rattle.eb_scoping.proofs.FreeLaws.{free_quantifier, free_binder, free_comprehension, free_builder, free_extension, free_partition}
use Rattle.std.specs.Result.{OnOk}
use Rattle.std.specs.declared.result.Result.{Result}
use Rattle.eb_scoping.proofs.uses.+walking.Goals as goal

pub push_free-returns-in_ok-push_free-in-Quantifier : goal.push_free-returns-in_ok-push_free-in-Quantifier
push_free-returns-in_ok-push_free-in-Quantifier t c =
    let e : free_by_parts c.args.ast.now ≡ unbound (names_of c.in-Quantifier.bound) (free_by_parts c.in-Quantifier.part) = free_quantifier c.args.ast.now c.in-Quantifier.field-0 c.in-Quantifier.bound c.in-Quantifier.part c.in-Quantifier.is in
    let ns : map (λ x. x.now) c.deref.result.now ≡ names_of c.in-Quantifier.bound = search rules in
    let us : map seen c.deref-in-Quantifier.result.now ≡ free_by_parts c.in-Quantifier.part = search rules in
    bound_free c.push_unbound.result (map seen c.push_unbound.new.out.items) (map seen c.args.out.now.items) (map (λ x. x.now) c.deref.result.now) (names_of c.in-Quantifier.bound) (map seen c.deref-in-Quantifier.result.now) (free_by_parts c.in-Quantifier.part) (free_by_parts c.args.ast.now) c.push_unbound.ensures ns us e

pub push_free-returns-in_ok-push_free-in-Binder-2 : goal.push_free-returns-in_ok-push_free-in-Binder-2
push_free-returns-in_ok-push_free-in-Binder-2 t c =
    let all = free_by_parts c.in-Binder.condition ++ free_by_parts c.in-Binder.value in
    let e : free_by_parts c.args.ast.now ≡ unbound (bound_names c.in-Binder.bound) all = free_binder c.args.ast.now c.in-Binder.field-0 c.in-Binder.bound c.in-Binder.condition c.in-Binder.value c.in-Binder.is in
    let ns : map (λ x. x.now) c.deref-in-Binder.result.now ≡ bound_names c.in-Binder.bound = search rules in
    let us : map seen c.deref-in-Binder-2.result.now ≡ all = search rules in
    bound_free c.push_unbound-in-Binder.result (map seen c.push_unbound-in-Binder.new.out.items) (map seen c.args.out.now.items) (map (λ x. x.now) c.deref-in-Binder.result.now) (bound_names c.in-Binder.bound) (map seen c.deref-in-Binder-2.result.now) all (free_by_parts c.args.ast.now) c.push_unbound-in-Binder.ensures ns us e

pub push_free-returns-in_ok-push_free-in-Comprehension-2 : goal.push_free-returns-in_ok-push_free-in-Comprehension-2
push_free-returns-in_ok-push_free-in-Comprehension-2 t c =
    let all = free_by_parts c.in-Comprehension.condition ++ free_by_parts c.in-Comprehension.value in
    let e : free_by_parts c.args.ast.now ≡ unbound (names_of c.in-Comprehension.bound) all = free_comprehension c.args.ast.now c.in-Comprehension.bound c.in-Comprehension.condition c.in-Comprehension.value c.in-Comprehension.is in
    let ns : map (λ x. x.now) c.deref-in-Comprehension.result.now ≡ names_of c.in-Comprehension.bound = search rules in
    let us : map seen c.deref-in-Comprehension-2.result.now ≡ all = search rules in
    bound_free c.push_unbound-in-Comprehension.result (map seen c.push_unbound-in-Comprehension.new.out.items) (map seen c.args.out.now.items) (map (λ x. x.now) c.deref-in-Comprehension.result.now) (names_of c.in-Comprehension.bound) (map seen c.deref-in-Comprehension-2.result.now) all (free_by_parts c.args.ast.now) c.push_unbound-in-Comprehension.ensures ns us e

pub push_free-returns-in_ok-push_free-in-Builder-2 : goal.push_free-returns-in_ok-push_free-in-Builder-2
push_free-returns-in_ok-push_free-in-Builder-2 t c =
    let all = free_by_parts c.in-Builder.value ++ free_by_parts c.in-Builder.condition in
    let e : free_by_parts c.args.ast.now ≡ unbound (plain_names (free_by_parts c.in-Builder.value)) all = free_builder c.args.ast.now c.in-Builder.value c.in-Builder.condition c.in-Builder.is in
    let part : map seen c.deref-in-Builder.result.now ≡ free_by_parts c.in-Builder.value = search rules in
    let ns : map (λ x. x.now) c.deref-in-Builder-2.result.now ≡ plain_names (free_by_parts c.in-Builder.value)
    = ap (λ z. map (λ x. x.now) z) c.deref-in-Builder-2.ensures.value ∙ (c.in_ok-names-in-Builder.ensures ∙ ap plain_names part) in
    let us : map seen c.deref-in-Builder-3.result.now ≡ all = search rules in
    bound_free c.push_unbound-in-Builder.result (map seen c.push_unbound-in-Builder.new.out.items) (map seen c.args.out.now.items) (map (λ x. x.now) c.deref-in-Builder-2.result.now) (plain_names (free_by_parts c.in-Builder.value)) (map seen c.deref-in-Builder-3.result.now) all (free_by_parts c.args.ast.now) c.push_unbound-in-Builder.ensures ns us e

row_free : {T E : Type 0} (r : Result T E) (new old us all rest : List Use) → OnOk r (new ≡ old ++ us) → us ≡ rest → all ≡ rest → OnOk r (new ≡ old ++ all)
row_free r new old us all rest h u a = subst (λ z. OnOk r (new ≡ old ++ z)) (u ∙ sym a) h

pub push_free-returns-in-Extension : goal.push_free-returns-in-Extension
push_free-returns-in-Extension t c = row_free c.push_row.result (map seen c.push_row.new.out.items) (map seen c.args.out.now.items) (flat_map free_by_parts c.as_slice-in-Extension.result.now) (free_by_parts c.args.ast.now) (flat_map free_by_parts c.in-Extension.members) c.push_row.ensures
    (ap (flat_map free_by_parts) c.as_slice-in-Extension.ensures) (free_extension c.args.ast.now c.in-Extension.members c.in-Extension.is)

pub push_free-returns-in-Partition : goal.push_free-returns-in-Partition
push_free-returns-in-Partition t c = row_free c.push_row-in-Partition.result (map seen c.push_row-in-Partition.new.out.items) (map seen c.args.out.now.items) (flat_map free_by_parts c.as_slice-in-Partition.result.now) (free_by_parts c.args.ast.now) (flat_map free_by_parts c.in-Partition.members) c.push_row-in-Partition.ensures
    (ap (flat_map free_by_parts) c.as_slice-in-Partition.ensures) (free_partition c.args.ast.now c.in-Partition.members c.in-Partition.is)
