use Rattle.std.proofs.Common.{◌≡◌, ◌∙◌, refl, sym, ap, ap₂, subst, ◌+◌, if◌then◌else◌, map, Some, None, IfOk}
use Rattle.eb_term.specs.declared.operators.Binder.TheVariants as binder
use Rattle.eb_term.specs.declared.operators.Side.TheVariants as side
use Rattle.eb_term.specs.Terms as term
use Rattle.eb_meaning.specs.Meaning.{is_total, is_surjective}
use Rattle.narrow_terms.specs.Shifting.{shift}
use Rattle.narrow_terms.specs.Building as built
use Rattle.narrow_terms.specs.Building.{operation, is_defined}
use Rattle.eb_narrow.specs.declared.kinds.BinaryKind.TheVariants as of
use Rattle.eb_narrow.specs.Narrow as narrow
use Rattle.eb_narrow.specs.Narrow.{narrowed}
use Rattle.term_types.specs.Types.{type_of}
use Rattle.eb_narrow.specs.steps.Kinds.{unary_kind, as_unary, asked, said, one_part, two_parts, beyond}
use Rattle.eb_narrow.specs.steps.Narrowing as step
use Rattle.eb_narrow.proofs.ByKinds.{kind_is}
use Rattle.eb_narrow.proofs.NarrowAt.{bound_over, bound_all}
use Rattle.eb_narrow.proofs.NarrowArms.{infinite_term, identity_term, projection_term, unary_term, form_term, beyond_term, other_is, many_term, leaf_term, union_is, first_type_is, nonempty_is, plain_unary, plain_union, plain_binary, plain_membership, plain_other, power_has, nonempty_has, arrow_has, product_has, interval_has, infinite_has, no_values, integers_are}
use Rattle.eb_narrow.proofs.NarrowKinds.{members_beside, members_are, all_beside, all_are, value_defined, part_defined, parts_defined}
use Rattle.eb_narrow.proofs.narrowing.+narrowing.Goals as goal

pub asked-returns-in-Has : goal.asked-returns-in-Has
asked-returns-in-Has t c = subst (λ z. IfOk c.has.result (λ o. o ≡ z)) (ap (λ q. asked q (narrowed c.args.form.now) c.args.depth c.args.e.now) (sym c.in-Has.is)) c.has.ensures

pub asked-returns-in-HasMembers : goal.asked-returns-in-HasMembers
asked-returns-in-HasMembers t c = subst (λ z. IfOk c.has_members.result (λ o. o ≡ z)) (ap (λ q. asked q (narrowed c.args.form.now) c.args.depth c.args.e.now) (sym c.in-HasMembers.is)) c.has_members.ensures

pub asked-returns-in-HasMore : goal.asked-returns-in-HasMore
asked-returns-in-HasMore t c = subst (λ z. IfOk c.has_more.result (λ o. o ≡ z)) (ap (λ q. asked q (narrowed c.args.form.now) c.args.depth c.args.e.now) (sym c.in-HasMore.is)) c.has_more.ensures

pub beside-returns : goal.beside-returns
beside-returns t c = subst (λ z. IfOk c.operation.result (λ o. o ≡ z)) (ap₂ (λ e s. operation c.args.operator e s) c.in_ok-e.ensures c.in_ok-set.ensures) c.operation.ensures

pub body_at-returns : goal.body_at-returns
body_at-returns t c = subst (λ z. IfOk c.turned.result (λ o. o ≡ z)) (ap (step.turned c.args.binder) (c.in_ok-body.ensures ∙ ap (λ k. (narrowed c.args.body.now).term k) c.in_ok-depth.ensures)) c.turned.ensures

pub covers-returns-then-is_whole : goal.covers-returns-then-is_whole
covers-returns-then-is_whole t c = subst (λ z. IfOk c.is_all.result (λ o. o ≡ z)) (ap (λ s. (narrowed c.args.form.now).is_all c.args.depth c.args.by s) c.in_ok-set.ensures ∙ ap (λ b. narrow.covers b (narrowed c.args.form.now) c.args.depth c.args.by (step.side_of c.args.side c.args.e.now)) (sym c.if-is_whole.true ∙ c.is_whole.ensures)) c.is_all.ensures

pub covers-returns : goal.covers-returns
covers-returns t c = subst (λ z. IfOk c.has_members.result (λ o. o ≡ z)) (ap (λ s. (narrowed c.args.form.now).has_members c.args.depth c.args.by s) c.in_ok-set.ensures ∙ ap (λ b. narrow.covers b (narrowed c.args.form.now) c.args.depth c.args.by (step.side_of c.args.side c.args.e.now)) (sym c.if-is_whole.false ∙ c.is_whole.ensures)) c.has_members.ensures

pub defined-returns-then-not-is_form : goal.defined-returns-then-not-is_form
defined-returns-then-not-is_form t c = ap (λ p. Some p) (c.in_ok-joined.ensures ∙ ap (step.joined c.args.before) (c.in_ok-is_defined.ensures ∙ ap is_defined c.in_ok-value.ensures)) ∙ value_defined c.args.form.now c.args.depth c.args.by c.args.before (sym c.is_form.ensures ∙ c.if-not-is_form.true)

pub defined-returns-in-Unary : goal.defined-returns-in-Unary
defined-returns-in-Unary t c = subst (λ z. IfOk c.defined.result (λ o. o ≡ z)) (ap (λ a. step.joined_on c.args.before (step.defined_values (narrowed a) c.args.depth c.args.by)) c.get.ensures ∙ part_defined c.args.form.now c.in-Unary.part c.in-Unary.field-0 c.args.depth c.args.by c.args.before c.in-Unary.is (sym c.is_form.ensures ∙ c.if-not-is_form.false)) c.defined.ensures

pub defined-returns-in_ok-before-in-Binary : goal.defined-returns-in_ok-before-in-Binary
defined-returns-in_ok-before-in-Binary t c = subst (λ z. IfOk c.defined-in-Binary-2.result (λ o. o ≡ z)) (ap₂ (λ b y. step.joined_on b (step.defined_values (narrowed y) c.args.depth c.args.by)) (c.in_ok-before-in-Binary.ensures ∙ ap (λ a. step.joined_on c.args.before (step.defined_values (narrowed a) c.args.depth c.args.by)) c.get-in-Binary.ensures) c.get-in-Binary-2.ensures ∙ parts_defined c.args.form.now c.in-Binary.left c.in-Binary.right c.in-Binary.field-0 c.args.depth c.args.by c.args.before c.in-Binary.is (sym c.is_form.ensures ∙ c.if-not-is_form.false)) c.defined-in-Binary-2.ensures

pub defined-returns-in_default : goal.defined-returns-in_default
defined-returns-in_default t c = sym (ap (λ vs. step.joined_on c.args.before (map (λ v. is_defined (shift c.args.depth c.args.by v)) vs)) (no_values c.args.form.now c.args.depth c.in_default.not-Unary c.in_default.not-Binary (sym c.is_form.ensures ∙ c.if-not-is_form.false)))

pub end_at-returns : goal.end_at-returns
end_at-returns t c = subst (λ z. IfOk c.shifted.result (λ o. o ≡ z)) (ap (shift c.args.depth c.args.by) c.in_ok-set.ensures) c.shifted.ensures

pub has-returns-in-Infinite : goal.has-returns-in-Infinite
has-returns-in-Infinite t c = subst (λ z. IfOk c.infinite_has.result (λ o. o ≡ z)) (infinite_has c.args.form.now c.in-Infinite.set c.args.depth c.args.by c.args.e.now c.in-Infinite.is) c.infinite_has.ensures

pub has-returns-in-PowerSet : goal.has-returns-in-PowerSet
has-returns-in-PowerSet t c = subst (λ z. IfOk c.has_members.result (λ o. o ≡ z)) (ap (λ a. (narrowed a).has_members c.args.depth c.args.by c.args.e.now) c.get.ensures ∙ power_has c.args.form.now c.in-Unary.part c.in-Unary.operator c.args.depth c.args.by c.args.e.now c.in-Unary.is (sym c.unary_kind.ensures ∙ c.in-PowerSet.is)) c.has_members.ensures

pub has-returns-in-NonemptyPowerSet : goal.has-returns-in-NonemptyPowerSet
has-returns-in-NonemptyPowerSet t c = subst (λ z. IfOk c.nonempty_has_members.result (λ o. o ≡ z)) (ap (λ a. (narrow.nonempty_power_set None (narrowed a)).has c.args.depth c.args.by c.args.e.now) c.get-in-NonemptyPowerSet.ensures ∙ nonempty_has c.args.form.now c.in-Unary.part c.in-Unary.operator c.args.depth c.args.by c.args.e.now c.in-Unary.is (sym c.unary_kind.ensures ∙ c.in-NonemptyPowerSet.is)) c.nonempty_has_members.ensures

pub has-returns-in-UnionOfMembers : goal.has-returns-in-UnionOfMembers
has-returns-in-UnionOfMembers t c = subst (λ z. IfOk c.beside.result (λ o. o ≡ z)) (plain_union c.args.form.now c.in-Unary.part c.in-Unary.operator c.in-Unary.is (sym c.unary_kind.ensures ∙ c.in-UnionOfMembers.is) c.args.depth c.args.by c.args.e.now) c.beside.ensures

pub has-returns-in-Other : goal.has-returns-in-Other
has-returns-in-Other t c = subst (λ z. IfOk c.beside-in-Other.result (λ o. o ≡ z)) (plain_unary c.args.form.now c.in-Unary.part c.in-Unary.operator c.in-Unary.is (sym c.unary_kind.ensures ∙ c.in-Other.is) c.args.depth c.args.by c.args.e.now) c.beside-in-Other.ensures

pub has-returns-in_ok-to-in-Arrow : goal.has-returns-in_ok-to-in-Arrow
has-returns-in_ok-to-in-Arrow t c = subst (λ z. IfOk c.arrow_has.result (λ o. o ≡ z)) (arrow_has c.args.form.now c.in-Binary.left c.in-Binary.right c.in-Binary.operator c.in-Arrow.arrow c.args.depth c.args.by c.args.e.now c.in_ok-from-in-Arrow.from c.in_ok-to-in-Arrow.to c.in-Binary.is (kind_is c.in-Binary.operator c.in-Binary.left c.in-Binary.right c.get-in-Binary.result.now c.get-in-Binary-2.result.now c.kind_at.result (of.Arrow c.in-Arrow.arrow) c.get-in-Binary.ensures c.get-in-Binary-2.ensures c.kind_at.ensures c.in-Arrow.is) (c.in_ok-from-in-Arrow.ensures ∙ ap (λ a. narrow.covers (is_total c.in-Arrow.arrow) (narrowed a) c.args.depth c.args.by (built.domain c.args.e.now)) c.get-in-Arrow.ensures) (c.in_ok-to-in-Arrow.ensures ∙ ap (λ b. narrow.covers (is_surjective c.in-Arrow.arrow) (narrowed b) c.args.depth c.args.by (built.range c.args.e.now)) c.get-in-Arrow-2.ensures)) c.arrow_has.ensures

pub has-returns-in_ok-second-in-Product : goal.has-returns-in_ok-second-in-Product
has-returns-in_ok-second-in-Product t c = subst (λ z. IfOk c.both.result (λ o. o ≡ z)) (product_has c.args.form.now c.in-Binary.left c.in-Binary.right c.in-Binary.operator c.args.depth c.args.by c.args.e.now c.in_ok-first-in-Product.first c.in_ok-second-in-Product.second c.in-Binary.is (kind_is c.in-Binary.operator c.in-Binary.left c.in-Binary.right c.get-in-Binary.result.now c.get-in-Binary-2.result.now c.kind_at.result (of.Product) c.get-in-Binary.ensures c.get-in-Binary-2.ensures c.kind_at.ensures c.in-Product.is) (c.in_ok-first-in-Product.ensures ∙ ap (λ a. (narrowed a).has c.args.depth c.args.by (built.part side.First c.args.e.now)) c.get-in-Product.ensures) (c.in_ok-second-in-Product.ensures ∙ ap (λ b. (narrowed b).has c.args.depth c.args.by (built.part side.Second c.args.e.now)) c.get-in-Product-2.ensures)) c.both.ensures

pub has-returns-in_ok-high-in-Interval : goal.has-returns-in_ok-high-in-Interval
has-returns-in_ok-high-in-Interval t c = subst (λ z. IfOk c.is_between.result (λ o. o ≡ z)) (interval_has c.args.form.now c.in-Binary.left c.in-Binary.right c.in-Binary.operator c.args.depth c.args.by c.args.e.now c.in_ok-low-in-Interval.low c.in_ok-high-in-Interval.high c.in-Binary.is (kind_is c.in-Binary.operator c.in-Binary.left c.in-Binary.right c.get-in-Binary.result.now c.get-in-Binary-2.result.now c.kind_at.result (of.Interval) c.get-in-Binary.ensures c.get-in-Binary-2.ensures c.kind_at.ensures c.in-Interval.is) (c.in_ok-low-in-Interval.ensures ∙ ap (λ a. shift c.args.depth c.args.by ((narrowed a).term c.args.depth)) c.get-in-Interval.ensures) (c.in_ok-high-in-Interval.ensures ∙ ap (λ b. shift c.args.depth c.args.by ((narrowed b).term c.args.depth)) c.get-in-Interval-2.ensures)) c.is_between.ensures

pub has-returns-in-Membership : goal.has-returns-in-Membership
has-returns-in-Membership t c = subst (λ z. IfOk c.beside-in-Membership.result (λ o. o ≡ z)) (plain_membership c.args.form.now c.in-Binary.left c.in-Binary.right c.in-Binary.operator c.in-Membership.field-0 c.in-Membership.field-1 c.in-Binary.is (kind_is c.in-Binary.operator c.in-Binary.left c.in-Binary.right c.get-in-Binary.result.now c.get-in-Binary-2.result.now c.kind_at.result (of.Membership c.in-Membership.field-0 c.in-Membership.field-1) c.get-in-Binary.ensures c.get-in-Binary-2.ensures c.kind_at.ensures c.in-Membership.is) c.args.depth c.args.by c.args.e.now) c.beside-in-Membership.ensures

pub has-returns-in-Other-kind_at : goal.has-returns-in-Other-kind_at
has-returns-in-Other-kind_at t c = subst (λ z. IfOk c.beside-in-Other-kind_at.result (λ o. o ≡ z)) (plain_binary c.args.form.now c.in-Binary.left c.in-Binary.right c.in-Binary.operator c.in-Binary.is (kind_is c.in-Binary.operator c.in-Binary.left c.in-Binary.right c.get-in-Binary.result.now c.get-in-Binary-2.result.now c.kind_at.result (of.Other) c.get-in-Binary.ensures c.get-in-Binary-2.ensures c.kind_at.ensures c.in-Other-kind_at.is) c.args.depth c.args.by c.args.e.now) c.beside-in-Other-kind_at.ensures

pub has-returns-in_default : goal.has-returns-in_default
has-returns-in_default t c = subst (λ z. IfOk c.beside-in_default.result (λ o. o ≡ z)) (plain_other c.args.form.now c.in_default.not-Infinite c.in_default.not-Unary c.in_default.not-Binary c.args.depth c.args.by c.args.e.now) c.beside-in_default.ensures

pub has_members-returns-then-not-is_form : goal.has_members-returns-then-not-is_form
has_members-returns-then-not-is_form t c = subst (λ z. IfOk c.beside.result (λ o. o ≡ z)) (members_beside c.args.form.now c.args.depth c.args.by c.args.e.now (sym c.is_form.ensures ∙ c.if-not-is_form.true)) c.beside.ensures

pub has_members-returns-then-is_integers : goal.has_members-returns-then-is_integers
has_members-returns-then-is_integers t c = subst (λ z. IfOk c.is_defined.result (λ o. o ≡ z)) (integers_are c.args.form.now c.args.depth c.args.by c.args.e.now (sym c.is_integers.ensures ∙ c.if-is_integers.true)) c.is_defined.ensures

pub has_members-returns : goal.has_members-returns
has_members-returns t c = subst (λ z. IfOk c.joined.result (λ o. o ≡ z)) (ap₂ step.joined c.in_ok-given.ensures c.in_ok-no_other.ensures ∙ members_are c.args.form.now c.args.depth c.args.by c.args.e.now (sym c.is_form.ensures ∙ c.if-not-is_form.false) (sym c.is_integers.ensures ∙ c.if-is_integers.false)) c.joined.ensures

pub has_more-returns-then-is_form : goal.has_more-returns-then-is_form
has_more-returns-then-is_form t c = subst (λ z. IfOk c.has_members.result (λ o. o ≡ z)) (ap (λ b. if b then ((narrowed c.args.form.now).has_members c.args.depth 0 c.args.e.now) else (built.conjunction (built.subset c.args.e.now ((narrowed c.args.form.now).term c.args.depth)) (built.negation (built.equal c.args.e.now ((narrowed c.args.form.now).term c.args.depth))))) (sym c.if-is_form.true ∙ c.is_form.ensures)) c.has_members.ensures

pub has_more-returns-in_ok-set : goal.has_more-returns-in_ok-set
has_more-returns-in_ok-set t c = subst (λ z. IfOk c.proper_subset.result (λ o. o ≡ z)) (ap (λ s. built.conjunction (built.subset c.args.e.now s) (built.negation (built.equal c.args.e.now s))) c.in_ok-set.ensures ∙ ap (λ b. if b then ((narrowed c.args.form.now).has_members c.args.depth 0 c.args.e.now) else (built.conjunction (built.subset c.args.e.now ((narrowed c.args.form.now).term c.args.depth)) (built.negation (built.equal c.args.e.now ((narrowed c.args.form.now).term c.args.depth))))) (sym c.if-is_form.false ∙ c.is_form.ensures)) c.proper_subset.ensures

pub has_no_other-returns : goal.has_no_other-returns
has_no_other-returns t c = subst (λ z. IfOk c.none_is_out.result (λ o. o ≡ z)) (ap (λ q. built.negation (term.over binder.Exists c.args.e.now (built.negation q))) (c.in_ok-is_in.ensures ∙ ap₂ (λ k m. (narrowed c.args.form.now).has c.args.depth k m) c.in_ok-by.ensures (c.in_ok-member.ensures ∙ ap (built.whole (c.args.depth + c.args.by)) c.in_ok-ty.ensures))) c.none_is_out.ensures

pub is_all-returns-then-not-is_form : goal.is_all-returns-then-not-is_form
is_all-returns-then-not-is_form t c = subst (λ z. IfOk c.beside.result (λ o. o ≡ z)) (all_beside c.args.form.now c.args.depth c.args.by c.args.e.now (sym c.is_form.ensures ∙ c.if-not-is_form.true)) c.beside.ensures

pub is_all-returns : goal.is_all-returns
is_all-returns t c = subst (λ z. IfOk c.joined.result (λ o. o ≡ z)) (ap₂ step.joined c.in_ok-given.ensures (c.in_ok-never.ensures ∙ ap built.negation c.in_ok-is_defined.ensures) ∙ all_are c.args.form.now c.args.depth c.args.by c.args.e.now (sym c.is_form.ensures ∙ c.if-not-is_form.false)) c.joined.ensures

pub many_at-returns-in-Extension : goal.many_at-returns-in-Extension
many_at-returns-in-Extension t c = c.many.ensures ∙ (ap₂ (λ o ts. term.many o ts) c.in-Extension.is c.in_ok-terms.ensures ∙ ap (λ o. (narrow.by_many o None (map narrowed c.args.parts.now)).term c.args.depth) (sym c.in-Extension.is))

pub many_at-returns-in_ok-ty-in-Partition : goal.many_at-returns-in_ok-ty-in-Partition
many_at-returns-in_ok-ty-in-Partition t c = subst (λ z. IfOk c.partition.result (λ o. o ≡ z)) (ap₂ built.partition (c.in_ok-ty-in-Partition.ensures ∙ first_type_is c.args.parts.now) c.in_ok-terms.ensures ∙ ap (λ o. (narrow.by_many o None (map narrowed c.args.parts.now)).term c.args.depth) (sym c.in-Partition.is)) c.partition.ensures

pub nonempty_has_members-returns : goal.nonempty_has_members-returns
nonempty_has_members-returns t c = subst (λ z. IfOk c.both.result (λ o. o ≡ z)) (ap (λ n. built.both c.in_ok-all.all n) c.in_ok-nonempty.ensures ∙ nonempty_is c.args.form.now c.in_ok-all.all c.in_ok-ty.ty c.args.depth c.args.by c.args.e.now c.in_ok-all.ensures c.in_ok-ty.ensures) c.both.ensures

pub part_has-returns : goal.part_has-returns
part_has-returns t c = subst (λ z. IfOk c.has.result (λ o. o ≡ z)) (ap (λ e. (narrowed c.args.form.now).has c.args.depth c.args.by e) c.in_ok-e.ensures) c.has.ensures

pub term_at-returns-in-Infinite : goal.term_at-returns-in-Infinite
term_at-returns-in-Infinite t c = subst (λ z. IfOk c.no_value_of.result (λ o. o ≡ z)) (infinite_term c.args.term.now c.in-Infinite.field-0 c.args.depth c.in-Infinite.is) c.no_value_of.ensures

pub term_at-returns-in-Identity : goal.term_at-returns-in-Identity
term_at-returns-in-Identity t c = subst (λ z. IfOk c.identity.result (λ o. o ≡ z)) (identity_term c.args.term.now c.in-Identity.ty c.args.depth c.in-Identity.is) c.identity.ensures

pub term_at-returns-in-Projection : goal.term_at-returns-in-Projection
term_at-returns-in-Projection t c = subst (λ z. IfOk c.projection.result (λ o. o ≡ z)) (projection_term c.args.term.now c.in-Projection.side c.in-Projection.first c.in-Projection.second c.args.depth c.in-Projection.is) c.projection.ensures

pub term_at-returns-in-Unary : goal.term_at-returns-in-Unary
term_at-returns-in-Unary t c = subst (λ z. IfOk c.unary_at.result (λ o. o ≡ z)) (ap (λ a. (as_unary (unary_kind c.in-Unary.operator) c.in-Unary.operator (type_of c.args.term.now) (narrowed a)).term c.args.depth) c.get.ensures ∙ unary_term c.args.term.now c.in-Unary.part c.in-Unary.operator c.args.depth c.in-Unary.is) c.unary_at.ensures

pub term_at-returns-in-Many : goal.term_at-returns-in-Many
term_at-returns-in-Many t c = subst (λ z. IfOk c.many_at.result (λ o. o ≡ z)) (ap (λ ts. (narrow.by_many c.in-Many.many None (map narrowed ts)).term c.args.depth) c.as_slice.ensures ∙ many_term c.args.term.now c.in-Many.many c.in-Many.parts c.args.depth c.in-Many.is) c.many_at.ensures

pub term_at-returns-in_ok-body-in-Over : goal.term_at-returns-in_ok-body-in-Over
term_at-returns-in_ok-body-in-Over t c = subst (λ z. IfOk c.over.result (λ o. o ≡ z)) (ap₂ (λ s p. step.turned c.in-Over.binder (term.over (step.narrow_binder c.in-Over.binder) s p)) (c.in_ok-range-in-Over.ensures ∙ ap (λ s. (narrowed s).term c.args.depth) c.get-in-Over.ensures) (c.in_ok-body-in-Over.ensures ∙ ap (λ p. step.turned c.in-Over.binder ((narrowed p).term (c.args.depth + 1))) c.get-in-Over-2.ensures) ∙ bound_over c.args.term.now c.in-Over.range c.in-Over.body c.in-Over.binder c.args.depth c.in-Over.is) c.over.ensures

pub term_at-returns-in_ok-body-in-All : goal.term_at-returns-in_ok-body-in-All
term_at-returns-in_ok-body-in-All t c = subst (λ z. IfOk c.all.result (λ o. o ≡ z)) (ap (λ p. step.turned c.in-All.binder (term.all (step.narrow_binder c.in-All.binder) c.in-All.ty p)) (c.in_ok-body-in-All.ensures ∙ ap (λ p. step.turned c.in-All.binder ((narrowed p).term (c.args.depth + 1))) c.get-in-All.ensures) ∙ bound_all c.args.term.now c.in-All.body c.in-All.binder c.in-All.ty c.args.depth c.in-All.is) c.all.ensures

pub term_at-returns-in_default : goal.term_at-returns-in_default
term_at-returns-in_default t c = subst (λ z. IfOk c.copied.result (λ o. o ≡ z)) (leaf_term c.args.term.now c.args.depth c.in_default.not-Infinite c.in_default.not-Identity c.in_default.not-Projection c.in_default.not-Unary c.in_default.not-Binary c.in_default.not-Many c.in_default.not-Over c.in_default.not-All) c.copied.ensures

pub unary_at-returns-in-PowerSet : goal.unary_at-returns-in-PowerSet
unary_at-returns-in-PowerSet t c = subst (λ z. IfOk c.no_value_of.result (λ o. o ≡ z)) (ap (λ k. (as_unary k c.args.operator (type_of c.args.whole.now) (narrowed c.args.part.now)).term c.args.depth) (sym c.in-PowerSet.is ∙ c.unary_kind.ensures)) c.no_value_of.ensures

pub unary_at-returns-in-NonemptyPowerSet : goal.unary_at-returns-in-NonemptyPowerSet
unary_at-returns-in-NonemptyPowerSet t c = subst (λ z. IfOk c.no_value_of-in-NonemptyPowerSet.result (λ o. o ≡ z)) (ap (λ k. (as_unary k c.args.operator (type_of c.args.whole.now) (narrowed c.args.part.now)).term c.args.depth) (sym c.in-NonemptyPowerSet.is ∙ c.unary_kind.ensures)) c.no_value_of-in-NonemptyPowerSet.ensures

pub unary_at-returns-in_ok-ty-in-UnionOfMembers : goal.unary_at-returns-in_ok-ty-in-UnionOfMembers
unary_at-returns-in_ok-ty-in-UnionOfMembers t c = subst (λ z. IfOk c.union_of_members.result (λ o. o ≡ z)) (union_is c.args.part.now c.in_ok-sets-in-UnionOfMembers.sets c.in_ok-ty-in-UnionOfMembers.ty c.args.depth c.in_ok-sets-in-UnionOfMembers.ensures c.in_ok-ty-in-UnionOfMembers.ensures ∙ ap (λ k. (as_unary k c.args.operator (type_of c.args.whole.now) (narrowed c.args.part.now)).term c.args.depth) (sym c.in-UnionOfMembers.is ∙ c.unary_kind.ensures)) c.union_of_members.ensures

pub unary_at-returns-in_ok-a-in-Other : goal.unary_at-returns-in_ok-a-in-Other
unary_at-returns-in_ok-a-in-Other t c = subst (λ z. IfOk c.one_part.result (λ o. o ≡ z)) (ap (one_part c.args.operator) c.in_ok-a-in-Other.ensures ∙ ap (λ k. (as_unary k c.args.operator (type_of c.args.whole.now) (narrowed c.args.part.now)).term c.args.depth) (sym c.in-Other.is ∙ c.unary_kind.ensures)) c.one_part.ensures

pub beyond-returns-in_ok-holds-in-Membership : goal.beyond-returns-in_ok-holds-in-Membership
beyond-returns-in_ok-holds-in-Membership t c = subst (λ z. IfOk c.said.result (λ o. o ≡ z)) (ap (said c.in-Membership.is_negated) c.in_ok-holds-in-Membership.ensures ∙ ap (λ k. beyond k c.args.operator c.args.left (narrowed c.args.right.now) c.args.depth) (sym c.in-Membership.is)) c.said.ensures

pub beyond-returns-in_ok-right-in_default : goal.beyond-returns-in_ok-right-in_default
beyond-returns-in_ok-right-in_default t c = subst (λ z. IfOk c.two_parts.result (λ o. o ≡ z)) (ap (two_parts c.args.operator c.args.left) c.in_ok-right-in_default.ensures ∙ other_is c.args.kind c.args.operator c.args.left (narrowed c.args.right.now) c.args.depth c.in_default.not-Membership) c.two_parts.ensures

pub term_at-returns-then-is_form_kind : goal.term_at-returns-then-is_form_kind
term_at-returns-then-is_form_kind t c = subst (λ z. IfOk c.no_value_of-then-is_form_kind.result (λ o. o ≡ z)) (form_term c.args.term.now c.in-Binary.left c.in-Binary.right c.in-Binary.operator c.kind_at-kind.result c.args.depth c.in-Binary.is (kind_is c.in-Binary.operator c.in-Binary.left c.in-Binary.right c.get-in-Binary.result.now c.get-in-Binary-2.result.now c.kind_at-kind.result c.kind_at-kind.result c.get-in-Binary.ensures c.get-in-Binary-2.ensures c.kind_at-kind.ensures refl) (sym c.is_form_kind.ensures ∙ c.if-is_form_kind.true)) c.no_value_of-then-is_form_kind.ensures

pub term_at-returns-in_ok-left-in-Binary : goal.term_at-returns-in_ok-left-in-Binary
term_at-returns-in_ok-left-in-Binary t c =
    let left : c.in_ok-left-in-Binary.left ≡ (narrowed c.in-Binary.left).term c.args.depth = c.in_ok-left-in-Binary.ensures ∙ ap (λ a. (narrowed a).term c.args.depth) c.get-else-is_form_kind.ensures in
    subst (λ z. IfOk c.beyond.result (λ o. o ≡ z))
    (ap₂ (λ a b. beyond c.kind_at-kind.result c.in-Binary.operator a (narrowed b) c.args.depth) left c.get-else-is_form_kind-2.ensures ∙ beyond_term c.args.term.now c.in-Binary.left c.in-Binary.right c.in-Binary.operator c.kind_at-kind.result c.args.depth c.in-Binary.is (kind_is c.in-Binary.operator c.in-Binary.left c.in-Binary.right c.get-in-Binary.result.now c.get-in-Binary-2.result.now c.kind_at-kind.result c.kind_at-kind.result c.get-in-Binary.ensures c.get-in-Binary-2.ensures c.kind_at-kind.ensures refl) (sym c.is_form_kind.ensures ∙ c.if-is_form_kind.false))
    c.beyond.ensures
