use Rattle.std.proofs.Common.{◌≡◌, ◌∙◌, ◌+◌, ◌++◌, ◌∷◌, [], Some, None, true, false, drop, ap, sym}
use Rattle.std.proofs.lemmas.Result.{err_from_is_err_and}
use Rattle.eb_value.specs.steps.Reading as spec
use Rattle.eb_value.specs.Values as value
use Rattle.eb_value.proofs.ReadingSteps.{member_fails, member_then}
use Rattle.eb_value.proofs.read.+reading.Goals as goal

pub members_at-returns-in_err-member : goal.members_at-returns-in_err-member
members_at-returns-in_err-member t c =
    let p = err_from_is_err_and c.from_residual.result c.from_residual.ensures.1 in
    let f = spec.value_at c.args.names.now c.args.sizes.now c.args.ty.now in
    rw (p.1, p.2) (member_fails c.in_err-member.field-0.0 f c.args.text.now c.members._byte-index c.members.members c.members.rest.now (spec.members_at f c.args.text.now [] c.args.text.now) c.members.invariant c.members-test.true c.in_err-member.ensures)

pub members_at-returns-in_default : goal.members_at-returns-in_default
members_at-returns-in_default t c =
    let f = spec.value_at c.args.names.now c.args.sizes.now c.args.ty.now in
    let whole = spec.members_at f c.args.text.now [] c.args.text.now in
    let ended : spec.behind c.in_ok-member.next.now ≡ None = sym c.in_default.ensures in
    member_then f c.args.text.now c.members._byte-index c.members.members c.members.rest.now whole c.members.invariant c.members-test.true c.in_ok-member.member c.in_ok-member.next.now c.in_ok-member.ensures None ended

pub members_at-returns-then-not-goes_on : goal.members_at-returns-then-not-goes_on
members_at-returns-then-not-goes_on t c =
    let f = spec.value_at c.args.names.now c.args.sizes.now c.args.ty.now in
    let whole = spec.members_at f c.args.text.now [] c.args.text.now in
    let ended : spec.behind c.in_ok-member.next.now ≡ Some (false, c.in-Some.next.now) = sym c.in-Some.ensures ∙ ap (λ b. Some (b, c.in-Some.next.now)) c.if-not-goes_on.true in
    let pushed : c.push.new.self ≡ c.members.members ++ c.in_ok-member.member ∷ [] = c.in_ok-push.ensures.ok in
    member_then f c.args.text.now c.members._byte-index c.members.members c.members.rest.now whole c.members.invariant c.members-test.true c.in_ok-member.member c.in_ok-member.next.now c.in_ok-member.ensures (Some (false, c.in-Some.next.now)) ended
    ∙ ap (λ m. Some (m, c.in-Some.next.now)) (ap value.set (sym pushed) ∙ sym c.set.ensures)

pub members_at-members-preserved : goal.members_at-members-preserved
members_at-members-preserved t c =
    let f = spec.value_at c.args.names.now c.args.sizes.now c.args.ty.now in
    let whole = spec.members_at f c.args.text.now [] c.args.text.now in
    let goes_on : spec.behind c.in_ok-member.next.now ≡ Some (true, c.in-Some.next.now) = sym c.in-Some.ensures ∙ ap (λ b. Some (b, c.in-Some.next.now)) c.if-not-goes_on.false in
    let pushed : c.push.new.self ≡ c.members.members ++ c.in_ok-member.member ∷ [] = c.in_ok-push.ensures.ok in
    ap (λ m. spec.members_at f (drop (c.members._byte-index + 1) c.args.text.now) m c.in-Some.next.now) pushed
    ∙ sym (member_then f c.args.text.now c.members._byte-index c.members.members c.members.rest.now whole c.members.invariant c.members-test.true c.in_ok-member.member c.in_ok-member.next.now c.in_ok-member.ensures (Some (true, c.in-Some.next.now)) goes_on)
