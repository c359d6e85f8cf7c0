use Rattle.std.proofs.Common.{◌≡◌, ◌&&◌, ◌↔◌, ◌⊎◌, not, true, false, IsNone, IfSome, sym, subst}
use Rattle.std.proofs.lemmas.Result.{IfOk-weaker}
use Rattle.occ_domains.specs.declared.domain.Domain.{Domain}
use Rattle.occ_domains.specs.Domains.{Outcome, has, is_normal}
use Rattle.occ_domains.specs.Tests.{passes, fits, parts, AreAlike}
use Rattle.occ_domains.proofs.PartLaws.{part_has, part_normal, parts_are, none_so, so_none}
use Rattle.occ_domains.proofs.tests.parts.Goals as goal

pub returns-clause-first : goal.returns-clause-first
returns-clause-first c =
    let d = c.args.d.now in
    let t = c.args.test.now in
    let Q : Domain × Domain → Type 0 = λ two. (o : Outcome) → has two.0 o ≡ (has d o && passes t o) in
    IfOk-weaker c.split.result (λ p. p ≡ parts d t) (λ p. IfSome p Q)
    (λ p e. subst (λ x. IfSome x Q) (sym e) (parts_are d t Q (part_has c.order_is_total.ensures.exact true t d))) c.split.ensures

pub returns-clause-second : goal.returns-clause-second
returns-clause-second c =
    let d = c.args.d.now in
    let t = c.args.test.now in
    let Q : Domain × Domain → Type 0 = λ two. (o : Outcome) → has two.1 o ≡ (has d o && not (passes t o)) in
    IfOk-weaker c.split.result (λ p. p ≡ parts d t) (λ p. IfSome p Q)
    (λ p e. subst (λ x. IfSome x Q) (sym e) (parts_are d t Q (part_has c.order_is_total.ensures.exact false t d))) c.split.ensures

pub returns-clause-normal : goal.returns-clause-normal
returns-clause-normal c normal =
    let d = c.args.d.now in
    let t = c.args.test.now in
    let Q : Domain × Domain → Type 0 = λ two. (is_normal two.0 ≡ true) × (is_normal two.1 ≡ true) in
    IfOk-weaker c.split.result (λ p. p ≡ parts d t) (λ p. IfSome p Q)
    (λ p e. subst (λ x. IfSome x Q) (sym e) (parts_are d t Q (λ f.
    (part_normal c.order_is_total.ensures.transitive true t d normal, part_normal c.order_is_total.ensures.transitive false t d normal)))) c.split.ensures

pub returns-clause-none : goal.returns-clause-none
returns-clause-none c normal =
    let d = c.args.d.now in
    let t = c.args.test.now in
    let order = c.order_is_total.ensures in
    IfOk-weaker c.split.result (λ p. p ≡ parts d t) (λ p. IsNone p ↔ ((fits d t ≡ false) ⊎ AreAlike d t))
    (λ p e. (
      λ h. none_so order.exact order.reflexive order.transitive d t (subst IsNone e h),
      λ h. subst IsNone (sym e) (so_none order.exact order.reflexive order.transitive d t normal h),
    )) c.split.ensures
