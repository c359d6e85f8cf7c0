use Rattle.std.proofs.Common.{rules, ◌≡◌, ◌∙◌, sym, ap, subst}
use Rattle.std.specs.Prelude.{option_map}
use Rattle.std.proofs.lemmas.Int.{to_z-of_z}
use Rattle.eb_value.specs.Values.{int}
use Rattle.eb_operations.specs.Arithmetic.{quotient}
use Rattle.rules_integers.specs.Ends.{within, by_ends}
use Rattle.rules_integers.specs.Products.{divisors, has_zero, quotients_by}
use Rattle.rules_integers.specs.steps.Ranges.{IsWithin}
use Rattle.rules_integers.proofs.RangeLaws.{within_is}
use Rattle.rules_integers.proofs.products.quotients.Goals as goal

pub quotients_by-body-requires : goal.quotients_by-body-requires
quotients_by-body-requires c = subst IsWithin (sym c.within.ensures) (within_is c.args.a)

pub returns : goal.returns
returns c =
    let a = c.args.a in
    let b = c.args.b in
    let value : option_map int c.quotient.result ≡ quotient a.lo b.lo = search (rules, to_z-of_z) in
    let divisor = c.divisors.ensures ∙ ap divisors c.within-divisor.ensures in
    let body : c.quotients_by-body.result ≡ quotients_by (within a) (divisors (within b)) = c.quotients_by-body.ensures ∙ λ i. quotients_by (c.within.ensures i) (divisor i) in
    let undefined : c.has_zero.result ≡ has_zero (within b) = c.has_zero.ensures ∙ ap has_zero c.within-divisor.ensures in
    c.by_ends.ensures quotient value ∙ λ i. by_ends c.args.defined quotient (body i) (undefined i) a b
