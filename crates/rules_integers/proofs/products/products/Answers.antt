use Rattle.std.proofs.Common.{rules, ◌≡◌, ◌∙◌, ap, ◌*ℤ◌}
use Rattle.std.specs.Prelude.{option_map}
use Rattle.std.proofs.lemmas.Int.{to_z-of_z}
use Rattle.eb_value.specs.Values.{int}
use Rattle.rules_integers.specs.Ends.{by_span}
use Rattle.rules_integers.specs.Products.{product, over_ends}
use Rattle.rules_integers.proofs.RangeLaws.{span_saturated}
use Rattle.rules_integers.proofs.products.products.Goals as goal

pub returns : goal.returns
returns c =
    let a = c.args.a in
    let b = c.args.b in
    let value : option_map int c.product.result ≡ product a.lo b.lo = search (rules, to_z-of_z) in
    c.by_span.ensures product value ∙ ap (λ d. by_span c.args.defined product d a b) c.over_products.ensures ∙ span_saturated c.args.defined product (over_ends (λ m n. m *ℤ n) a b) a b
