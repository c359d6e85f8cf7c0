use Rattle.std.proofs.Common.{◌∙◌, ap, None}
use Rattle.occ_domains.specs.Domains.{has, slot, is_normal}
use Rattle.rules_integers.specs.Products.{product, up_product}
use Rattle.rules_integers.proofs.ProductLaws.{product_sound, product_undefined, product_normal}
use Rattle.rules_integers.proofs.products.up_product.Goals as goal

pub returns-clause-sound : goal.returns-clause-sound
returns-clause-sound c = λ m n h k. ap (λ d. has d (slot (product m n))) c.products.ensures ∙ product_sound c.args.defined c.args.a c.args.b m n h k

pub returns-clause-undefined : goal.returns-clause-undefined
returns-clause-undefined c = λ e. ap (λ d. has d (slot None)) (c.products.ensures ∙ ap (λ t. up_product t c.args.a c.args.b) e) ∙ product_undefined c.args.a c.args.b

pub returns-clause-normal : goal.returns-clause-normal
returns-clause-normal c = ap is_normal c.products.ensures ∙ product_normal c.args.defined c.args.a c.args.b
