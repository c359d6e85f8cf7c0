-- Down to the body of a binder tells nothing.
use Rattle.std.proofs.Common.{◌≡◌, refl, ℕ, zero, suc, List, Some}
use Rattle.eb_value.specs.declared.types.EbType.{EbType}
use Rattle.eb_value.specs.declared.value.Value.{Value}
use Rattle.eb_term.specs.declared.term.Head.TheOpen as head
use Rattle.eb_term.specs.Terms.{Layer}
use Rattle.occ_domains.specs.declared.domain.Domain.{Domain}
use Rattle.occurrences.specs.Binding.{binds_layer}
use Rattle.occurrences.specs.Stores.{Domains}
use Rattle.node_rules.specs.Nodes.{down_layer}

-- a part that a value is bound for keeps its domain
pub down_body : (at : Domains) (k : ℕ) (bound : List Value) (n : ℕ) (y : Layer) (ty : EbType) (d : Domain) → binds_layer y n ≡ Some ty → down_layer at k bound n y d ≡ d
down_body at k bound zero (head.Unary o a) ty d e = absurd (cc)
down_body at k bound zero (head.Binary o a b) ty d e = absurd (cc)
down_body at k bound zero _ ty d e = refl
down_body at k bound (suc zero) (head.Binary o a b) ty d e = absurd (cc)
down_body at k bound (suc zero) _ ty d e = refl
down_body at k bound (suc (suc n)) _ ty d e = refl
