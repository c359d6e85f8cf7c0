-- Which parts of a node stand inside one binder more than the node.
use Rattle.std.specs.Prelude.{ℕ, zero, suc, Option, Some, None, option_and_then}
use Rattle.eb_value.specs.declared.types.EbType.{EbType}
use Rattle.eb_term.specs.declared.term.Term.{Term}
use Rattle.eb_term.specs.declared.term.Head.TheOpen as head
use Rattle.eb_term.specs.Terms.{Layer, layer}
use Rattle.narrow_terms.specs.Parts.{element_of}
use Rattle.term_types.specs.Types.{type_of}

-- the type of the values that a binder gives its part at this place
abbrev pub binds_layer : Layer → ℕ → Option EbType
binds_layer (head.Over o range body) (suc zero) = option_and_then element_of (type_of range)
binds_layer (head.All o ty body) zero = Some ty
binds_layer _ part = None

abbrev pub binds : Term → ℕ → Option EbType
binds t part = binds_layer (layer t) part
