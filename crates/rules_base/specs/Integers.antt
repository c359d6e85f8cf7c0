-- The rows of arithmetic on expressions of any body.
use Rattle.std.specs.Prelude.{Bool, true, not}
use Rattle.eb_term.specs.declared.operators.Side.{Side}
use Rattle.occ_domains.specs.declared.body.Body.{Body, Body-F, out-Body}
use Rattle.occ_domains.specs.declared.body.Body.TheOpen as body
use Rattle.occ_domains.specs.declared.body.Body.TheVariants as of
use Rattle.occ_domains.specs.declared.domain.Domain.{Domain}
use Rattle.occ_domains.specs.declared.domain.Domain.TheVariants as domain
use Rattle.occ_domains.specs.Bodies.{integers, common}
use Rattle.rules_integers.specs.declared.arithmetic.Arithmetic.{Arithmetic}
use Rattle.rules_integers.specs.Arithmetic.{up_by, down_by}

-- Up: by the intervals; no value where a side has none, and Undefined where one has what is no integer
abbrev pub up_layers : Arithmetic → Bool → Body-F Body → Body-F Body → Domain
up_layers o undefined (body.Integers c) (body.Integers d) = up_by o (not undefined) c d
up_layers o undefined body.Empty _ = domain.Values of.Empty undefined
up_layers o undefined _ body.Empty = domain.Values of.Empty undefined
up_layers o undefined _ _ = domain.Values of.Empty true

abbrev pub up_integers : Arithmetic → Bool → Body → Body → Domain
up_integers o undefined a b = up_layers o undefined (out-Body a) (out-Body b)

-- Down to a side, by the intervals
abbrev pub down_layers : Arithmetic → Side → Body-F Body → Body-F Body → Body-F Body → Body → Body
down_layers o s (body.Integers e) (body.Integers c) (body.Integers d) a = integers (common c (down_by o s e c d))
down_layers o s _ _ _ a = a

abbrev pub down_integers : Arithmetic → Side → Body → Body → Body → Body
down_integers o s whole a other = down_layers o s (out-Body whole) (out-Body a) (out-Body other) a
