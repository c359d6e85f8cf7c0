-- The rows of pairs and of their parts.
use Rattle.std.specs.Prelude.{Bool, true, if◌then◌else◌}
use Rattle.eb_term.specs.declared.operators.Side.{Side}
use Rattle.eb_term.specs.declared.operators.Side.TheVariants as side
use Rattle.occ_domains.specs.declared.body.Body.{Body, Body-F, out-Body}
use Rattle.occ_domains.specs.declared.body.Body.TheOpen as body
use Rattle.occ_domains.specs.declared.body.Body.TheVariants as of
use Rattle.occ_domains.specs.declared.domain.Domain.{Domain}
use Rattle.occ_domains.specs.declared.domain.Domain.TheVariants as domain
use Rattle.occ_domains.specs.Bodies.{is_empty, meet, pairs}

-- ---- `E |-> F`

-- Down to a side: what the whole has there, unless the whole or the other side is empty
abbrev pub side_layer : Side → Body-F Body → Body → Body
side_layer side.First (body.Pairs x y) a = meet a x
side_layer side.Second (body.Pairs x y) a = meet a y
side_layer s _ a = a

abbrev pub side_of : Side → Body → Body → Body
side_of s whole a = side_layer s (out-Body whole) a

abbrev pub down_pair : Side → Body → Body → Body → Body
down_pair s whole a other = if is_empty other then a else side_of s whole a

-- ---- a part of a pair

-- Up: the part of the body; what has no pairs has no parts
abbrev pub of_part : Body → Bool → Domain
of_part b undefined = domain.Values b undefined

abbrev pub part_layer : Side → Bool → Body-F Body → Domain
part_layer side.First undefined (body.Pairs x y) = of_part x undefined
part_layer side.Second undefined (body.Pairs x y) = of_part y undefined
part_layer s undefined body.Empty = domain.Values of.Empty undefined
part_layer s undefined _ = domain.Values of.Empty true

abbrev pub up_part : Side → Body → Bool → Domain
up_part s b undefined = part_layer s undefined (out-Body b)

-- Down: the pairs whose part the whole has, unless the whole is empty
abbrev pub paired_layer : Side → Body → Body-F Body → Body → Body
paired_layer side.First whole (body.Pairs x y) b = pairs (meet x whole) y
paired_layer side.Second whole (body.Pairs x y) b = pairs x (meet y whole)
paired_layer s whole _ b = b

abbrev pub paired : Side → Body → Body → Body
paired s whole b = paired_layer s whole (out-Body b) b

abbrev pub down_part : Side → Body → Body → Body
down_part s whole b = if is_empty whole then b else paired s whole b
