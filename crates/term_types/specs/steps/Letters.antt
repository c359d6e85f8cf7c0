-- The type of a term in the steps of the code.
use Rattle.std.specs.Prelude.{List, map, Option, option_map, option_and_then, unwrap_or}
use Rattle.eb_value.specs.declared.types.EbType.{EbType}
use Rattle.eb_value.specs.Types.{integer, boolean, carrier, product, power}
use Rattle.type_table.specs.declared.pattern.Letter.{Letter}
use Rattle.type_table.specs.declared.pattern.Pattern.{Pattern}
use Rattle.type_table.specs.declared.pattern.Pattern.TheVariants as p
use Rattle.type_table.specs.Rows.{Choice, chosen, relation}
use Rattle.std.specs.Option.{option_copied}
use Rattle.eb_term.specs.declared.operators.Side.{Side}
use Rattle.eb_term.specs.declared.term.Term.{Term}
use Rattle.eb_term.specs.Typed.{part_of_type, of_two}
use Rattle.term_types.specs.Types.{first_of, second_of, of_letters, first_type, type_of}
use Rattle.term_types.specs.declared.types.Letters.{Letters}

-- the type of a set, by its first member
abbrev pub set_of_first : List Term → Option EbType
set_of_first ts = option_map power (first_type (map type_of ts))

abbrev pub part_of : Side → Option EbType → Option EbType
part_of s t = option_and_then (part_of_type s) t

abbrev pub projection : Side → EbType → EbType → EbType
projection s a b = relation (product a b) (of_two s a b)

abbrev pub letter_in_pair : Letter → Letter → Letter → Option EbType → Option EbType
letter_in_pair l x y t = of_letters l x y (option_and_then first_of t) (option_and_then second_of t)

-- what the letters stand for
abbrev pub choice_of : Letters → Choice
choice_of letters = record {
  for_a = unwrap_or (option_copied letters.a) boolean;
  for_b = unwrap_or (option_copied letters.b) boolean;
  for_c = unwrap_or (option_copied letters.c) boolean;
  for_d = unwrap_or (option_copied letters.d) boolean;
}

-- what a pattern says, BOOL for a predicate
abbrev pub type_by_pattern : Choice → Pattern → EbType
type_by_pattern v p.Predicate = boolean
type_by_pattern v p.Integer = integer
type_by_pattern v p.Boolean = boolean
type_by_pattern v p.Integers = power integer
type_by_pattern v p.Booleans = power boolean
type_by_pattern v (p.Atoms s) = power (carrier s)
type_by_pattern v (p.Type x) = chosen v x
type_by_pattern v (p.Pair x y) = product (chosen v x) (chosen v y)
type_by_pattern v (p.Set x) = power (chosen v x)
type_by_pattern v (p.Sets x) = power (power (chosen v x))
type_by_pattern v (p.Relation x y) = relation (chosen v x) (chosen v y)
type_by_pattern v (p.Relations x y) = power (relation (chosen v x) (chosen v y))
type_by_pattern v p.ToPairs = relation v.for_a (product v.for_b v.for_c)
type_by_pattern v p.BetweenPairs = relation (product v.for_a v.for_b) (product v.for_c v.for_d)
type_by_pattern v p.ToFirst = relation (product v.for_a v.for_b) v.for_a
type_by_pattern v p.ToSecond = relation (product v.for_a v.for_b) v.for_b
