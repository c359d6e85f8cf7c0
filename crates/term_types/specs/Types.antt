-- The type of a term, by the table of types.
use Rattle.std.specs.Prelude.{Bool, true, false, if◌then◌else◌, List, [], ◌∷◌, Option, Some, None, option_map, option_and_then, unwrap_or}
use Rattle.eb_value.specs.declared.types.EbType.{EbType}
use Rattle.eb_value.specs.Types.{integer, boolean, product, power}
use Rattle.type_table.specs.declared.pattern.Letter.{Letter}
use Rattle.type_table.specs.declared.pattern.Letter.TheVariants.{A, B, C, D}
use Rattle.type_table.specs.declared.pattern.Pattern.{Pattern}
use Rattle.type_table.specs.declared.pattern.Pattern.TheVariants as p
use Rattle.type_table.specs.declared.pattern.UnaryRow.{UnaryRow}
use Rattle.type_table.specs.declared.pattern.BinaryRow.{BinaryRow}
use Rattle.type_table.specs.Rows.{Sort, predicate, expression, Choice, sort, relation, prefix_row, call_row, inverse_row, operator_row}
use Rattle.eb_term.specs.declared.operators.Unary.{Unary}
use Rattle.eb_term.specs.declared.operators.Unary.TheVariants as unary
use Rattle.eb_term.specs.declared.operators.Binary.{Binary}
use Rattle.eb_term.specs.declared.operators.Binary.TheVariants as binary
use Rattle.eb_term.specs.declared.operators.Many.{Many}
use Rattle.eb_term.specs.declared.operators.Many.TheVariants as many
use Rattle.eb_term.specs.declared.operators.Binder.{Binder}
use Rattle.eb_term.specs.declared.operators.Binder.TheVariants as binder
use Rattle.eb_term.specs.declared.operators.Side.TheVariants as side
use Rattle.eb_term.specs.declared.term.Term.{Term}
use Rattle.eb_term.specs.declared.term.Head.{Head-F}
use Rattle.eb_term.specs.declared.term.Head.TheOpen as head
use Rattle.eb_term.specs.Terms.{by_parts}
use Rattle.eb_term.specs.Typed.{part_of_type, of_two}
use Rattle.narrow_terms.specs.Parts.{element_of}

abbrev pub first_of : EbType → Option EbType
first_of t = part_of_type side.First t

abbrev pub second_of : EbType → Option EbType
second_of t = part_of_type side.Second t

abbrev pub is_letter : Letter → Letter → Bool
is_letter A A = true
is_letter B B = true
is_letter C C = true
is_letter D D = true
is_letter _ _ = false

-- the letter's type, by those of two letters
abbrev pub of_letters : Letter → Letter → Letter → Option EbType → Option EbType → Option EbType
of_letters l x y s t = if is_letter l x then s else (if is_letter l y then t else None)

-- what a letter stands for where a pattern is this type
abbrev pub letter_in : Letter → Pattern → EbType → Option EbType
letter_in l (p.Type x) t = if is_letter l x then Some t else None
letter_in l (p.Pair x y) t = of_letters l x y (first_of t) (second_of t)
letter_in l (p.Set x) t = if is_letter l x then element_of t else None
letter_in l (p.Sets x) t = if is_letter l x then option_and_then element_of (element_of t) else None
letter_in l (p.Relation x y) t = of_letters l x y (option_and_then first_of (element_of t)) (option_and_then second_of (element_of t))
letter_in l (p.Relations x y) t = of_letters l x y (option_and_then first_of (option_and_then element_of (element_of t))) (option_and_then second_of (option_and_then element_of (element_of t)))
letter_in l _ t = None

-- the first that there is
abbrev pub or_else : Option EbType → Option EbType → Option EbType
or_else None t = t
or_else (Some s) t = Some s

abbrev pub letter_of : Letter → Pattern → Option EbType → Option EbType
letter_of l x t = option_and_then (letter_in l x) t

-- a letter that no part tells stands for BOOL; no row has one
abbrev pub choice_by : (Letter → Option EbType) → Choice
choice_by f = record { for_a = unwrap_or (f A) boolean; for_b = unwrap_or (f B) boolean; for_c = unwrap_or (f C) boolean; for_d = unwrap_or (f D) boolean }

abbrev pub type_in : Sort → Option EbType
type_in predicate = None
type_in (expression t) = Some t

abbrev pub type_by_unary_row : UnaryRow → Option EbType → Option EbType
type_by_unary_row row t = type_in (sort (choice_by (λ l. letter_of l row.part t)) row.whole)

abbrev pub type_by_binary_row : BinaryRow → Option EbType → Option EbType → Option EbType
type_by_binary_row row s t = type_in (sort (choice_by (λ l. or_else (letter_of l row.left s) (letter_of l row.right t))) row.whole)

abbrev pub type_by_unary : Unary → Option EbType → Option EbType
type_by_unary (unary.Prefix o) t = type_by_unary_row (prefix_row o) t
type_by_unary (unary.Call o) t = type_by_unary_row (call_row o) t
type_by_unary unary.Inverse t = type_by_unary_row inverse_row t
type_by_unary unary.Defined t = None
type_by_unary unary.Functional t = None
type_by_unary (unary.Part s) t = option_and_then (part_of_type s) t

abbrev pub type_by_binary : Binary → Option EbType → Option EbType → Option EbType
type_by_binary (binary.Operator o) s t = type_by_binary_row (operator_row o) s t
type_by_binary binary.Both s t = None
type_by_binary binary.If s t = t

abbrev pub first_type : List (Option EbType) → Option EbType
first_type [] = None
first_type (t ∷ ts) = t

abbrev pub type_by_many : Many → List (Option EbType) → Option EbType
type_by_many many.Extension ts = option_map power (first_type ts)
type_by_many many.Partition ts = None

abbrev pub type_by_binder : Binder → Option EbType → Option EbType
type_by_binder binder.ForAll t = None
type_by_binder binder.Exists t = None
type_by_binder binder.Collect t = t

abbrev pub type_step : Head-F (Option EbType) (Option EbType) → Option EbType
type_step (head.Truth b) = None
type_step (head.Literal v t) = Some t
type_step (head.Reference place t) = Some t
type_step (head.Variable k path t) = Some t
type_step (head.Infinite i) = Some (power integer)
type_step (head.Identity t) = Some (relation t t)
type_step (head.Projection s a b) = Some (relation (product a b) (of_two s a b))
type_step (head.Unary o t) = type_by_unary o t
type_step (head.Binary o s t) = type_by_binary o s t
type_step (head.Many o ts) = type_by_many o ts
type_step (head.Over o range body) = type_by_binder o body
type_step (head.All o t body) = type_by_binder o body

-- the type of an expression, none of a predicate
abbrev pub type_of : Term → Option EbType
type_of = by_parts (Option EbType) type_step

-- the type of the members of a set, BOOL where it is none
abbrev pub element_type : Option EbType → EbType
element_type t = unwrap_or (option_and_then element_of t) boolean

abbrev pub type_or_any : Option EbType → EbType
type_or_any t = unwrap_or t boolean
