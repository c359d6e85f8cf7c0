-- The terms of formulas: formulas with values and references in place of names, and with ranges for what is bound.
use Rattle.std.specs.Prelude.{ℕ, ◌+◌, true, false, if◌then◌else◌, ◌==◌, ℤ, pos, List, [], ◌∷◌, ◌++◌, map, fold, Option, Some, None, option_and_then, unwrap_or, slice_get}
use Rattle.std.specs.List.{flat_map}
use Rattle.eb_syntax.specs.declared.ast.Constant.{Constant}
use Rattle.eb_syntax.specs.declared.ast.Constant.TheVariants as constant
use Rattle.eb_syntax.specs.declared.ast.Call.TheVariants as call
use Rattle.eb_syntax.specs.declared.ast.Operator.{Operator}
use Rattle.eb_syntax.specs.declared.ast.Operator.TheVariants as op
use Rattle.eb_syntax.specs.declared.ast.Quantifier.{Quantifier}
use Rattle.eb_syntax.specs.declared.ast.Quantifier.TheVariants as quantifier
use Rattle.eb_syntax.specs.declared.ast.Binder.{Binder as Gatherer}
use Rattle.eb_syntax.specs.declared.ast.Binder.TheVariants as gather
use Rattle.eb_syntax.specs.declared.ast.Bound.{Bound}
use Rattle.eb_syntax.specs.declared.ast.Bound.TheVariants as bound
use Rattle.eb_value.specs.declared.types.EbType.{EbType}
use Rattle.eb_value.specs.Types.{integer, boolean, carrier, product, power}
use Rattle.eb_value.specs.Typing.{in_range}
use Rattle.eb_value.specs.Values.{truth, set}
use Rattle.type_table.specs.Rows.{relation}
use Rattle.eb_term.specs.declared.operators.Unary.TheVariants as unary
use Rattle.eb_term.specs.declared.operators.Binary.TheVariants as binary
use Rattle.eb_term.specs.declared.operators.Many.TheVariants as many
use Rattle.eb_term.specs.declared.operators.Binder.{Binder}
use Rattle.eb_term.specs.declared.operators.Binder.TheVariants as binder
use Rattle.eb_term.specs.declared.operators.Infinite.TheVariants as infinite
use Rattle.eb_term.specs.declared.operators.Side.{Side}
use Rattle.eb_term.specs.declared.operators.Side.TheVariants as side
use Rattle.eb_term.specs.declared.term.Term.{Term}
use Rattle.eb_term.specs.Terms as term
use Rattle.eb_term.specs.Typed.{part_of_type}
use Rattle.narrow_terms.specs.Building.{operation, extension, pair, empty_set}
use Rattle.narrow_terms.specs.Parts.{element_of}
use Rattle.numbered_names.specs.declared.entries.Entry.{Entry}
use Rattle.eb_resolved.specs.declared.resolved.Resolved.{Resolved}
use Rattle.eb_resolved.specs.declared.resolved.ResolvedNode.{ResolvedNode-F}
use Rattle.eb_resolved.specs.declared.resolved.ResolvedNode.TheOpen as form
use Rattle.eb_resolved.specs.Formulas.{by_parts}
use Rattle.eb_resolved.specs.Patterns.{pattern_from, ungrouped}
use Rattle.eb_forms.specs.Forms.{operator_kind, constant_kind, call_kind, is_value}
use Rattle.eb_forms.specs.declared.kind.Kind.{Kind}
use Rattle.eb_forms.specs.declared.kind.Kind.TheVariants as kind
use Rattle.eb_forms.specs.Widths.{bound_identifiers}
use Rattle.eb_resolved.specs.Resolving.{entries_from}
use Rattle.eb_lowering.specs.declared.setting.Setting.{Setting}
use Rattle.eb_lowering.specs.declared.setting.Ranges.{Ranges}
use Rattle.eb_lowering.specs.declared.setting.Ranges.TheVariants as ranges
use Rattle.eb_lowering.specs.declared.around.Around.{Around}
use Rattle.eb_lowering.specs.declared.around.Leaf.{Leaf}
use Rattle.eb_lowering.specs.declared.around.Place.{Place}
use Rattle.eb_lowering.specs.Anchors.{Conjunct, Range, over, all, paired, ranges_of}

-- the type of an identifier or a mark
abbrev pub type_at : Setting → ℕ → EbType
type_at s k = unwrap_or (slice_get s.types k) boolean

-- a type that tells a number: INT ** S, where S is the carrier set with this number
abbrev pub telling : ℕ → EbType
telling k = product integer (carrier k)

-- what stands at the range of an identifier without an anchor: the type whose values it takes, or one that tells its number
abbrev pub range_type : Ranges → Setting → ℕ → EbType
range_type ranges.Typed s k = type_at s k
range_type ranges.Told s k = telling k

abbrev pub range_at : Setting → ℕ → EbType
range_at s k = range_type s.ranges s k

abbrev pub outermost : Around
outermost = record { depth = 0; bound = [] }

abbrev pub place_of : ℕ → Leaf → Place
place_of binder l = record { number = l.number; binder = binder; path = l.path }

-- an identifier by itself
abbrev pub leaf : ℕ → Leaf
leaf k = record { number = k; path = [] }

-- inside one more binder, whose value has these identifiers
abbrev pub inside : Around → List Leaf → Around
inside w ls = record { depth = w.depth + 1; bound = w.bound ++ map (place_of w.depth) ls }

-- the last place of an identifier
abbrev pub place_in : List Place → ℕ → Option Place
place_in ps k = fold (λ found p. if p.number == k then Some p else found) None ps

-- an expression of this type without a value: what the empty relation has at 0
abbrev pub no_value : EbType → Term
no_value t = operation op.Apply (empty_set (relation integer t)) (term.integer (pos 0))

-- a number, which has a value where it is in the range of integers
abbrev pub number_term : ℤ → Term
number_term n = if in_range n then term.integer n else no_value integer

-- what is declared, where the setting has a term for it
abbrev pub declared_term : Setting → ℕ → Term
declared_term s k = unwrap_or (unwrap_or (slice_get s.known k) None) (no_value (type_at s k))

abbrev pub bound_term : Setting → ℕ → Option Place → Term
bound_term s k None = declared_term s k
bound_term s k (Some p) = term.variable p.binder p.path (type_at s k)

-- an identifier: a binder's value or a part of it, or what is declared
abbrev pub identifier_term : Setting → ℕ → Around → Term
identifier_term s k w = bound_term s k (place_in w.bound k)

-- BOOL, as the set of its values
abbrev pub booleans : Term
booleans = term.literal (set (truth false ∷ truth true ∷ [])) (power boolean)

abbrev pub constant_term : Constant → Term
constant_term constant.Truth = term.truth true
constant_term constant.Falsity = term.truth false
constant_term constant.Integers = term.infinite infinite.Integers
constant_term constant.Naturals = term.infinite infinite.Naturals
constant_term constant.PositiveNaturals = term.infinite infinite.PositiveNaturals
constant_term constant.Booleans = booleans
constant_term constant.TrueValue = term.literal (truth true) boolean
constant_term constant.FalseValue = term.literal (truth false) boolean
constant_term c = no_value boolean

-- of the pairs of a relation the first, or the second
abbrev pub side_type : Side → EbType → EbType
side_type s t = unwrap_or (option_and_then (part_of_type s) (element_of t)) boolean

abbrev pub part_type : Side → EbType → EbType
part_type s t = unwrap_or (part_of_type s t) boolean

-- a mark of this type: prj1 and prj2 are relations from pairs
abbrev pub mark_term : Constant → EbType → Term
mark_term constant.EmptySet t = empty_set t
mark_term constant.Identity t = term.identity (side_type side.First t)
mark_term constant.FirstProjection t = term.projection side.First (part_type side.First (side_type side.First t)) (part_type side.Second (side_type side.First t))
mark_term constant.SecondProjection t = term.projection side.Second (part_type side.First (side_type side.First t)) (part_type side.Second (side_type side.First t))
mark_term c t = no_value t

-- What becomes of a formula: its term by the binders around it; its kind, the identifiers that it uses and those that it is made
-- of by `|->`; its conjuncts; and those of the left side of an implication.
pub record Lowered : Type 0 where
  pub term : Around → Term
  pub kind : Kind
  pub uses : List ℕ
  pub leaves : Option (List Leaf)
  pub conjuncts : List (Conjunct (Around → Term))
  pub premises : List (Conjunct (Around → Term))

abbrev pub other_conjunct : (Around → Term) → List (Conjunct (Around → Term))
other_conjunct t = record { leaves = None; range = t; uses = []; is_value = true } ∷ []

-- a value or a predicate, which is its own conjunct
abbrev pub formula : List ℕ → (Around → Term) → Lowered
formula uses t = record { term = t; kind = kind.Value; uses = uses; leaves = None; conjuncts = other_conjunct t; premises = [] }

abbrev pub of_kind : Kind → List ℕ → (Around → Term) → Lowered
of_kind k uses t = record { term = t; kind = k; uses = uses; leaves = None; conjuncts = other_conjunct t; premises = [] }

abbrev pub membership : Lowered → Lowered → List (Conjunct (Around → Term))
membership a b = record { leaves = a.leaves; range = b.term; uses = b.uses; is_value = is_value b.kind } ∷ []

abbrev pub conjuncts_by : Operator → (Around → Term) → Lowered → Lowered → List (Conjunct (Around → Term))
conjuncts_by op.And t a b = a.conjuncts ++ b.conjuncts
conjuncts_by op.MemberOf t a b = membership a b
conjuncts_by o t a b = other_conjunct t

abbrev pub premises_by : Operator → Lowered → List (Conjunct (Around → Term))
premises_by op.Implies a = a.conjuncts
premises_by o a = []

abbrev pub leaves_by : Operator → Lowered → Lowered → Option (List Leaf)
leaves_by op.MapsTo a b = paired a.leaves b.leaves
leaves_by o a b = None

abbrev pub by_operator : Operator → Lowered → Lowered → Lowered
by_operator o a b =
    let t : Around → Term = λ w. operation o (a.term w) (b.term w) in
    record {
      term = t;
      kind = operator_kind o a.kind b.kind;
      uses = a.uses ++ b.uses;
      leaves = leaves_by o a b;
      conjuncts = conjuncts_by o t a b;
      premises = premises_by o a;
    }

abbrev pub identifier : Setting → ℕ → Lowered
identifier s k = record { term = identifier_term s k; kind = kind.Value; uses = k ∷ []; leaves = Some (leaf k ∷ []); conjuncts = other_conjunct (identifier_term s k); premises = [] }

-- a body under a binder for each range, the first outermost
abbrev pub bind : Setting → Binder → List (Range (Around → Term)) → (Around → Term) → Around → Term
bind s o [] body w = body w
bind s o (over ls range ∷ rs) body w = term.over o (range w) (bind s o rs body (inside w ls))
bind s o (all k ∷ rs) body w = term.all o (range_at s k) (bind s o rs body (inside w (leaf k ∷ [])))

abbrev pub entry_numbers : List Entry → List ℕ
entry_numbers es = map (λ e. e.number) es

abbrev pub quantifier_binder : Quantifier → Binder
quantifier_binder quantifier.ForAll = binder.ForAll
quantifier_binder quantifier.Exists = binder.Exists

-- the predicate that has the anchors: for `!` the left side of an implication
abbrev pub anchors_of : Quantifier → Lowered → List (Conjunct (Around → Term))
anchors_of quantifier.ForAll p = p.premises
anchors_of quantifier.Exists p = p.conjuncts

abbrev pub quantified : Setting → Quantifier → List ℕ → Lowered → Lowered
quantified s q ks p = formula p.uses (bind s (quantifier_binder q) (ranges_of ks (anchors_of q p)) p.term)

-- the union of the sets at all values of the ranges where the predicate is True
abbrev pub collected : Setting → List ℕ → Lowered → (Around → Term) → Around → Term
collected s ks p value = bind s binder.Collect (ranges_of ks p.conjuncts) (λ w. term.binary binary.If (p.term w) (value w))

-- {x.P|E}
abbrev pub comprehension : Setting → List ℕ → Lowered → (Around → Term) → Around → Term
comprehension s ks p e = collected s ks p (λ w. extension (e w))

-- the pattern of a `%` as an expression
abbrev pub pattern_term : Setting → Bound → ℕ → Around → Term
pattern_term s (bound.Pattern ms) first w = unwrap_or (pattern_from (λ k. Some (identifier_term s k w)) pair ms (ungrouped Term first)) (no_value boolean)
pattern_term s (bound.Identifiers xs) first w = no_value boolean

-- `%p.P|E` has the pairs of p and E, UNION the members of each E, and INTER those of all
abbrev pub gathered : Setting → Gatherer → Bound → ℕ → List ℕ → Lowered → Lowered → Around → Term
gathered s gather.Lambda b first ks p e = comprehension s ks p (λ w. pair (pattern_term s b first w) (e.term w))
gathered s gather.Union b first ks p e = collected s ks p e.term
gathered s gather.Intersection b first ks p e = λ w. term.unary (unary.Call call.GeneralizedIntersection) (comprehension s ks p e.term w)

abbrev pub all_uses : List Lowered → List ℕ
all_uses ls = flat_map (λ l. l.uses) ls

abbrev pub lower_step : Setting → ResolvedNode-F Lowered Lowered → Lowered
lower_step s (form.Number n) = formula [] (λ w. number_term n)
lower_step s (form.Identifier k) = identifier s k
lower_step s (form.Primed k) = formula [] (λ w. no_value (type_at s k))
lower_step s (form.Unknown x is_primed) = formula [] (λ w. no_value boolean)
lower_step s (form.Constant c) = of_kind (constant_kind c) [] (λ w. constant_term c)
lower_step s (form.Mark c k) = formula [] (λ w. mark_term c (type_at s k))
lower_step s (form.Prefix o a) = formula a.uses (λ w. term.unary (unary.Prefix o) (a.term w))
lower_step s (form.Call c a) = of_kind (call_kind c) a.uses (λ w. term.unary (unary.Call c) (a.term w))
lower_step s (form.Inverse a) = formula a.uses (λ w. term.unary unary.Inverse (a.term w))
lower_step s (form.Operator o a b) = by_operator o a b
lower_step s (form.Quantifier q es p) = quantified s q (entry_numbers es) p
lower_step s (form.Binder o b first p e) = formula (p.uses ++ e.uses) (gathered s o b first (entry_numbers (entries_from first (bound_identifiers b))) p e)
lower_step s (form.Comprehension es p e) = formula (p.uses ++ e.uses) (comprehension s (entry_numbers es) p e.term)
lower_step s (form.Builder es e p) = formula (e.uses ++ p.uses) (comprehension s (entry_numbers es) p e.term)
lower_step s (form.Extension ls) = formula (all_uses ls) (λ w. term.many many.Extension (map (λ l. l.term w) ls))
lower_step s (form.Partition ls) = formula (all_uses ls) (λ w. term.many many.Partition (map (λ l. l.term w) ls))

abbrev pub lowered : Setting → Resolved → Lowered
lowered s = by_parts Lowered (lower_step s)

-- the term of a formula that stands under no binder
abbrev pub term_of : Setting → Resolved → Term
term_of s r = (lowered s r).term outermost
