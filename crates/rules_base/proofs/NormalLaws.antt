-- What the rules give is in normal form where what they are given is.
use Rattle.std.proofs.Common.{◌≡◌, Bool, true, false, not, ◌||◌, ◌++◌, Option, Some, None, refl, rules}
use Rattle.eb_value.specs.declared.value.Value.{Value, the_lemmas as value_rules}
use Rattle.eb_value.specs.Values.{truth}
use Rattle.eb_term.specs.declared.operators.Side.{Side}
use Rattle.eb_term.specs.declared.operators.Side.TheVariants as side
use Rattle.occ_domains.specs.declared.body.Body.{Body, Body-F, out-Body, the_lemmas as body_rules}
use Rattle.occ_domains.specs.declared.body.Body.TheOpen as body
use Rattle.occ_domains.specs.declared.body.Body.TheVariants as of
use Rattle.occ_domains.specs.declared.domain.Truths.{Truths}
use Rattle.occ_domains.specs.declared.domain.Domain.{Domain}
use Rattle.occ_domains.specs.declared.domain.Domain.TheVariants as domain
use Rattle.occ_domains.specs.Bodies as bodies
use Rattle.occ_domains.specs.Bodies.{is_normal}
use Rattle.occ_domains.specs.Domains as domains
use Rattle.rules_integers.specs.declared.arithmetic.Arithmetic.{Arithmetic}
use Rattle.rules_integers.specs.Arithmetic.{down_by}
use Rattle.rules_integers.specs.Sums.{down_at_most}
use Rattle.rules_base.specs.declared.rule.UnaryRule.{UnaryRule}
use Rattle.rules_base.specs.declared.rule.UnaryRule.TheVariants as one
use Rattle.rules_base.specs.declared.rule.BinaryRule.{BinaryRule}
use Rattle.rules_base.specs.declared.rule.BinaryRule.TheVariants as two
use Rattle.rules_base.specs.Definedness.{is_true_alone, is_false_alone, down_defined, where_so}
use Rattle.rules_base.specs.Pairs.{side_layer, down_pair, part_layer, paired_layer, down_part}
use Rattle.rules_base.specs.Comparisons.{but_for, unequal, down_equal, bounded_layers, down_order}
use Rattle.rules_base.specs.Integers.{up_layers, down_layers}
use Rattle.rules_base.specs.Rules.{up_one, of_truths, of_values, up_two, where_defined, down_one, down_compared, down_operand, down_two}
use Rattle.rules_base.proofs.Known.{Normals, Integers}

empty_normal : is_normal of.Empty ≡ true
empty_normal = search (rules, body_rules)

-- ---- Up

truths_normal : (f t : Bool) → is_normal (bodies.members (where_so f (truth false) ++ where_so t (truth true))) ≡ true
truths_normal true true = search (rules, body_rules, value_rules)
truths_normal true false = search (rules, body_rules, value_rules)
truths_normal false true = search (rules, body_rules, value_rules)
truths_normal false false = empty_normal

module _ (normals : Normals) where
  part_normal : (s : Side) (u : Bool) (b : Body) → is_normal b ≡ true → (B : Body-F Body) → out-Body b ≡ B → domains.is_normal (part_layer s u B) ≡ true
  part_normal side.First u b n (body.Pairs x y) e = (normals.parts b x y n e).0
  part_normal side.Second u b n (body.Pairs x y) e = (normals.parts b x y n e).1
  part_normal side.First u b n body.Empty e = empty_normal
  part_normal side.First u b n (body.Integers d) e = empty_normal
  part_normal side.First u b n (body.Members xs) e = empty_normal
  part_normal side.First u b n body.AllSets e = empty_normal
  part_normal side.Second u b n body.Empty e = empty_normal
  part_normal side.Second u b n (body.Integers d) e = empty_normal
  part_normal side.Second u b n (body.Members xs) e = empty_normal
  part_normal side.Second u b n body.AllSets e = empty_normal

  pub up_one_normal : (rule : UnaryRule) (d : Domain) → domains.is_normal d ≡ true → domains.is_normal (up_one rule d) ≡ true
  up_one_normal one.Negation (domain.Truths t) n = refl
  up_one_normal one.Negation (domain.Values b u) n = empty_normal
  up_one_normal one.Defined (domain.Truths t) n = empty_normal
  up_one_normal one.Defined (domain.Values b u) n = refl
  up_one_normal one.AsValue (domain.Truths t) n = truths_normal t.can_be_false t.can_be_true
  up_one_normal one.AsValue (domain.Values b u) n = empty_normal
  up_one_normal (one.Part s) (domain.Truths t) n = empty_normal
  up_one_normal (one.Part s) (domain.Values b u) n = part_normal s u b n (out-Body b) refl

module _ (normals : Normals) (integers_known : Integers) where
  layers_normal : (o : Arithmetic) (u : Bool) (A B : Body-F Body) → domains.is_normal (up_layers o u A B) ≡ true
  layers_normal o u (body.Integers c) (body.Integers d) = integers_known.normal o (not u) c d
  layers_normal o u (body.Integers c) body.Empty = empty_normal
  layers_normal o u (body.Integers c) (body.Members xs) = empty_normal
  layers_normal o u (body.Integers c) (body.Pairs x y) = empty_normal
  layers_normal o u (body.Integers c) body.AllSets = empty_normal
  layers_normal o u body.Empty B = empty_normal
  layers_normal o u (body.Members xs) body.Empty = empty_normal
  layers_normal o u (body.Members xs) _ = empty_normal
  layers_normal o u (body.Pairs x y) body.Empty = empty_normal
  layers_normal o u (body.Pairs x y) _ = empty_normal
  layers_normal o u body.AllSets body.Empty = empty_normal
  layers_normal o u body.AllSets _ = empty_normal

  values_normal : (rule : BinaryRule) (u : Bool) (a b : Body) → is_normal a ≡ true → is_normal b ≡ true → domains.is_normal (of_values rule u a b) ≡ true
  values_normal two.Equal u a b n m = refl
  values_normal two.AtMost u a b n m = refl
  values_normal two.Pair u a b n m = normals.pairs a b n m
  values_normal (two.Arithmetic o) u a b n m = layers_normal o u (out-Body a) (out-Body b)
  values_normal (two.Connective c) u a b n m = empty_normal

  of_truths_normal : (rule : BinaryRule) (s t : Truths) → domains.is_normal (of_truths rule s t) ≡ true
  of_truths_normal (two.Connective c) s t = refl
  of_truths_normal two.Equal s t = empty_normal
  of_truths_normal two.AtMost s t = empty_normal
  of_truths_normal two.Pair s t = empty_normal
  of_truths_normal (two.Arithmetic o) s t = empty_normal

  pub up_two_normal : (rule : BinaryRule) (a b : Domain) → domains.is_normal a ≡ true → domains.is_normal b ≡ true → domains.is_normal (up_two rule a b) ≡ true
  up_two_normal rule (domain.Truths s) (domain.Truths t) n m = of_truths_normal rule s t
  up_two_normal rule (domain.Values a u) (domain.Values b v) n m = values_normal rule (u || v) a b n m
  up_two_normal rule (domain.Truths s) (domain.Values b v) n m = empty_normal
  up_two_normal rule (domain.Values a u) (domain.Truths t) n m = empty_normal

-- ---- Down

defined_normal : (c : Bool) (kept b : Body) (u : Bool) → is_normal kept ≡ true → is_normal b ≡ true → domains.is_normal (where_defined c kept b u) ≡ true
defined_normal true kept b u n m = m
defined_normal false kept b u n m = n

module _ (normals : Normals) where
  defined_part_normal : (w : Truths) (b : Body) (u : Bool) → is_normal b ≡ true → domains.is_normal (down_defined w b u) ≡ true
  defined_part_normal w b u n = at (is_false_alone w) refl where
    at : (c : Bool) → is_false_alone w ≡ c → domains.is_normal (down_defined w b u) ≡ true
    at true e = rw e empty_normal
    at false e = rw e n

  paired_normal : (s : Side) (w b : Body) → is_normal b ≡ true → (B : Body-F Body) → out-Body b ≡ B → is_normal (paired_layer s w B b) ≡ true
  paired_normal side.First w b n (body.Pairs x y) e = let p = normals.parts b x y n e in normals.pairs (bodies.meet x w) y (normals.meet x w p.0) p.1
  paired_normal side.Second w b n (body.Pairs x y) e = let p = normals.parts b x y n e in normals.pairs x (bodies.meet y w) p.0 (normals.meet y w p.1)
  paired_normal side.First w b n body.Empty e = n
  paired_normal side.First w b n (body.Integers d) e = n
  paired_normal side.First w b n (body.Members xs) e = n
  paired_normal side.First w b n body.AllSets e = n
  paired_normal side.Second w b n body.Empty e = n
  paired_normal side.Second w b n (body.Integers d) e = n
  paired_normal side.Second w b n (body.Members xs) e = n
  paired_normal side.Second w b n body.AllSets e = n

  part_down_normal : (s : Side) (w b : Body) → is_normal b ≡ true → is_normal (down_part s w b) ≡ true
  part_down_normal s w b n = at (bodies.is_empty w) refl where
    at : (c : Bool) → bodies.is_empty w ≡ c → is_normal (down_part s w b) ≡ true
    at true e = rw e n
    at false e = rw e (paired_normal s w b n (out-Body b) refl)

  pub down_one_normal : (rule : UnaryRule) (w d : Domain) → domains.is_normal d ≡ true → domains.is_normal (down_one rule w d) ≡ true
  down_one_normal one.Negation (domain.Truths w) (domain.Truths t) n = refl
  down_one_normal one.Negation (domain.Truths w) (domain.Values b u) n = n
  down_one_normal one.Negation (domain.Values w u) d n = n
  down_one_normal one.Defined (domain.Truths w) (domain.Values b u) n = defined_part_normal w b u n
  down_one_normal one.Defined (domain.Truths w) (domain.Truths t) n = n
  down_one_normal one.Defined (domain.Values w u) d n = n
  down_one_normal one.AsValue (domain.Values w u) (domain.Truths t) n = refl
  down_one_normal one.AsValue (domain.Values w u) (domain.Values b v) n = n
  down_one_normal one.AsValue (domain.Truths w) d n = n
  down_one_normal (one.Part s) (domain.Values w u) (domain.Values b v) n = defined_normal u (down_part s w b) b v (part_down_normal s w b n) n
  down_one_normal (one.Part s) (domain.Values w u) (domain.Truths t) n = n
  down_one_normal (one.Part s) (domain.Truths w) d n = n

  unequal_normal : (a b : Body) → is_normal a ≡ true → is_normal (unequal a b) ≡ true
  unequal_normal a b n = at (bodies.single b) where
    at : (x : Option Value) → is_normal (but_for a x) ≡ true
    at None = n
    at (Some v) = normals.without a v n

  equal_normal : (w : Truths) (a b : Body) → is_normal a ≡ true → is_normal (down_equal w a b) ≡ true
  equal_normal w a b n = at (is_true_alone w) (is_false_alone w) refl refl where
    at : (c d : Bool) → is_true_alone w ≡ c → is_false_alone w ≡ d → is_normal (down_equal w a b) ≡ true
    at true d e f = rw e (normals.meet a b n)
    at false true e f = rw (e, f) (unequal_normal a b n)
    at false false e f = rw (e, f) n

  bounded_normal : (s : Side) (c : Bool) (A B : Body-F Body) (a : Body) → is_normal a ≡ true → is_normal (bounded_layers s c A B a) ≡ true
  bounded_normal s c (body.Integers d) (body.Integers e) a n = normals.integers (bodies.common d (down_at_most s c e))
  bounded_normal s c (body.Integers d) body.Empty a n = n
  bounded_normal s c (body.Integers d) (body.Members xs) a n = n
  bounded_normal s c (body.Integers d) (body.Pairs x y) a n = n
  bounded_normal s c (body.Integers d) body.AllSets a n = n
  bounded_normal s c body.Empty B a n = n
  bounded_normal s c (body.Members xs) B a n = n
  bounded_normal s c (body.Pairs x y) B a n = n
  bounded_normal s c body.AllSets B a n = n

  order_normal : (s : Side) (w : Truths) (a b : Body) → is_normal a ≡ true → is_normal (down_order s w a b) ≡ true
  order_normal s w a b n = at (is_true_alone w) (is_false_alone w) refl refl where
    at : (c d : Bool) → is_true_alone w ≡ c → is_false_alone w ≡ d → is_normal (down_order s w a b) ≡ true
    at true d e f = rw e (bounded_normal s true (out-Body a) (out-Body b) a n)
    at false true e f = rw (e, f) (bounded_normal s false (out-Body a) (out-Body b) a n)
    at false false e f = rw (e, f) n

  side_normal : (s : Side) (W : Body-F Body) (a : Body) → is_normal a ≡ true → is_normal (side_layer s W a) ≡ true
  side_normal side.First (body.Pairs x y) a n = normals.meet a x n
  side_normal side.Second (body.Pairs x y) a n = normals.meet a y n
  side_normal side.First body.Empty a n = n
  side_normal side.First (body.Integers d) a n = n
  side_normal side.First (body.Members xs) a n = n
  side_normal side.First body.AllSets a n = n
  side_normal side.Second body.Empty a n = n
  side_normal side.Second (body.Integers d) a n = n
  side_normal side.Second (body.Members xs) a n = n
  side_normal side.Second body.AllSets a n = n

  pair_normal : (s : Side) (w a b : Body) → is_normal a ≡ true → is_normal (down_pair s w a b) ≡ true
  pair_normal s w a b n = at (bodies.is_empty b) refl where
    at : (c : Bool) → bodies.is_empty b ≡ c → is_normal (down_pair s w a b) ≡ true
    at true e = rw e n
    at false e = rw e (side_normal s (out-Body w) a n)

  arithmetic_normal : (o : Arithmetic) (s : Side) (W A B : Body-F Body) (a : Body) → is_normal a ≡ true → is_normal (down_layers o s W A B a) ≡ true
  arithmetic_normal o s (body.Integers e) (body.Integers c) (body.Integers d) a n = normals.integers (bodies.common c (down_by o s e c d))
  arithmetic_normal o s (body.Integers e) (body.Integers c) body.Empty a n = n
  arithmetic_normal o s (body.Integers e) (body.Integers c) (body.Members ys) a n = n
  arithmetic_normal o s (body.Integers e) (body.Integers c) (body.Pairs x y) a n = n
  arithmetic_normal o s (body.Integers e) (body.Integers c) body.AllSets a n = n
  arithmetic_normal o s (body.Integers e) body.Empty B a n = n
  arithmetic_normal o s (body.Integers e) (body.Members xs) B a n = n
  arithmetic_normal o s (body.Integers e) (body.Pairs x y) B a n = n
  arithmetic_normal o s (body.Integers e) body.AllSets B a n = n
  arithmetic_normal o s body.Empty A B a n = n
  arithmetic_normal o s (body.Members xs) A B a n = n
  arithmetic_normal o s (body.Pairs x y) A B a n = n
  arithmetic_normal o s body.AllSets A B a n = n

  compared_normal : (rule : BinaryRule) (s : Side) (w : Truths) (a b : Body) → is_normal a ≡ true → is_normal (down_compared rule s w a b) ≡ true
  compared_normal two.Equal s w a b n = equal_normal w a b n
  compared_normal two.AtMost s w a b n = order_normal s w a b n
  compared_normal two.Pair s w a b n = n
  compared_normal (two.Arithmetic o) s w a b n = n
  compared_normal (two.Connective c) s w a b n = n

  operand_normal : (rule : BinaryRule) (s : Side) (w a b : Body) → is_normal a ≡ true → is_normal (down_operand rule s w a b) ≡ true
  operand_normal two.Pair s w a b n = pair_normal s w a b n
  operand_normal (two.Arithmetic o) s w a b n = arithmetic_normal o s (out-Body w) (out-Body a) (out-Body b) a n
  operand_normal two.Equal s w a b n = n
  operand_normal two.AtMost s w a b n = n
  operand_normal (two.Connective c) s w a b n = n

  pub down_two_normal : (rule : BinaryRule) (s : Side) (w a b : Domain) → domains.is_normal a ≡ true → domains.is_normal (down_two rule s w a b) ≡ true
  down_two_normal rule s (domain.Truths w) (domain.Truths t) (domain.Truths o) n = refl
  down_two_normal rule s (domain.Truths w) (domain.Values a u) (domain.Values b t) n = defined_normal w.can_be_undefined (down_compared rule s w a b) a u (compared_normal rule s w a b n) n
  down_two_normal rule s (domain.Values w c) (domain.Values a u) (domain.Values b t) n = defined_normal c (down_operand rule s w a b) a u (operand_normal rule s w a b n) n
  down_two_normal rule s (domain.Truths w) (domain.Truths t) (domain.Values b v) n = n
  down_two_normal rule s (domain.Truths w) (domain.Values a u) (domain.Truths o) n = n
  down_two_normal rule s (domain.Values w c) (domain.Truths t) b n = n
  down_two_normal rule s (domain.Values w c) (domain.Values a u) (domain.Truths o) n = n
