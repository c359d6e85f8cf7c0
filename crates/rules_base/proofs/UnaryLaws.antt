-- Up and Down of operators on one part are sound.
use Rattle.std.proofs.Common.{◌≡◌, ◌∙◌, Bool, true, false, not, ◌&&◌, ◌||◌, ◌++◌, Option, Some, None, refl, sym, ap, subst, rules}
use Rattle.std.specs.Prelude.{option_map, option_and_then}
use Rattle.eb_value.specs.declared.value.Value.{Value, the_lemmas as value_rules}
use Rattle.eb_value.specs.declared.value.Form.TheOpen as val
use Rattle.eb_value.specs.Values.{Layer, layer, truth}
use Rattle.eb_value.specs.Comprehensions.{maplet_in}
use Rattle.eb_operations.specs.declared.truth3.Truth3.{Truth3}
use Rattle.eb_operations.specs.declared.truth3.Truth3.TheVariants.{True, False, Undefined}
use Rattle.eb_operations.specs.Truths.{negation}
use Rattle.eb_operations.specs.Operations.{bool_of, part_of, part_of_maplet}
use Rattle.eb_term.specs.declared.operators.Side.{Side}
use Rattle.eb_term.specs.declared.operators.Side.TheVariants as side
use Rattle.occ_domains.specs.declared.body.Body.{Body, Body-F, out-Body, the_lemmas as body_rules}
use Rattle.occ_domains.specs.declared.body.Body.TheOpen as body
use Rattle.occ_domains.specs.declared.domain.Truths.{Truths}
use Rattle.occ_domains.specs.declared.domain.Domain.{Domain}
use Rattle.occ_domains.specs.declared.domain.Domain.TheVariants as domain
use Rattle.occ_domains.specs.Bodies as bodies
use Rattle.occ_domains.specs.Domains as domains
use Rattle.occ_domains.specs.Domains.{Outcome, slot, has, has_truth, has_slot}
use Rattle.rules_base.specs.declared.rule.UnaryRule.{UnaryRule}
use Rattle.rules_base.specs.declared.rule.UnaryRule.TheVariants as one
use Rattle.rules_base.specs.Connectives.{up_negation, down_negation}
use Rattle.rules_base.specs.Definedness.{defined, up_defined, down_defined, where_so, up_as_value, down_as_value}
use Rattle.rules_base.specs.Pairs.{part_layer, up_part, down_part, paired_layer}
use Rattle.rules_base.specs.Outcomes.{of_one}
use Rattle.rules_base.specs.Rules.{up_one, down_one, where_defined}
use Rattle.rules_base.proofs.Known.{Bodies, first_true, second_true, both_true, or_second, some_of}

-- ---- Up

up_negation_has : (t : Truths) (p : Truth3) → has_truth t p ≡ true → has_truth (up_negation t) (negation p) ≡ true
up_negation_has t True h = search (rules, h)
up_negation_has t False h = search (rules, h)
up_negation_has t Undefined h = search (rules, h)

module _ (known : Bodies) where
  not_empty : (b : Body) (v : Value) → bodies.has b v ≡ true → bodies.is_empty b ≡ false
  not_empty b v h = at (bodies.is_empty b) refl where
    at : (e : Bool) → bodies.is_empty b ≡ e → bodies.is_empty b ≡ false
    at false e = e
    at true e =
        let k : false ≡ true = sym (known.none b v e) ∙ h in
        cc

  up_defined_has : (b : Body) (undefined : Bool) (e : Option Value) → has_slot b undefined e ≡ true → has_truth (up_defined b undefined) (defined e) ≡ true
  up_defined_has b undefined None h = h
  up_defined_has b undefined (Some v) h = ap not (not_empty b v h)

part_at : (s : Side) (undefined : Bool) (B : Body-F Body) (v : Value) (L : Layer) → bodies.has_at B v L ≡ true
    → has (part_layer s undefined B) (slot (option_map (part_of_maplet s) (maplet_in L))) ≡ true
part_at s undefined body.Empty v L h = cc
part_at s undefined (body.Integers d) v (val.Int n) h = search rules
part_at s undefined (body.Integers d) v _ h = cc
part_at s undefined (body.Members xs) v (val.Bool b) h = search rules
part_at s undefined (body.Members xs) v (val.Atom c n) h = search rules
part_at s undefined (body.Members xs) v _ h = cc
part_at side.First undefined (body.Pairs x y) v (val.Pair a b) h = first_true (bodies.has x a) (bodies.has y b) h
part_at side.Second undefined (body.Pairs x y) v (val.Pair a b) h = second_true (bodies.has x a) (bodies.has y b) h
part_at s undefined (body.Pairs x y) v _ h = cc
part_at s undefined body.AllSets v (val.Set xs) h = search rules
part_at s undefined body.AllSets v _ h = cc

part_undefined : (s : Side) (undefined : Bool) (B : Body-F Body) → undefined ≡ true → has (part_layer s undefined B) (slot None) ≡ true
part_undefined side.First undefined (body.Pairs x y) h = h
part_undefined side.Second undefined (body.Pairs x y) h = h
part_undefined s undefined body.Empty h = search (rules, h)
part_undefined s undefined _ h = search rules

value_among : (f t undefined : Bool) (p : Truth3) → has_truth (record { can_be_true = t; can_be_false = f; can_be_undefined = undefined }) p ≡ true
    → has_slot (bodies.members (where_so f (truth false) ++ where_so t (truth true))) undefined (bool_of p) ≡ true
value_among true true u True h = search (rules, body_rules, value_rules)
value_among false true u True h = search (rules, body_rules, value_rules)
value_among f false u True h = cc
value_among true true u False h = search (rules, body_rules, value_rules)
value_among true false u False h = search (rules, body_rules, value_rules)
value_among false t u False h = cc
value_among f t u Undefined h = h

up_as_value_has : (t : Truths) (p : Truth3) → has_truth t p ≡ true → has (up_as_value t) (slot (bool_of p)) ≡ true
up_as_value_has t p h = value_among t.can_be_false t.can_be_true t.can_be_undefined p h

module _ (known : Bodies) where
  up_part_has : (s : Side) (b : Body) (undefined : Bool) (e : Option Value) → has_slot b undefined e ≡ true → has (up_part s b undefined) (slot (option_and_then (part_of s) e)) ≡ true
  up_part_has s b undefined None h = part_undefined s undefined (out-Body b) h
  up_part_has s b undefined (Some v) h = part_at s undefined (out-Body b) v (layer v) (sym (known.layers b v) ∙ h)

  pub up_one_has : (rule : UnaryRule) (d : Domain) (x z : Outcome) → has d x ≡ true → of_one rule x ≡ Some z → has (up_one rule d) z ≡ true
  up_one_has one.Negation (domain.Truths t) (domains.truth p) z h e = subst (λ o. has (domain.Truths (up_negation t)) o ≡ true) (some_of (domains.truth (negation p)) z e) (up_negation_has t p h)
  up_one_has one.Defined (domain.Values b u) (slot s) z h e = subst (λ o. has (domain.Truths (up_defined b u)) o ≡ true) (some_of (domains.truth (defined s)) z e) (up_defined_has known b u s h)
  up_one_has one.AsValue (domain.Truths t) (domains.truth p) z h e = subst (λ o. has (up_as_value t) o ≡ true) (some_of (slot (bool_of p)) z e) (up_as_value_has t p h)
  up_one_has (one.Part s) (domain.Values b u) (slot v) z h e = subst (λ o. has (up_part s b u) o ≡ true) (some_of (slot (option_and_then (part_of s) v)) z e) (up_part_has s b u v h)
  up_one_has one.Negation d (slot s) z h e = cc
  up_one_has one.Negation (domain.Values b u) (domains.truth p) z h e = cc
  up_one_has one.Defined d (domains.truth p) z h e = cc
  up_one_has one.Defined (domain.Truths t) (slot s) z h e = cc
  up_one_has one.AsValue d (slot s) z h e = cc
  up_one_has one.AsValue (domain.Values b u) (domains.truth p) z h e = cc
  up_one_has (one.Part s) d (domains.truth p) z h e = cc
  up_one_has (one.Part s) (domain.Truths t) (slot v) z h e = cc

-- ---- Down

down_negation_has : (w t : Truths) (p : Truth3) → has_truth t p ≡ true → has_truth w (negation p) ≡ true → has_truth (down_negation w t) p ≡ true
down_negation_has w t True h k = both_true t.can_be_true w.can_be_false h k
down_negation_has w t False h k = both_true t.can_be_false w.can_be_true h k
down_negation_has w t Undefined h k = both_true t.can_be_undefined w.can_be_undefined h k

and_false : (b : Bool) → (b && false) ≡ false
and_false true = refl
and_false false = refl

down_defined_has : (w : Truths) (b : Body) (undefined : Bool) (e : Option Value) → has_slot b undefined e ≡ true → has_truth w (defined e) ≡ true → has (down_defined w b undefined) (slot e) ≡ true
down_defined_has w b undefined None h k = rw (h, k) (search rules)
down_defined_has w b undefined (Some v) h k = rw (k, and_false w.can_be_false) h

down_as_value_has : (b : Body) (undefined : Bool) (t : Truths) (p : Truth3) → has_truth t p ≡ true → has_slot b undefined (bool_of p) ≡ true → has_truth (down_as_value b undefined t) p ≡ true
down_as_value_has b true t p h k = h
down_as_value_has b false t True h k = both_true t.can_be_true (bodies.is_empty b || bodies.has b (truth true)) h (or_second (bodies.is_empty b) (bodies.has b (truth true)) k)
down_as_value_has b false t False h k = both_true t.can_be_false (bodies.is_empty b || bodies.has b (truth false)) h (or_second (bodies.is_empty b) (bodies.has b (truth false)) k)
down_as_value_has b false t Undefined h k = cc

module _ (known : Bodies) where
  paired_at : (s : Side) (w b : Body) (B : Body-F Body) (v : Value) (L : Layer) → layer v ≡ L → bodies.has b v ≡ true → bodies.has_at B v L ≡ true
      → has_slot w false (option_map (part_of_maplet s) (maplet_in L)) ≡ true → bodies.has (paired_layer s w B b) v ≡ true
  paired_at side.First w b (body.Pairs x y) v (val.Pair p q) e k h o =
      let inside : (bodies.has (bodies.meet x w) p && bodies.has y q) ≡ true = both_true (bodies.has (bodies.meet x w) p) (bodies.has y q)
      (known.meet x w p ∙ both_true (bodies.has x p) (bodies.has w p) (first_true (bodies.has x p) (bodies.has y q) h) o) (second_true (bodies.has x p) (bodies.has y q) h) in
      known.pairs (bodies.meet x w) y v ∙ ap (bodies.has_at (body.Pairs (bodies.meet x w) y) v) e ∙ inside
  paired_at side.Second w b (body.Pairs x y) v (val.Pair p q) e k h o =
      let inside : (bodies.has x p && bodies.has (bodies.meet y w) q) ≡ true = both_true (bodies.has x p) (bodies.has (bodies.meet y w) q)
      (first_true (bodies.has x p) (bodies.has y q) h) (known.meet y w q ∙ both_true (bodies.has y q) (bodies.has w q) (second_true (bodies.has x p) (bodies.has y q) h) o) in
      known.pairs x (bodies.meet y w) v ∙ ap (bodies.has_at (body.Pairs x (bodies.meet y w)) v) e ∙ inside
  paired_at s w b (body.Pairs x y) v _ e k h o = cc
  paired_at side.First w b body.Empty v L e k h o = k
  paired_at side.First w b (body.Integers d) v L e k h o = k
  paired_at side.First w b (body.Members xs) v L e k h o = k
  paired_at side.First w b body.AllSets v L e k h o = k
  paired_at side.Second w b body.Empty v L e k h o = k
  paired_at side.Second w b (body.Integers d) v L e k h o = k
  paired_at side.Second w b (body.Members xs) v L e k h o = k
  paired_at side.Second w b body.AllSets v L e k h o = k

  down_part_has : (s : Side) (w b : Body) (undefined : Bool) (e : Option Value) → has_slot b undefined e ≡ true → has_slot w false (option_and_then (part_of s) e) ≡ true
      → has_slot (down_part s w b) false e ≡ true
  down_part_has s w b undefined None h k = cc
  down_part_has s w b undefined (Some v) h k = at (bodies.is_empty w) refl where
    at : (c : Bool) → bodies.is_empty w ≡ c → bodies.has (down_part s w b) v ≡ true
    at true f = rw f h
    at false f = rw f (paired_at s w b (out-Body b) v (layer v) refl h (sym (known.layers b v) ∙ h) k)

  where_defined_has : (s : Side) (w b : Body) (u undefined : Bool) (e : Option Value) → has_slot b undefined e ≡ true → has_slot w u (option_and_then (part_of s) e) ≡ true
      → has (where_defined u (down_part s w b) b undefined) (slot e) ≡ true
  where_defined_has s w b true undefined e h k = h
  where_defined_has s w b false undefined e h k = down_part_has s w b undefined e h k

  pub down_one_has : (rule : UnaryRule) (w d : Domain) (x z : Outcome) → has d x ≡ true → of_one rule x ≡ Some z → has w z ≡ true → has (down_one rule w d) x ≡ true
  down_one_has one.Negation (domain.Truths w) (domain.Truths t) (domains.truth p) z h e k = down_negation_has w t p h (subst (λ o. has (domain.Truths w) o ≡ true) (sym (some_of (domains.truth (negation p)) z e)) k)
  down_one_has one.Negation (domain.Values w u) d (domains.truth p) z h e k = h
  down_one_has one.Negation (domain.Truths w) (domain.Values b u) x z h e k = h
  down_one_has one.Negation w d (slot s) z h e k = cc
  down_one_has one.Defined (domain.Truths w) (domain.Values b u) (slot s) z h e k = down_defined_has w b u s h (subst (λ o. has (domain.Truths w) o ≡ true) (sym (some_of (domains.truth (defined s)) z e)) k)
  down_one_has one.Defined (domain.Values w u) d (slot s) z h e k = h
  down_one_has one.Defined (domain.Truths w) (domain.Truths t) x z h e k = h
  down_one_has one.Defined w d (domains.truth p) z h e k = cc
  down_one_has one.AsValue (domain.Values w u) (domain.Truths t) (domains.truth p) z h e k = down_as_value_has w u t p h (subst (λ o. has (domain.Values w u) o ≡ true) (sym (some_of (slot (bool_of p)) z e)) k)
  down_one_has one.AsValue (domain.Truths w) d (domains.truth p) z h e k = h
  down_one_has one.AsValue (domain.Values w u) (domain.Values b v) x z h e k = h
  down_one_has one.AsValue w d (slot s) z h e k = cc
  down_one_has (one.Part s) (domain.Values w u) (domain.Values b v) (slot x) z h e k = where_defined_has s w b u v x h (subst (λ o. has (domain.Values w u) o ≡ true) (sym (some_of (slot (option_and_then (part_of s) x)) z e)) k)
  down_one_has (one.Part s) (domain.Truths w) d (slot x) z h e k = h
  down_one_has (one.Part s) (domain.Values w u) (domain.Truths t) x z h e k = h
  down_one_has (one.Part s) w d (domains.truth p) z h e k = cc
