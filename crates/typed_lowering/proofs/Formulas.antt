-- What holds of a formula's term, by its parts.
use Rattle.std.proofs.Common.{◌≡◌, ◌∙◌, ℕ, ℤ, List, [], ◌∷◌, ◌++◌, map, refl, sym, ap, subst, rules}
use Rattle.std.specs.Prelude.{Option, Some, None, option_and_then, slice_get}
use Rattle.std.specs.List.{AllByRecursion}
use Rattle.std.proofs.lemmas.Option.{none-some}
use Rattle.eb_syntax.specs.declared.ast.Constant.{Constant}
use Rattle.eb_syntax.specs.declared.ast.Prefix.{Prefix}
use Rattle.eb_syntax.specs.declared.ast.Call.{Call}
use Rattle.eb_syntax.specs.declared.ast.Call.TheVariants as call
use Rattle.eb_syntax.specs.declared.ast.Operator.{Operator}
use Rattle.eb_syntax.specs.declared.ast.Operator.TheVariants as op
use Rattle.eb_syntax.specs.declared.ast.Quantifier.{Quantifier}
use Rattle.eb_syntax.specs.declared.ast.Quantifier.TheVariants as quantifier
use Rattle.eb_syntax.specs.declared.ast.Binder.{Binder as Gatherer}
use Rattle.eb_syntax.specs.declared.ast.Binder.TheVariants as gather
use Rattle.eb_syntax.specs.declared.ast.Bound.{Bound}
use Rattle.eb_value.specs.declared.types.EbType.{EbType}
use Rattle.eb_value.specs.declared.types.EbType as type_module
use Rattle.eb_value.specs.Types.{product, power}
use Rattle.type_table.specs.declared.pattern.Letter.TheVariants.{A}
use Rattle.type_table.specs.declared.pattern.Pattern.{Pattern}
use Rattle.type_table.specs.declared.pattern.Pattern.TheVariants as p
use Rattle.type_table.specs.Rows.{Sort, predicate, expression, Choice, sort, relation, constant_pattern, prefix_row, call_row, inverse_row, quantifier_row, comprehension_row, builder_row, operator_row}
use Rattle.eb_term.specs.declared.operators.Unary.TheVariants as unary
use Rattle.eb_term.specs.declared.operators.Binary.TheVariants as binary
use Rattle.eb_term.specs.declared.operators.Many.TheVariants as many
use Rattle.eb_term.specs.declared.operators.Side.TheVariants as side
use Rattle.eb_term.specs.declared.term.Term.{Term}
use Rattle.eb_term.specs.Terms as term
use Rattle.eb_term.specs.Typed.{part_of_type, part_type_at}
use Rattle.eb_forms.specs.declared.kind.Kind.{Kind}
use Rattle.eb_forms.specs.declared.kind.Kind.TheVariants as kind
use Rattle.eb_forms.specs.Forms.{constant_kind, call_kind}
use Rattle.eb_typing.specs.Numbering.{Numbered, typed, unknown, made, none, parts_of, all, plain, marked, of_one, of_two, bound_made}
use Rattle.eb_typing.specs.Typing.{HasSort, HaveSorts}
use Rattle.eb_lowering.specs.declared.setting.Setting.{Setting}
use Rattle.eb_lowering.specs.declared.around.Around.{Around}
use Rattle.eb_lowering.specs.declared.around.Leaf.{Leaf}
use Rattle.eb_lowering.specs.Anchors.{below, paired, ranges_of}
use Rattle.narrow_terms.specs.Building.{pair as maplet}
use Rattle.eb_lowering.specs.Lowering.{Lowered, type_at, no_value, number_term, constant_term, mark_term, leaf, of_kind, formula, by_operator, leaves_by, conjuncts_by, premises_by, identifier, identifier_term, quantifier_binder, anchors_of, quantified, comprehension, pattern_term, gathered}
use Rattle.typed_lowering.specs.Settings.{AroundFits}
use Rattle.typed_lowering.proofs.Identifiers.{Suits, TermIs, number_is, type_is, no_value_at, identifier_is, maplet_is, pattern_is}
use Rattle.typed_lowering.proofs.Binding.{LeafFits, all_append, all_map, ConjunctIs, ranges_are, bind_is, quantifies_at, collected_is, comprehension_is}
use Rattle.typed_lowering.proofs.Marks.{to_sort, constant_is, mark_is}

part_of_product-first : (t u : EbType) → part_of_type side.First (product t u) ≡ Some t
part_of_product-first t u = search (rules, type_module.the_lemmas)

part_of_product-second : (t u : EbType) → part_of_type side.Second (product t u) ≡ Some u
part_of_product-second t u = search (rules, type_module.the_lemmas)

leaf_first : (types : List EbType) (t u : EbType) (l : Leaf) → LeafFits types t l → LeafFits types (product t u) (below side.First l)
leaf_first types t u l f ty e = ap (option_and_then (part_type_at l.path)) (part_of_product-first t u) ∙ f ty e

leaf_second : (types : List EbType) (t u : EbType) (l : Leaf) → LeafFits types u l → LeafFits types (product t u) (below side.Second l)
leaf_second types t u l f ty e = ap (option_and_then (part_type_at l.path)) (part_of_product-second t u) ∙ f ty e

leaves_paired : (types : List EbType) (t u : EbType) (a b : Option (List Leaf)) (ls : List Leaf) → ((xs : List Leaf) → a ≡ Some xs → AllByRecursion (LeafFits types t) xs) → ((ys : List Leaf) → b ≡ Some ys → AllByRecursion (LeafFits types u) ys)
    → paired a b ≡ Some ls → AllByRecursion (LeafFits types (product t u)) ls
leaves_paired types t u (Some xs) (Some ys) ls f g e =
    let same : map (below side.First) xs ++ map (below side.Second) ys ≡ ls = cc in
    subst (λ z. AllByRecursion (LeafFits types (product t u)) z) same
    (all_append (LeafFits types (product t u)) (map (below side.First) xs) (map (below side.Second) ys)
    (all_map (LeafFits types t) (LeafFits types (product t u)) (below side.First) (leaf_first types t u) xs (f xs refl))
    (all_map (LeafFits types u) (LeafFits types (product t u)) (below side.Second) (leaf_second types t u) ys (g ys refl)))
leaves_paired types t u None b ls f g e = absurd (none-some ls e)
leaves_paired types t u (Some xs) None ls f g e = absurd (none-some ls e)

module _ (G : List EbType → Term → Sort → Type 0) (s : Setting) (h : Suits G s) where
  -- what becomes of a formula of some sort
  pub record IsLowered (n : Numbered) (l : Lowered) : Type 0 where
    pub term : (r : Sort) → HasSort s.types n r → TermIs G s h l.term r
    pub leaves : (t : EbType) (ls : List Leaf) → HasSort s.types n (expression t) → l.leaves ≡ Some ls → AllByRecursion (LeafFits s.types t) ls
    pub conjuncts : HasSort s.types n predicate → AllByRecursion (ConjunctIs G s h) l.conjuncts
    pub premises : HasSort s.types n predicate → AllByRecursion (ConjunctIs G s h) l.premises

  -- what has no identifiers and no conjuncts of its own
  pub plain_is : (n : Numbered) (k : Kind) (uses : List ℕ) (f : Around → Term) → ((r : Sort) → HasSort s.types n r → TermIs G s h f r) → IsLowered n (of_kind k uses f)
  plain_is n k uses f x = record {
    term = x;
    leaves = λ t ls y e. absurd (none-some ls e);
    conjuncts = λ y. ((λ ls e. absurd (none-some ls e)), tt);
    premises = λ y. tt;
  }

  pub number_lowered : (n : ℤ) → IsLowered (made [] p.Integer none) (formula [] (λ w. number_term n))
  number_lowered n = plain_is (made [] p.Integer none) kind.Value [] (λ w. number_term n) (λ r x bound w f. to_sort G s h bound (number_term n) r _ x.2 (number_is G s h bound n))

  pub identifier_lowered : (k : ℕ) → IsLowered (typed k) (identifier s k)
  identifier_lowered k = record {
    term = λ r x bound w f. to_sort G s h bound (identifier_term s k w) r (expression x.0) x.2 (identifier_is G s h k x.0 x.1 bound w f);
    leaves = λ t ls x e. one_leaf t ls x.0 x.1 x.2 e;
    conjuncts = λ y. ((λ ls e. absurd (none-some ls e)), tt);
    premises = λ y. tt;
  }
    where
      one_leaf : (t : EbType) (ls : List Leaf) (u : EbType) → slice_get s.types k ≡ Some u → expression t ≡ expression u → Some (leaf k ∷ []) ≡ Some ls → AllByRecursion (LeafFits s.types t) ls
      one_leaf t ls u x e i =
          let same : leaf k ∷ [] ≡ ls = cc in
          subst (λ z. AllByRecursion (LeafFits s.types t) z) same ((λ ty y. cc), tt)

  pub primed_lowered : (k : ℕ) → IsLowered (typed k) (formula [] (λ w. no_value (type_at s k)))
  primed_lowered k = plain_is (typed k) kind.Value [] (λ w. no_value (type_at s k)) (λ r x bound w f. to_sort G s h bound (no_value (type_at s k)) r (expression x.0) x.2 (no_value_at G s h bound k x.0 x.1))

  pub unknown_lowered : (l : Around → Term) → IsLowered unknown (formula [] l)
  unknown_lowered l = plain_is unknown kind.Value [] l (λ r x. absurd x)

  pub constant_lowered : (c : Constant) → IsLowered (plain c) (of_kind (constant_kind c) [] (λ w. constant_term c))
  constant_lowered c = plain_is (plain c) (constant_kind c) [] (λ w. constant_term c) (constant_is G s h c)

  pub mark_lowered : (c : Constant) (k : ℕ) → IsLowered (marked (constant_pattern c) k) (formula [] (λ w. mark_term c (type_at s k)))
  mark_lowered c k = plain_is (marked (constant_pattern c) k) kind.Value [] (λ w. mark_term c (type_at s k)) (λ r x bound w f.
      let t = x.1.0.0 in
      to_sort G s h bound (mark_term c (type_at s k)) r (expression t) (x.2 ∙ x.1.0.2)
      (subst (λ z. G bound (mark_term c z) (expression t)) (sym (type_is G s h k t x.1.0.1)) (mark_is G s h c x.0 bound t x.1.0.2)))

  -- ---- operators

  pub prefix_lowered : (o : Prefix) (n : Numbered) (l : Lowered) → IsLowered n l → IsLowered (of_one (prefix_row o) n) (formula l.uses (λ w. term.unary (unary.Prefix o) (l.term w)))
  prefix_lowered o n l i = plain_is (of_one (prefix_row o) n) kind.Value l.uses (λ w. term.unary (unary.Prefix o) (l.term w)) (λ r x bound w f.
      to_sort G s h bound (term.unary (unary.Prefix o) (l.term w)) r (sort x.0 (prefix_row o).whole) x.2 (h.judges.prefix bound (l.term w) o x.0 (i.term (sort x.0 (prefix_row o).part) x.1.0 bound w f)))

  pub call_lowered : (o : Call) (n : Numbered) (l : Lowered) → IsLowered n l → IsLowered (of_one (call_row o) n) (of_kind (call_kind o) l.uses (λ w. term.unary (unary.Call o) (l.term w)))
  call_lowered o n l i = plain_is (of_one (call_row o) n) (call_kind o) l.uses (λ w. term.unary (unary.Call o) (l.term w)) (λ r x bound w f.
      to_sort G s h bound (term.unary (unary.Call o) (l.term w)) r (sort x.0 (call_row o).whole) x.2 (h.judges.call bound (l.term w) o x.0 (i.term (sort x.0 (call_row o).part) x.1.0 bound w f)))

  pub inverse_lowered : (n : Numbered) (l : Lowered) → IsLowered n l → IsLowered (of_one inverse_row n) (formula l.uses (λ w. term.unary unary.Inverse (l.term w)))
  inverse_lowered n l i = plain_is (of_one inverse_row n) kind.Value l.uses (λ w. term.unary unary.Inverse (l.term w)) (λ r x bound w f.
      to_sort G s h bound (term.unary unary.Inverse (l.term w)) r (sort x.0 inverse_row.whole) x.2 (h.judges.inverse bound (l.term w) x.0 (i.term (sort x.0 inverse_row.part) x.1.0 bound w f)))

  module _ (n m : Numbered) (a b : Lowered) (i : IsLowered n a) (j : IsLowered m b) (v : Choice) where
    leaves_are : (o : Operator) (t : EbType) (ls : List Leaf) → HasSort s.types n (sort v (operator_row o).left) → HasSort s.types m (sort v (operator_row o).right) → expression t ≡ sort v (operator_row o).whole
        → leaves_by o a b ≡ Some ls → AllByRecursion (LeafFits s.types t) ls
    leaves_are op.MapsTo t ls x y e g =
        let same : product v.for_a v.for_b ≡ t = cc in
        subst (λ z. AllByRecursion (LeafFits s.types z) ls) same
        (leaves_paired s.types v.for_a v.for_b a.leaves b.leaves ls (λ xs k. i.leaves v.for_a xs x k) (λ ys k. j.leaves v.for_b ys y k) g)
    leaves_are o t ls x y e g = absurd (none-some ls g)

    conjuncts_are : (o : Operator) (f : Around → Term) → HasSort s.types n (sort v (operator_row o).left) → HasSort s.types m (sort v (operator_row o).right) → AllByRecursion (ConjunctIs G s h) (conjuncts_by o f a b)
    conjuncts_are op.And f x y = all_append (ConjunctIs G s h) a.conjuncts b.conjuncts (i.conjuncts x) (j.conjuncts y)
    conjuncts_are op.MemberOf f x y = ((λ ls e. (v.for_a, i.leaves v.for_a ls x e, j.term (expression (power v.for_a)) y)), tt)
    conjuncts_are o f x y = ((λ ls e. absurd (none-some ls e)), tt)

    premises_are : (o : Operator) → HasSort s.types n (sort v (operator_row o).left) → AllByRecursion (ConjunctIs G s h) (premises_by o a)
    premises_are op.Implies x = i.conjuncts x
    premises_are o x = tt

  pub operator_lowered : (o : Operator) (n m : Numbered) (a b : Lowered) → IsLowered n a → IsLowered m b → IsLowered (of_two (operator_row o) n m) (by_operator o a b)
  operator_lowered o n m a b i j = record {
    term = λ r x bound w f. to_sort G s h bound (term.binary (binary.Operator o) (a.term w) (b.term w)) r (sort x.0 (operator_row o).whole) x.2
        (h.judges.operator bound (a.term w) (b.term w) o x.0 (i.term (sort x.0 (operator_row o).left) x.1.0 bound w f) (j.term (sort x.0 (operator_row o).right) x.1.1.0 bound w f));
    leaves = λ t ls x e. leaves_are n m a b i j x.0 o t ls x.1.0 x.1.1.0 x.2 e;
    conjuncts = λ x. conjuncts_are n m a b i j x.0 o (λ w. term.binary (binary.Operator o) (a.term w) (b.term w)) x.1.0 x.1.1.0;
    premises = λ x. premises_are n m a b i j x.0 o x.1.0;
  }

  -- ---- binders

  anchors_are : (q : Quantifier) (n : Numbered) (l : Lowered) → IsLowered n l → HasSort s.types n predicate → AllByRecursion (ConjunctIs G s h) (anchors_of q l)
  anchors_are quantifier.ForAll n l i x = i.premises x
  anchors_are quantifier.Exists n l i x = i.conjuncts x

  pub quantifier_lowered : (q : Quantifier) (ks : List ℕ) (n : Numbered) (l : Lowered) → IsLowered n l → IsLowered (of_one quantifier_row n) (quantified s q ks l)
  quantifier_lowered q ks n l i = plain_is (of_one quantifier_row n) kind.Value l.uses _ (λ r x bound w f.
      to_sort G s h bound _ r predicate x.2
      (bind_is G s h (quantifier_binder q) predicate (quantifies_at G s h q) (ranges_of ks (anchors_of q l)) (ranges_are G s h (anchors_of q l) (anchors_are q n l i x.1.0) ks) l.term (i.term predicate x.1.0) bound w f))

  gathered_is : (o : Gatherer) (b : Bound) (first : ℕ) (ks : List ℕ) (n m : Numbered) (l e : Lowered) → IsLowered n l → IsLowered m e → (r : Sort) → HasSort s.types (bound_made o b first n m) r → TermIs G s h (gathered s o b first ks l e) r
  gathered_is gather.Lambda b first ks n m l e i j r x bound w f =
      let v = x.0 in
      to_sort G s h bound _ r (expression (relation v.for_a v.for_b)) x.2
      (comprehension_is G s h ks l (i.conjuncts x.1.1.0) (i.term predicate x.1.1.0) (λ w. maplet (pattern_term s b first w) (e.term w)) (product v.for_a v.for_b)
      (λ bound w f. maplet_is G s h bound (pattern_term s b first w) (e.term w) v.for_a v.for_b (pattern_is G s h b first v.for_a x.1.0 bound w f) (j.term (expression v.for_b) x.1.1.1.0 bound w f)) bound w f)
  gathered_is gather.Union b first ks n m l e i j r x bound w f =
      to_sort G s h bound _ r (expression (power x.0.for_a)) x.2 (collected_is G s h ks l (i.conjuncts x.1.0) (i.term predicate x.1.0) e.term x.0.for_a (j.term (expression (power x.0.for_a)) x.1.1.0) bound w f)
  gathered_is gather.Intersection b first ks n m l e i j r x bound w f =
      to_sort G s h bound _ r (expression (power x.0.for_a)) x.2
      (h.judges.call bound (comprehension s ks l e.term w) call.GeneralizedIntersection x.0
      (comprehension_is G s h ks l (i.conjuncts x.1.0) (i.term predicate x.1.0) e.term (power x.0.for_a) (j.term (expression (power x.0.for_a)) x.1.1.0) bound w f))

  pub binder_lowered : (o : Gatherer) (b : Bound) (first : ℕ) (ks : List ℕ) (n m : Numbered) (l e : Lowered) → IsLowered n l → IsLowered m e
      → IsLowered (bound_made o b first n m) (formula (l.uses ++ e.uses) (gathered s o b first ks l e))
  binder_lowered o b first ks n m l e i j = plain_is (bound_made o b first n m) kind.Value (l.uses ++ e.uses) (gathered s o b first ks l e) (gathered_is o b first ks n m l e i j)

  pub comprehension_lowered : (ks : List ℕ) (n m : Numbered) (l e : Lowered) → IsLowered n l → IsLowered m e → IsLowered (of_two comprehension_row n m) (formula (l.uses ++ e.uses) (comprehension s ks l e.term))
  comprehension_lowered ks n m l e i j = plain_is (of_two comprehension_row n m) kind.Value (l.uses ++ e.uses) (comprehension s ks l e.term) (λ r x bound w f.
      to_sort G s h bound _ r (expression (power x.0.for_a)) x.2 (comprehension_is G s h ks l (i.conjuncts x.1.0) (i.term predicate x.1.0) e.term x.0.for_a (j.term (expression x.0.for_a) x.1.1.0) bound w f))

  pub builder_lowered : (ks : List ℕ) (m n : Numbered) (e l : Lowered) → IsLowered m e → IsLowered n l → IsLowered (of_two builder_row m n) (formula (e.uses ++ l.uses) (comprehension s ks l e.term))
  builder_lowered ks m n e l j i = plain_is (of_two builder_row m n) kind.Value (e.uses ++ l.uses) (comprehension s ks l e.term) (λ r x bound w f.
      to_sort G s h bound _ r (expression (power x.0.for_a)) x.2 (comprehension_is G s h ks l (i.conjuncts x.1.1.0) (i.term predicate x.1.1.0) e.term x.0.for_a (j.term (expression x.0.for_a) x.1.0) bound w f))

  -- ---- rows of parts

  module _ {R : Type 0} (number : R → Numbered) (lower : R → Lowered) where
    abbrev EachLowered : List R → Type 0
    EachLowered rs = AllByRecursion (λ r. IsLowered (number r) (lower r)) rs

    parts_are : (rs : List R) (v : Choice) (q : Pattern) → EachLowered rs → HaveSorts s.types (parts_of (map number rs)) (map (sort v) (map (λ _. q) (map number rs)))
        → (bound : List EbType) (w : Around) → AroundFits s.types bound w → AllByRecursion (λ e. G bound e (sort v q)) (map (λ l. l.term w) (map lower rs))
    parts_are [] v q i x bound w f = tt
    parts_are (r ∷ rs) v q i x bound w f = (i.0.term (sort v q) x.0 bound w f, parts_are rs v q i.1 x.1 bound w f)

    pub extension_lowered : (rs : List R) (uses : List ℕ) → EachLowered rs → IsLowered (all (p.Type A) (p.Set A) (map number rs)) (formula uses (λ w. term.many many.Extension (map (λ l. l.term w) (map lower rs))))
    extension_lowered [] uses i = plain_is unknown kind.Value uses _ (λ r x. absurd x)
    extension_lowered (a ∷ rs) uses i = plain_is (all (p.Type A) (p.Set A) (map number (a ∷ rs))) kind.Value uses _ (λ r x bound w f.
        to_sort G s h bound _ r (expression (power x.0.for_a)) x.2
        (h.judges.extension bound ((lower a).term w) (map (λ l. l.term w) (map lower rs)) x.0.for_a (parts_are (a ∷ rs) x.0 (p.Type A) i x.1 bound w f)))

    pub partition_lowered : (rs : List R) (uses : List ℕ) → EachLowered rs → IsLowered (all (p.Set A) p.Predicate (map number rs)) (formula uses (λ w. term.many many.Partition (map (λ l. l.term w) (map lower rs))))
    partition_lowered [] uses i = plain_is unknown kind.Value uses _ (λ r x. absurd x)
    partition_lowered (a ∷ rs) uses i = plain_is (all (p.Set A) p.Predicate (map number (a ∷ rs))) kind.Value uses _ (λ r x bound w f.
        to_sort G s h bound _ r predicate x.2
        (h.judges.partition bound ((lower a).term w) (map (λ l. l.term w) (map lower rs)) x.0.for_a (parts_are (a ∷ rs) x.0 (p.Set A) i x.1 bound w f)))
