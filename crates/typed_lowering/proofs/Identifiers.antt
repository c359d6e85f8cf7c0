-- The terms of identifiers, of patterns and of what has no value.
use Rattle.std.proofs.Common.{◌≡◌, ◌∙◌, ◌+◌, ℕ, ℤ, Bool, true, false, if◌then◌else◌, ◌==◌, List, [], ◌∷◌, pos, refl, sym, ap, subst}
use Rattle.std.specs.Prelude.{⊤, Option, Some, None, fold, option_and_then, unwrap_or, slice_get}
use Rattle.std.specs.List.{AllByRecursion}
use Rattle.std.proofs.lemmas.Bool.{eqb-true}
use Rattle.eb_syntax.specs.declared.ast.Bound.{Bound}
use Rattle.eb_syntax.specs.declared.ast.Bound.TheVariants as bound_by
use Rattle.eb_syntax.specs.declared.ast.Mark.{Mark}
use Rattle.eb_syntax.specs.declared.ast.Mark.TheVariants as mark
use Rattle.eb_syntax.specs.declared.ast.Operator.TheVariants as op
use Rattle.eb_value.specs.declared.types.EbType.{EbType}
use Rattle.eb_value.specs.Types.{integer, boolean, product}
use Rattle.eb_value.specs.Typing.{in_range}
use Rattle.eb_value.specs.Values as value
use Rattle.type_table.specs.Rows.{Sort, expression, relation}
use Rattle.eb_term.specs.declared.term.Term.{Term}
use Rattle.eb_term.specs.Terms as term
use Rattle.eb_resolved.specs.Patterns.{Group, paired, with_one, closed, grouped, pattern_from, ungrouped}
use Rattle.eb_typing.specs.Numbering.{tuple_of}
use Rattle.eb_typing.specs.Typing.{HasSort}
use Rattle.eb_lowering.specs.declared.setting.Setting.{Setting}
use Rattle.eb_lowering.specs.declared.setting.Ranges.TheVariants as ranges
use Rattle.eb_lowering.specs.declared.around.Around.{Around}
use Rattle.eb_lowering.specs.declared.around.Place.{Place}
use Rattle.narrow_terms.specs.Building.{pair as maplet}
use Rattle.eb_lowering.specs.Lowering.{type_at, no_value, number_term, bound_term, identifier_term, pattern_term}
use Rattle.typed_lowering.specs.Settings.{EachKnown, PlaceFits, AroundFits}
use Rattle.typed_lowering.proofs.Judging.{Judges}

-- what the proofs know of a setting
pub record Suits (G : List EbType → Term → Sort → Type 0) (s : Setting) : Type 0 where
  pub judges : Judges G
  pub ranges : s.ranges ≡ ranges.Typed
  pub known : EachKnown s (λ t ty. (bound : List EbType) → G bound t (expression ty))

-- the place of an identifier that was found, if one was
abbrev Found : List EbType → List EbType → ℕ → Option Place → Type 0
Found types bound k None = ⊤
Found types bound k (Some p) = PlaceFits types bound p × (p.number ≡ k)

found_one : (types bound : List EbType) (k : ℕ) (p : Place) (o : Option Place) (b : Bool) → (p.number == k) ≡ b → PlaceFits types bound p → Found types bound k o → Found types bound k (if b then Some p else o)
found_one types bound k p o true e f g = (f, eqb-true p.number k e)
found_one types bound k p o false e f g = g

found_last : (types bound : List EbType) (k : ℕ) (ps : List Place) (o : Option Place) → AllByRecursion (PlaceFits types bound) ps → Found types bound k o
    → Found types bound k (fold (λ found p. if p.number == k then Some p else found) o ps)
found_last types bound k [] o fs g = g
found_last types bound k (p ∷ ps) o fs g = found_last types bound k ps (if p.number == k then Some p else o) fs.1 (found_one types bound k p o (p.number == k) refl fs.0 g)

module _ (G : List EbType → Term → Sort → Type 0) (s : Setting) (h : Suits G s) where
  -- the term is of this sort, whatever stands around
  abbrev pub TermIs : (Around → Term) → Sort → Type 0
  TermIs f r = (bound : List EbType) (w : Around) → AroundFits s.types bound w → G bound (f w) r

  pub no_value_is : (bound : List EbType) (t : EbType) → G bound (no_value t) (expression t)
  no_value_is bound t =
      h.judges.operator bound (term.literal (value.set []) (relation integer t)) (term.integer (pos 0)) op.Apply (record { for_a = integer; for_b = t; for_c = t; for_d = t })
      (h.judges.empty_literal bound (product integer t)) (h.judges.int_literal bound (pos 0) refl)

  number_by : (bound : List EbType) (n : ℤ) (b : Bool) → in_range n ≡ b → G bound (if b then term.integer n else no_value integer) (expression integer)
  number_by bound n true e = h.judges.int_literal bound n e
  number_by bound n false e = no_value_is bound integer

  pub number_is : (bound : List EbType) (n : ℤ) → G bound (number_term n) (expression integer)
  number_is bound n = number_by bound n (in_range n) refl

  pub type_is : (k : ℕ) (t : EbType) → slice_get s.types k ≡ Some t → type_at s k ≡ t
  type_is k t e = ap (λ o. unwrap_or o boolean) e

  pub no_value_at : (bound : List EbType) (k : ℕ) (t : EbType) → slice_get s.types k ≡ Some t → G bound (no_value (type_at s k)) (expression t)
  no_value_at bound k t e = subst (λ z. G bound (no_value z) (expression t)) (sym (type_is k t e)) (no_value_is bound t)

  declared_by : (bound : List EbType) (k : ℕ) (t : EbType) (o : Option (Option Term)) → slice_get s.known k ≡ o → slice_get s.types k ≡ Some t → G bound (unwrap_or (unwrap_or o None) (no_value (type_at s k))) (expression t)
  declared_by bound k t None f e = no_value_at bound k t e
  declared_by bound k t (Some None) f e = no_value_at bound k t e
  declared_by bound k t (Some (Some a)) f e = h.known k a t f e bound

  bound_by_place : (bound : List EbType) (k : ℕ) (t : EbType) (o : Option Place) → Found s.types bound k o → slice_get s.types k ≡ Some t → G bound (bound_term s k o) (expression t)
  bound_by_place bound k t None f e = declared_by bound k t (slice_get s.known k) refl e
  bound_by_place bound k t (Some p) f e =
      let there = f.0 t (ap (slice_get s.types) f.1 ∙ e) in
      subst (λ z. G bound (term.variable p.binder p.path z) (expression t)) (sym (type_is k t e)) (h.judges.variable bound p.binder p.path there.0 t there.1 there.2)

  pub identifier_is : (k : ℕ) (t : EbType) → slice_get s.types k ≡ Some t → TermIs (identifier_term s k) (expression t)
  identifier_is k t e bound w f = bound_by_place bound k t _ (found_last s.types bound k w.bound None f.places tt) e

  -- ---- patterns

  -- where there is a type there is a term of it, and only there
  abbrev Alike : List EbType → Option Term → Option EbType → Type 0
  Alike bound None None = ⊤
  Alike bound (Some a) (Some t) = G bound a (expression t)
  Alike bound None (Some t) = ⊥
  Alike bound (Some a) None = ⊥

  abbrev AlikeAround : List EbType → List (Option Term) → List (Option EbType) → Type 0
  AlikeAround bound [] [] = ⊤
  AlikeAround bound (a ∷ bs) (t ∷ ts) = Alike bound a t × AlikeAround bound bs ts
  AlikeAround bound [] (t ∷ ts) = ⊥
  AlikeAround bound (a ∷ bs) [] = ⊥

  record GroupIs (bound : List EbType) (g : Group Term) (k : Group EbType) : Type 0 where
    here : Alike bound g.here k.here
    around : AlikeAround bound g.around k.around
    next : g.next ≡ k.next

  -- where there is a type there is a term of it
  abbrev IsThere : List EbType → Option Term → Option EbType → Type 0
  IsThere bound a None = ⊤
  IsThere bound (Some a) (Some t) = G bound a (expression t)
  IsThere bound None (Some t) = ⊥

  abbrev GroupThere : List EbType → Option (Group Term) → Option (Group EbType) → Type 0
  GroupThere bound g None = ⊤
  GroupThere bound (Some g) (Some k) = GroupIs bound g k
  GroupThere bound None (Some k) = ⊥

  pub maplet_is : (bound : List EbType) (a b : Term) (t u : EbType) → G bound a (expression t) → G bound b (expression u) → G bound (maplet a b) (expression (product t u))
  maplet_is bound a b t u x y = h.judges.operator bound a b op.MapsTo (record { for_a = t; for_b = u; for_c = t; for_d = t }) x y

  paired_is : (bound : List EbType) (o : Option Term) (k : Option EbType) (a : Term) (t : EbType) → Alike bound o k → G bound a (expression t) → G bound (paired maplet o a) (expression (paired product k t))
  paired_is bound None None a t x y = y
  paired_is bound (Some b) (Some u) a t x y = maplet_is bound b a u t x y
  paired_is bound None (Some u) a t x y = absurd x
  paired_is bound (Some b) None a t x y = absurd x

  one_is : (bound : List EbType) (w : Around) → AroundFits s.types bound w → (g : Group Term) (k : Group EbType) → GroupIs bound g k → (o : Option EbType) → slice_get s.types k.next ≡ o
      → GroupThere bound (with_one maplet g (g.next + 1) (Some (identifier_term s g.next w))) (with_one product k (k.next + 1) o)
  one_is bound w f g k x None e = tt
  one_is bound w f g k x (Some t) e = record {
    here = paired_is bound g.here k.here (identifier_term s g.next w) t x.here (identifier_is g.next t (ap (slice_get s.types) x.next ∙ e) bound w f);
    around = x.around;
    next = ap (λ n. n + 1) x.next;
  }

  closed_is : (bound : List EbType) (bs : List (Option Term)) (ts : List (Option EbType)) (m n : ℕ) (o : Option Term) (k : Option EbType) → AlikeAround bound bs ts → m ≡ n → Alike bound o k
      → GroupThere bound (closed maplet bs m o) (closed product ts n k)
  closed_is bound (a ∷ bs) (t ∷ ts) m n (Some b) (Some u) x e y = record { here = paired_is bound a t b u x.0 y; around = x.1; next = e }
  closed_is bound (a ∷ bs) (t ∷ ts) m n None None x e y = tt
  closed_is bound (a ∷ bs) (t ∷ ts) m n (Some b) None x e y = tt
  closed_is bound (a ∷ bs) (t ∷ ts) m n None (Some u) x e y = absurd y
  closed_is bound [] [] m n o k x e y = tt
  closed_is bound (a ∷ bs) [] m n o k x e y = tt
  closed_is bound [] (t ∷ ts) m n o k x e y = absurd x

  grouped_is : (bound : List EbType) (w : Around) → AroundFits s.types bound w → (m : Mark) (g : Group Term) (k : Group EbType) → GroupIs bound g k
      → GroupThere bound (grouped (λ n. Some (identifier_term s n w)) maplet g m) (grouped (slice_get s.types) product k m)
  grouped_is bound w f (mark.Identifier x) g k i = one_is bound w f g k i (slice_get s.types k.next) refl
  grouped_is bound w f mark.MapsTo g k i = i
  grouped_is bound w f mark.Open g k i = record { here = tt; around = (i.here, i.around); next = i.next }
  grouped_is bound w f mark.Close g k i = closed_is bound g.around k.around g.next k.next g.here k.here i.around i.next i.here

  and_then_is : (bound : List EbType) (o : Option (Group Term)) (p : Option (Group EbType)) (f : Group Term → Option Term) (e : Group EbType → Option EbType) → GroupThere bound o p
      → ((g : Group Term) (k : Group EbType) → GroupIs bound g k → IsThere bound (f g) (e k)) → IsThere bound (option_and_then f o) (option_and_then e p)
  and_then_is bound o None f e x y = tt
  and_then_is bound (Some g) (Some k) f e x y = y g k x
  and_then_is bound None (Some k) f e x y = absurd x

  there : (bound : List EbType) (o : Option Term) (k : Option EbType) → Alike bound o k → IsThere bound o k
  there bound None None x = tt
  there bound (Some a) (Some t) x = x
  there bound None (Some t) x = absurd x
  there bound (Some a) None x = absurd x

  from_group : (bound : List EbType) (w : Around) → AroundFits s.types bound w → (ms : List Mark) (g : Group Term) (k : Group EbType) → GroupIs bound g k
      → IsThere bound (pattern_from (λ n. Some (identifier_term s n w)) maplet ms g) (pattern_from (slice_get s.types) product ms k)
  from_group bound w f [] g k i = there bound g.here k.here i.here
  from_group bound w f (m ∷ ms) g k i =
      and_then_is bound (grouped (λ n. Some (identifier_term s n w)) maplet g m) (grouped (slice_get s.types) product k m)
      (pattern_from (λ n. Some (identifier_term s n w)) maplet ms) (pattern_from (slice_get s.types) product ms)
      (grouped_is bound w f m g k i) (λ g k i. from_group bound w f ms g k i)

  the_term : (bound : List EbType) (a : Option Term) (o : Option EbType) (t : EbType) → IsThere bound a o → o ≡ Some t → G bound (unwrap_or a (no_value boolean)) (expression t)
  the_term bound a None t x e = absurd cc
  the_term bound (Some a) (Some u) t x e = let same : u ≡ t = cc in subst (λ z. G bound a (expression z)) same x
  the_term bound None (Some u) t x e = absurd x

  pub pattern_is : (b : Bound) (first : ℕ) (t : EbType) → HasSort s.types (tuple_of b first) (expression t) → TermIs (pattern_term s b first) (expression t)
  pattern_is (bound_by.Pattern ms) first t x bound w f =
      let same : t ≡ x.0 = cc (x.2) in
      let begins : GroupIs bound (ungrouped Term first) (ungrouped EbType first) = record { here = tt; around = tt; next = refl } in
      subst (λ z. G bound (pattern_term s (bound_by.Pattern ms) first w) (expression z)) (sym same)
      (the_term bound (pattern_from (λ n. Some (identifier_term s n w)) maplet ms (ungrouped Term first)) (pattern_from (slice_get s.types) product ms (ungrouped EbType first)) x.0 (from_group bound w f ms (ungrouped Term first) (ungrouped EbType first) begins) x.1)
  pattern_is (bound_by.Identifiers xs) first t x bound w f = absurd x
