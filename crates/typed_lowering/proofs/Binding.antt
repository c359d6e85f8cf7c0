-- A body under binders over the ranges of its identifiers.
use Rattle.std.proofs.Common.{◌≡◌, ◌∙◌, ◌+◌, ℕ, zero, suc, Bool, true, false, if◌then◌else◌, List, [], ◌∷◌, ◌++◌, map, length, refl, ap, subst, length-append}
use Rattle.std.specs.Prelude.{⊤, Option, Some, None, unwrap_or, slice_get}
use Rattle.std.specs.List.{AllByRecursion}
use Rattle.eb_syntax.specs.declared.ast.Quantifier.{Quantifier}
use Rattle.eb_syntax.specs.declared.ast.Quantifier.TheVariants as quantifier
use Rattle.eb_value.specs.declared.types.EbType.{EbType}
use Rattle.eb_value.specs.Types.{boolean, power}
use Rattle.type_table.specs.Rows.{Sort, predicate, expression}
use Rattle.eb_term.specs.declared.operators.Binary.TheVariants as binary
use Rattle.eb_term.specs.declared.operators.Binder.{Binder}
use Rattle.eb_term.specs.declared.operators.Binder.TheVariants as binder
use Rattle.eb_term.specs.declared.term.Term.{Term}
use Rattle.eb_term.specs.Terms as term
use Rattle.eb_term.specs.Typed.{part_type_at, for_all, exists}
use Rattle.eb_lowering.specs.declared.setting.Setting.{Setting}
use Rattle.eb_lowering.specs.declared.setting.Ranges.{Ranges}
use Rattle.eb_lowering.specs.declared.setting.Ranges.TheVariants as ranges
use Rattle.eb_lowering.specs.declared.around.Around.{Around}
use Rattle.eb_lowering.specs.declared.around.Leaf.{Leaf}
use Rattle.eb_lowering.specs.declared.around.Place.{Place}
use Rattle.eb_lowering.specs.Anchors.{Conjunct, Range, over, all, anchors, without, ranges_of, ranges_by}
use Rattle.narrow_terms.specs.Building.{extension}
use Rattle.eb_lowering.specs.Lowering.{Lowered, type_at, range_type, range_at, place_of, leaf, inside, bind, quantifier_binder, collected, comprehension}
use Rattle.typed_lowering.specs.Settings.{PlaceFits, AroundFits}
use Rattle.typed_lowering.proofs.Judging.{BindsAt, quantifies, collects}
use Rattle.typed_lowering.proofs.Identifiers.{Suits, TermIs}

-- the identifier has its type where it is this part of a value of a type
abbrev pub LeafFits : List EbType → EbType → Leaf → Type 0
LeafFits types t l = (ty : EbType) → slice_get types l.number ≡ Some ty → part_type_at l.path t ≡ Some ty

pub all_append : {X : Type 0} (P : X → Type 0) (xs ys : List X) → AllByRecursion P xs → AllByRecursion P ys → AllByRecursion P (xs ++ ys)
all_append P [] ys h k = k
all_append P (x ∷ xs) ys h k = (h.0, all_append P xs ys h.1 k)

pub all_map : {X Y : Type 0} (P : X → Type 0) (Q : Y → Type 0) (f : X → Y) → ((x : X) → P x → Q (f x)) → (xs : List X) → AllByRecursion P xs → AllByRecursion Q (map f xs)
all_map P Q f g [] h = tt
all_map P Q f g (x ∷ xs) h = (g x h.0, all_map P Q f g xs h.1)

all_of : {X : Type 0} (P Q : X → Type 0) → ((x : X) → P x → Q x) → (xs : List X) → AllByRecursion P xs → AllByRecursion Q xs
all_of P Q g [] h = tt
all_of P Q g (x ∷ xs) h = (g x h.0, all_of P Q g xs h.1)

get_front : (ts : List EbType) (us : List EbType) (k : ℕ) (t : EbType) → slice_get ts k ≡ Some t → slice_get (ts ++ us) k ≡ Some t
get_front [] us k t e = absurd cc
get_front (u ∷ ts) us zero t e = e
get_front (u ∷ ts) us (suc k) t e = get_front ts us k t e

get_next : (ts : List EbType) (t : EbType) → slice_get (ts ++ t ∷ []) (length ts) ≡ Some t
get_next [] t = refl
get_next (u ∷ ts) t = get_next ts t

module _ (types bound : List EbType) (t : EbType) where
  place_stays : (p : Place) → PlaceFits types bound p → PlaceFits types (bound ++ t ∷ []) p
  place_stays p f ty e = let there = f ty e in (there.0, get_front bound (t ∷ []) p.binder there.0 there.1, there.2)

  place_new : (d : ℕ) → length bound ≡ d → (l : Leaf) → LeafFits types t l → PlaceFits types (bound ++ t ∷ []) (place_of d l)
  place_new d n l f ty e = (t, subst (λ z. slice_get (bound ++ t ∷ []) z ≡ Some t) n (get_next bound t), f ty e)

  pub inside_fits : (w : Around) (ls : List Leaf) → AroundFits types bound w → AllByRecursion (LeafFits types t) ls → AroundFits types (bound ++ t ∷ []) (inside w ls)
  inside_fits w ls f h =
      let n = f.depth in record {
        depth = length-append bound (t ∷ []) ∙ ap (λ z. z + 1) n;
        places = all_append (PlaceFits types (bound ++ t ∷ [])) w.bound (map (place_of w.depth) ls)
            (all_of (PlaceFits types bound) (PlaceFits types (bound ++ t ∷ [])) place_stays w.bound f.places)
            (all_map (LeafFits types t) (PlaceFits types (bound ++ t ∷ [])) (place_of w.depth) (place_new w.depth n) ls h);
      }

module _ (G : List EbType → Term → Sort → Type 0) (s : Setting) (h : Suits G s) where
  -- the range is a set of values of which the identifiers are parts
  abbrev pub OverIs : List Leaf → (Around → Term) → Type 0
  OverIs ls e = (t : EbType) × AllByRecursion (LeafFits s.types t) ls × TermIs G s h e (expression (power t))

  -- a conjunct `p : E` has such an E
  abbrev pub ConjunctIs : Conjunct (Around → Term) → Type 0
  ConjunctIs c = (ls : List Leaf) → c.leaves ≡ Some ls → OverIs ls c.range

  abbrev pub RangeIs : Range (Around → Term) → Type 0
  RangeIs (over ls e) = OverIs ls e
  RangeIs (all k) = ⊤

  all_are : (ks : List ℕ) → AllByRecursion RangeIs (map all ks)
  all_are [] = tt
  all_are (k ∷ ks) = (tt, all_are ks)

  abbrev RangesAre : List (Conjunct (Around → Term)) → Type 0
  RangesAre cs = (free : List ℕ) → AllByRecursion RangeIs (ranges_of free cs)

  ranges_if : (free : List ℕ) (c : Conjunct (Around → Term)) (cs : List (Conjunct (Around → Term))) (ls : List Leaf) (b : Bool) → RangesAre cs → OverIs ls c.range
      → AllByRecursion RangeIs (if b then over ls c.range ∷ ranges_of (without free ls) cs else map all free)
  ranges_if free c cs ls true r o = (o, r (without free ls))
  ranges_if free c cs ls false r o = all_are free

  ranges_with : (free : List ℕ) (c : Conjunct (Around → Term)) (cs : List (Conjunct (Around → Term))) (o : Option (List Leaf)) → c.leaves ≡ o → RangesAre cs → ConjunctIs c
      → AllByRecursion RangeIs (ranges_by free c (λ left. ranges_of left cs) o)
  ranges_with free c cs None e r i = all_are free
  ranges_with free c cs (Some ls) e r i = ranges_if free c cs ls (anchors free c ls) r (i ls e)

  pub ranges_are : (cs : List (Conjunct (Around → Term))) → AllByRecursion ConjunctIs cs → RangesAre cs
  ranges_are [] i free = all_are free
  ranges_are (c ∷ cs) i free = ranges_with free c cs c.leaves refl (ranges_are cs i.1) i.0

  range_typed : (r : Ranges) (k : ℕ) → r ≡ ranges.Typed → range_type r s k ≡ type_at s k
  range_typed r k e = ap (λ z. range_type z s k) e

  -- an identifier without an anchor is the whole value
  leaf_fits : (k : ℕ) → LeafFits s.types (range_at s k) (leaf k)
  leaf_fits k ty e = ap (λ z. Some z) (range_typed s.ranges k h.ranges ∙ ap (λ o. unwrap_or o boolean) e)

  pub bind_is : (o : Binder) (r : Sort) → BindsAt o r → (rs : List (Range (Around → Term))) → AllByRecursion RangeIs rs → (body : Around → Term) → TermIs G s h body r
      → TermIs G s h (bind s o rs body) r
  bind_is o r b [] i body x bound w f = x bound w f
  bind_is o r b (over ls e ∷ rs) i body x bound w f =
      h.judges.over bound (e w) (bind s o rs body (inside w ls)) o r i.0.0 b (i.0.2 bound w f)
      (bind_is o r b rs i.1 body x (bound ++ i.0.0 ∷ []) (inside w ls) (inside_fits s.types bound i.0.0 w ls f i.0.1))
  bind_is o r b (all k ∷ rs) i body x bound w f =
      h.judges.all bound (bind s o rs body (inside w (leaf k ∷ []))) o r (range_at s k) b
      (bind_is o r b rs i.1 body x (bound ++ range_at s k ∷ []) (inside w (leaf k ∷ [])) (inside_fits s.types bound (range_at s k) w (leaf k ∷ []) f (leaf_fits k, tt)))

  pub quantifies_at : (q : Quantifier) → BindsAt (quantifier_binder q) predicate
  quantifies_at quantifier.ForAll = quantifies binder.ForAll for_all
  quantifies_at quantifier.Exists = quantifies binder.Exists exists

  pub collected_is : (ks : List ℕ) (p : Lowered) → AllByRecursion ConjunctIs p.conjuncts → TermIs G s h p.term predicate → (e : Around → Term) (t : EbType) → TermIs G s h e (expression (power t))
      → TermIs G s h (collected s ks p e) (expression (power t))
  collected_is ks p i x e t y =
      bind_is binder.Collect (expression (power t)) (collects t) (ranges_of ks p.conjuncts) (ranges_are p.conjuncts i ks) (λ w. term.binary binary.If (p.term w) (e w))
      (λ bound w f. h.judges.where_true bound (p.term w) (e w) t (x bound w f) (y bound w f))

  pub comprehension_is : (ks : List ℕ) (p : Lowered) → AllByRecursion ConjunctIs p.conjuncts → TermIs G s h p.term predicate → (e : Around → Term) (t : EbType) → TermIs G s h e (expression t)
      → TermIs G s h (comprehension s ks p e) (expression (power t))
  comprehension_is ks p i x e t y = collected_is ks p i x (λ w. extension (e w)) t (λ bound w f. h.judges.extension bound (e w) [] t (y bound w f, tt))
