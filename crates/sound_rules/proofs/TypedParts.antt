-- The parts of a typed term are typed: beside it under the same binders, and the body of a binder under one more.
use Rattle.std.proofs.Common.{◌≡◌, ◌∙◌, sym, ap, subst, ℕ, zero, suc, List, [], ◌∷◌, ◌++◌, slice_get, Option, Some, None, rules}
use Rattle.std.specs.Prelude.{option_and_then}
use Rattle.std.proofs.lemmas.Option.{same_Some}
use Rattle.eb_value.specs.declared.types.EbType.{EbType}
use Rattle.eb_value.specs.declared.types.EbType.{the_lemmas as the_types}
use Rattle.eb_value.specs.Types.{power}
use Rattle.type_table.specs.Rows.{Sort, expression}
use Rattle.eb_term.specs.declared.operators.Unary.{Unary}
use Rattle.eb_term.specs.declared.operators.Unary.TheVariants as unary
use Rattle.eb_term.specs.declared.operators.Binary.{Binary}
use Rattle.eb_term.specs.declared.operators.Binary.TheVariants as binary
use Rattle.eb_term.specs.declared.operators.Many.{Many}
use Rattle.eb_term.specs.declared.operators.Many.TheVariants as many
use Rattle.eb_term.specs.declared.operators.Binder.{Binder}
use Rattle.eb_term.specs.declared.operators.Binder.TheVariants as binder
use Rattle.eb_term.specs.declared.term.Term.{Term}
use Rattle.eb_term.specs.declared.term.Head.{the_lemmas}
use Rattle.eb_term.specs.declared.term.Head.TheOpen as head
use Rattle.eb_term.specs.Terms as term
use Rattle.eb_term.specs.Terms.{Layer, layer}
use Rattle.eb_term.specs.Typed as typed
use Rattle.eb_term.specs.Typed.{HasSort, HaveSort}
use Rattle.narrow_terms.specs.Parts.{element_of}
use Rattle.term_types.specs.Types.{type_of}
use Rattle.problem_nodes.specs.Places.{parts, parts_of_layer}
use Rattle.occurrences.specs.Binding.{binds, binds_layer}

-- the types of the binders around a part, by the type that the term gives it
abbrev pub inside : List EbType → Option EbType → List EbType
inside types None = types
inside types (Some ty) = types ++ ty ∷ []

-- The term is typed inside binders of these types.
abbrev pub HasSomeSort : List EbType → Term → Type 0
HasSomeSort types t = (s : Sort) × HasSort types t s

-- ---- layers at the constructors

layer-unary : (o : Unary) (a : Term) → layer (term.unary o a) ≡ head.Unary o a
layer-unary o a = search (rules, the_lemmas)

layer-binary : (o : Binary) (a b : Term) → layer (term.binary o a b) ≡ head.Binary o a b
layer-binary o a b = search (rules, the_lemmas)

layer-many : (o : Many) (es : List Term) → layer (term.many o es) ≡ head.Many o es
layer-many o es = search (rules, the_lemmas)

layer-over : (o : Binder) (e p : Term) → layer (term.over o e p) ≡ head.Over o e p
layer-over o e p = search (rules, the_lemmas)

layer-all : (o : Binder) (ty : EbType) (p : Term) → layer (term.all o ty p) ≡ head.All o ty p
layer-all o ty p = search (rules, the_lemmas)

element-power : (ty : EbType) → element_of (power ty) ≡ Some ty
element-power ty = search (rules, the_types)

-- ---- by the layer

-- The parts of the layer are typed.
AreTyped : List EbType → Layer → Type 0
AreTyped types y = (n : ℕ) (u : Term) → slice_get (parts_of_layer y) n ≡ Some u → HasSomeSort (inside types (binds_layer y n)) u

by_layer : (types : List EbType) (t : Term) (y : Layer) → layer t ≡ y → AreTyped types y → AreTyped types (layer t)
by_layer types t y e h = subst (AreTyped types) (sym e) h

one_typed : (types : List EbType) (o : Unary) (a : Term) → HasSomeSort types a → AreTyped types (head.Unary o a)
unfolding AreTyped
one_typed types o a h zero u e = subst (HasSomeSort types) (same_Some a u e) h
one_typed types o a h (suc n) u e = absurd (cc)

two_typed : (types : List EbType) (o : Binary) (a b : Term) → HasSomeSort types a → HasSomeSort types b → AreTyped types (head.Binary o a b)
unfolding AreTyped
two_typed types o a b h g zero u e = subst (HasSomeSort types) (same_Some a u e) h
two_typed types o a b h g (suc zero) u e = subst (HasSomeSort types) (same_Some b u e) g
two_typed types o a b h g (suc (suc n)) u e = absurd (cc)

all_typed : (types : List EbType) (s : Sort) (ts : List Term) → HaveSort types ts s → (n : ℕ) (u : Term) → slice_get ts n ≡ Some u → HasSomeSort types u
all_typed types s _ typed.none n u e = absurd (cc)
all_typed types s _ (typed.more {e = t} h hs) zero u e = (s, subst (λ x. HasSort types x s) (same_Some t u e) h)
all_typed types s _ (typed.more {es = ts} h hs) (suc n) u e = all_typed types s ts hs n u e

many_typed : (types : List EbType) (o : Many) (s : Sort) (ts : List Term) → HaveSort types ts s → AreTyped types (head.Many o ts)
unfolding AreTyped
many_typed types o s ts h n u e = all_typed types s ts h n u e

over_typed : (types : List EbType) (o : Binder) (range body : Term) (ty : EbType) → type_of range ≡ Some (power ty) → HasSomeSort types range → HasSomeSort (types ++ ty ∷ []) body
    → AreTyped types (head.Over o range body)
unfolding AreTyped
over_typed types o range body ty r h g zero u e = subst (HasSomeSort types) (same_Some range u e) h
over_typed types o range body ty r h g (suc zero) u e =
    let bound : option_and_then element_of (type_of range) ≡ Some ty = ap (option_and_then element_of) r ∙ element-power ty in
    subst (λ b. HasSomeSort (inside types b) u) (sym bound) (subst (HasSomeSort (types ++ ty ∷ [])) (same_Some body u e) g)
over_typed types o range body ty r h g (suc (suc n)) u e = absurd (cc)

all_values_typed : (types : List EbType) (o : Binder) (ty : EbType) (body : Term) → HasSomeSort (types ++ ty ∷ []) body → AreTyped types (head.All o ty body)
unfolding AreTyped
all_values_typed types o ty body g zero u e = subst (HasSomeSort (types ++ ty ∷ [])) (same_Some body u e) g
all_values_typed types o ty body g (suc n) u e = absurd (cc)

no_parts : (types : List EbType) (y : Layer) → parts_of_layer y ≡ [] → AreTyped types y
unfolding AreTyped
no_parts types y e n u f = absurd (none u (sym (ap (λ ts. slice_get ts n) e) ∙ f)) where
  none : (u : Term) → None ≡ Some u → ⊥
  none u e = cc

leaf : (types : List EbType) (t : Term) → parts t ≡ [] → AreTyped types (layer t)
leaf types t e = no_parts types (layer t) e

-- ---- by the typing

module _ (value : (types : List EbType) (t : Term) (ty : EbType) → HasSort types t (expression ty) → type_of t ≡ Some ty) where
  typed_parts : (types : List EbType) (t : Term) (s : Sort) → HasSort types t s → AreTyped types (layer t)
  typed_parts types _ _ (typed.truth b) = leaf types (term.truth b) (search (rules, the_lemmas))
  typed_parts types _ _ (typed.literal v ty) = leaf types (term.literal v ty) (search (rules, the_lemmas))
  typed_parts types _ _ (typed.reference n ty) = leaf types (term.reference n ty) (search (rules, the_lemmas))
  typed_parts types _ _ (typed.variable n path whole ty e g) = leaf types (term.variable n path ty) (search (rules, the_lemmas))
  typed_parts types _ _ (typed.infinite i) = leaf types (term.infinite i) (search (rules, the_lemmas))
  typed_parts types _ _ (typed.identity ty) = leaf types (term.identity ty) (search (rules, the_lemmas))
  typed_parts types _ _ (typed.projection x a b) = leaf types (term.projection x a b) (search (rules, the_lemmas))
  typed_parts types t s (typed.prefix {a = a} o v h) = by_layer types t _ (layer-unary (unary.Prefix o) a) (one_typed types (unary.Prefix o) a (_, h))
  typed_parts types t s (typed.call {a = a} o v h) = by_layer types t _ (layer-unary (unary.Call o) a) (one_typed types (unary.Call o) a (_, h))
  typed_parts types t s (typed.inverse {a = a} v h) = by_layer types t _ (layer-unary unary.Inverse a) (one_typed types unary.Inverse a (_, h))
  typed_parts types t s (typed.defined {a = a} ty h) = by_layer types t _ (layer-unary unary.Defined a) (one_typed types unary.Defined a (_, h))
  typed_parts types t s (typed.functional {a = a} x y h) = by_layer types t _ (layer-unary unary.Functional a) (one_typed types unary.Functional a (_, h))
  typed_parts types t s (typed.part {a = a} x u w h) = by_layer types t _ (layer-unary (unary.Part x) a) (one_typed types (unary.Part x) a (_, h))
  typed_parts types t s (typed.operator {a = a} {b = b} o v h g) = by_layer types t _ (layer-binary (binary.Operator o) a b) (two_typed types (binary.Operator o) a b (_, h) (_, g))
  typed_parts types t s (typed.both {p = p} {q = q} h g) = by_layer types t _ (layer-binary binary.Both p q) (two_typed types binary.Both p q (_, h) (_, g))
  typed_parts types t s (typed.«if» {p = p} {s = e} ty h g) = by_layer types t _ (layer-binary binary.If p e) (two_typed types binary.If p e (_, h) (_, g))
  typed_parts types t s (typed.extension {e = e} {es = es} ty h) = by_layer types t _ (layer-many many.Extension (e ∷ es)) (many_typed types many.Extension _ (e ∷ es) h)
  typed_parts types t s (typed.partition {e = e} {es = es} ty h) = by_layer types t _ (layer-many many.Partition (e ∷ es)) (many_typed types many.Partition _ (e ∷ es) h)
  typed_parts types t s (typed.quantified_over {e = e} {p = p} o ty q h g) =
      by_layer types t _ (layer-over o e p) (over_typed types o e p ty (value types e (power ty) h) (_, h) (_, g))
  typed_parts types t s (typed.quantified {p = p} o ty q h) = by_layer types t _ (layer-all o ty p) (all_values_typed types o ty p (_, h))
  typed_parts types t s (typed.collected_over {e = e} {s = b} ty u h g) =
      by_layer types t _ (layer-over binder.Collect e b) (over_typed types binder.Collect e b ty (value types e (power ty) h) (_, h) (_, g))
  typed_parts types t s (typed.collected {s = b} ty u h) = by_layer types t _ (layer-all binder.Collect ty b) (all_values_typed types binder.Collect ty b (_, h))

  -- a part is typed inside the term's binders, and inside that of the term where it binds one there
  pub part_typed : (types : List EbType) (t : Term) (s : Sort) → HasSort types t s → (n : ℕ) (u : Term) → slice_get (parts t) n ≡ Some u → HasSomeSort (inside types (binds t n)) u
  unfolding AreTyped
  part_typed types t s h n u e = typed_parts types t s h n u e
