-- The formulas of a typed model are predicates.
use Rattle.std.proofs.Common.{◌≡◌, ◌∙◌, ℕ, zero, suc, ◌<◌, List, [], ◌∷◌, ◌++◌, map, length, ap, subst, arith}
use Rattle.std.specs.Prelude.{Some, slice_get, slice_index_or, Contains}
use Rattle.std.specs.List.{flat_map}
use Rattle.numbered_names.specs.declared.entries.Entry.{Entry}
use Rattle.eb_value.specs.declared.types.EbType.{EbType}
use Rattle.eb_value.specs.Types.{carrier, power}
use Rattle.type_table.specs.Rows.{predicate}
use Rattle.eb_model.specs.declared.model.LabelledFormula.{LabelledFormula}
use Rattle.eb_model.specs.declared.model.ModelPart.{ModelPart}
use Rattle.eb_model.specs.declared.model.ModelPart.TheVariants as part
use Rattle.eb_model.specs.declared.model.EbModel.{EbModel}
use Rattle.eb_typing.specs.Numbering.{Numbered, numbered}
use Rattle.eb_typing.specs.Typing.{HasSort, ArePredicates}
use Rattle.eb_typing.specs.Models.{is_carrier, owed_by_formula, owed_by_action, owed_by_part, Typed}
use Rattle.typed_lowering.specs.Models.{Says, by_axiom, by_invariant, by_guard}

module _ (types : List EbType) where
  left_of : (xs ys : List Numbered) → ArePredicates types (xs ++ ys) → ArePredicates types xs
  left_of [] ys h = tt
  left_of (x ∷ xs) ys h = (h.0, left_of xs ys h.1)

  right_of : (xs ys : List Numbered) → ArePredicates types (xs ++ ys) → ArePredicates types ys
  right_of [] ys h = h
  right_of (x ∷ xs) ys h = right_of xs ys h.1

  owed_at : (ps : List ModelPart) (x : ModelPart) (k : ℕ) → k < length ps → slice_index_or ps k x ≡ x → ArePredicates types (flat_map owed_by_part ps) → ArePredicates types (owed_by_part x)
  owed_at [] x k b e h = absurd (omega arith)
  owed_at (q ∷ ps) x zero b e h = subst (λ z. ArePredicates types (owed_by_part z)) e (left_of (owed_by_part q) (flat_map owed_by_part ps) h)
  owed_at (q ∷ ps) x (suc k) b e h = owed_at ps x k (omega arith) e (right_of (owed_by_part q) (flat_map owed_by_part ps) h)

  part_owed : (m : EbModel) (x : ModelPart) → Contains m.parts x → Typed m types → ArePredicates types (owed_by_part x)
  part_owed m x c t = owed_at m.parts x c.0 c.1 c.2 t.predicates

  guard_at : (ls : List LabelledFormula) (x : LabelledFormula) (k : ℕ) → k < length ls → slice_index_or ls k x ≡ x → ArePredicates types (map owed_by_formula ls) → HasSort types (numbered x.formula) predicate
  guard_at [] x k b e h = absurd (omega arith)
  guard_at (l ∷ ls) x zero b e h = subst (λ z. HasSort types (numbered z.formula) predicate) e h.0
  guard_at (l ∷ ls) x (suc k) b e h = guard_at ls x k (omega arith) e h.1

  pub says_predicate : {m : EbModel} {l : LabelledFormula} → Says m l → Typed m types → HasSort types (numbered l.formula) predicate
  says_predicate {m = m} (by_axiom l c) t = (part_owed m (part.Axiom l) c t).0
  says_predicate {m = m} (by_invariant l c) t = (part_owed m (part.Invariant l) c t).0
  says_predicate {m = m} (by_guard e l c d) t = guard_at e.guards l d.0 d.1 d.2 (left_of (map owed_by_formula e.guards) (flat_map owed_by_action e.actions) (part_owed m (part.Event e) c t))

  pub carrier_typed : (m : EbModel) (c : ℕ) (x : Entry) → Contains m.parts (part.Carrier c x) → Typed m types → slice_get types x.number ≡ Some (power (carrier c))
  carrier_typed m c x i t =
      let h : HasSort types (is_carrier c x.number) predicate = (part_owed m (part.Carrier c x) i t).0 in
      let there = h.1.0 in
      let same : there.0 ≡ power (carrier c) = cc (there.2) in
      there.1 ∙ ap (λ z. Some z) same
