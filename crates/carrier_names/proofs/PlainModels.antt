-- The carrier sets of a model have the names that stand in the `sets` clauses of its units.
use Rattle.std.proofs.Common.{◌≡◌, ℕ, Bool, true, false, List, [], ◌∷◌, ◌++◌, refl, subst, sym}
use Rattle.std.specs.Prelude.{fold}
use Rattle.std.specs.List.{list_all}
use Rattle.numbered_names.specs.declared.entries.Entry.{Entry}
use Rattle.numbered_names.specs.Names.{Names, entry}
use Rattle.eb_syntax.specs.declared.ast.Identifier.{Identifier}
use Rattle.eb_syntax.specs.declared.units.LabelledPredicate.{LabelledPredicate}
use Rattle.eb_syntax.specs.declared.units.ContextClause.{ContextClause}
use Rattle.eb_syntax.specs.declared.units.ContextClause.TheVariants as context
use Rattle.eb_syntax.specs.declared.units.MachineClause.{MachineClause}
use Rattle.eb_syntax.specs.declared.units.MachineClause.TheVariants as machine
use Rattle.eb_syntax.specs.declared.units.Event.{Event}
use Rattle.eb_syntax.specs.declared.units.EbUnit.{EbUnit}
use Rattle.eb_syntax.specs.declared.units.EbUnit.TheVariants as unit
use Rattle.eb_scoping.specs.Models.{marked}
use Rattle.eb_model.specs.declared.model.ModelPart.{ModelPart}
use Rattle.eb_model.specs.declared.model.ModelPart.TheVariants as part
use Rattle.eb_model.specs.declared.model.EbModel.{EbModel}
use Rattle.eb_model.specs.Models.{Walk, put, declare, carrier, axiom_at, invariant_at, event_at, context_clause, machine_clause, one_unit, start, walk, declared, IsModelOf}
use Rattle.carrier_names.specs.Plain.{is_plain_name}
use Rattle.carrier_names.proofs.Tests.{both_true, are_true, all_joined}
use Rattle.carrier_names.proofs.PlainUnits.{is_plain_identifier, is_plain_clause, is_plain_unit}

-- the name is plain, where it is one of a carrier set
abbrev pub is_plain_part : ModelPart → Bool
is_plain_part (part.Carrier s x) = is_plain_name x.name
is_plain_part (part.Constant x) = true
is_plain_part (part.Variable x) = true
is_plain_part (part.Axiom l) = true
is_plain_part (part.Invariant l) = true
is_plain_part (part.Event e) = true

-- the carrier sets up to some place have plain names
record IsPlain (w : Walk) : Type 0 where
  parts : list_all is_plain_part w.parts ≡ true

-- ---- folds

fold_keeps : {A W : Type 0} (P : W → Type 0) (step : W → A → W) (passes : A → Bool) → ((w : W) (x : A) → passes x ≡ true → P w → P (step w x))
    → (w : W) (xs : List A) → list_all passes xs ≡ true → P w → P (fold step w xs)
fold_keeps P step passes keeps w [] e h = h
fold_keeps P step passes keeps w (x ∷ xs) e h =
    let parts = both_true (passes x) (list_all passes xs) e in
    fold_keeps P step passes keeps (step w x) xs parts.1 (keeps w x parts.0 h)

fold_always : {A W : Type 0} (P : W → Type 0) (step : W → A → W) → ((w : W) (x : A) → P w → P (step w x)) → (w : W) (xs : List A) → P w → P (fold step w xs)
fold_always P step keeps w [] h = h
fold_always P step keeps w (x ∷ xs) h = fold_always P step keeps (step w x) xs (keeps w x h)

-- ---- the walk over the units

one_more : (ps : List ModelPart) (p : ModelPart) → list_all is_plain_part ps ≡ true → is_plain_part p ≡ true → list_all is_plain_part (ps ++ p ∷ []) ≡ true
one_more ps p h e = all_joined is_plain_part ps (p ∷ []) h (are_true (is_plain_part p) true e refl)

put_plain : (w : Walk) (p : ModelPart) (names : Names) → is_plain_part p ≡ true → IsPlain w → IsPlain (put w (p, names))
put_plain w p names e h = record { parts = one_more w.parts p h.parts e }

carrier_plain : (w : Walk) (x : Identifier) → is_plain_identifier x ≡ true → IsPlain w → IsPlain (carrier w x)
carrier_plain w x e h = record { parts = one_more w.parts (part.Carrier w.carriers (entry x.name w.names.next)) h.parts e }

constant_plain : (w : Walk) (x : Identifier) → IsPlain w → IsPlain (declare part.Constant w x)
constant_plain w x h = record { parts = one_more w.parts (part.Constant (entry x.name w.names.next)) h.parts refl }

variable_plain : (w : Walk) (x : Identifier) → IsPlain w → IsPlain (declare part.Variable w x)
variable_plain w x h = record { parts = one_more w.parts (part.Variable (entry x.name w.names.next)) h.parts refl }

axiom_plain : (scope : List Entry) (name : List ℕ) (w : Walk) (l : LabelledPredicate) → IsPlain w → IsPlain (axiom_at scope name w l)
axiom_plain scope name w l h = record { parts = one_more w.parts _ h.parts refl }

invariant_plain : (scope : List Entry) (name : List ℕ) (w : Walk) (l : LabelledPredicate) → IsPlain w → IsPlain (invariant_at scope name w l)
invariant_plain scope name w l h = record { parts = one_more w.parts _ h.parts refl }

event_plain : (scope : List Entry) (w : Walk) (e : Event) → IsPlain w → IsPlain (event_at scope w e)
event_plain scope w e h = record { parts = one_more w.parts _ h.parts refl }

clause_plain : (scope : List Entry) (name : List ℕ) (w : Walk) (c : ContextClause) → is_plain_clause c ≡ true → IsPlain w → IsPlain (context_clause scope name w c)
clause_plain scope name w (context.Sets xs) e h = fold_keeps IsPlain carrier is_plain_identifier carrier_plain w xs e h
clause_plain scope name w (context.Constants xs) e h = fold_always IsPlain (declare part.Constant) constant_plain w xs h
clause_plain scope name w (context.Axioms ls) e h = fold_always IsPlain (axiom_at scope name) (axiom_plain scope name) w ls h

machine_plain : (scope : List Entry) (name : List ℕ) (w : Walk) (c : MachineClause) → IsPlain w → IsPlain (machine_clause scope name w c)
machine_plain scope name w (machine.Variables xs) h = fold_always IsPlain (declare part.Variable) variable_plain w xs h
machine_plain scope name w (machine.Invariants ls) h = fold_always IsPlain (invariant_at scope name) (invariant_plain scope name) w ls h
machine_plain scope name w (machine.Variant label e) h = h
machine_plain scope name w (machine.Events es) h = fold_always IsPlain (event_at scope) (event_plain scope) w es h

unit_plain : (scope : List Entry) (w : Walk) (u : EbUnit) → is_plain_unit u ≡ true → IsPlain w → IsPlain (one_unit scope w u)
unit_plain scope w (unit.Context c) e h = fold_keeps IsPlain (context_clause scope c.name.name) is_plain_clause (clause_plain scope c.name.name) w c.clauses e h
unit_plain scope w (unit.Machine m) e h = fold_always IsPlain (machine_clause scope m.name.name) (machine_plain scope m.name.name) w m.clauses h
unit_plain scope w (unit.Scope s) e h = h
unit_plain scope w (unit.Queries qs) e h = h

-- ---- the units of the model

marked_plain : (us : List EbUnit) (marks : List Bool) → list_all is_plain_unit us ≡ true → list_all is_plain_unit (marked us marks) ≡ true
marked_plain [] marks h = refl
marked_plain (u ∷ us) [] h = refl
marked_plain (u ∷ us) (true ∷ marks) h =
    let parts = both_true (is_plain_unit u) (list_all is_plain_unit us) h in
    are_true (is_plain_unit u) (list_all is_plain_unit (marked us marks)) parts.0 (marked_plain us marks parts.1)
marked_plain (u ∷ us) (false ∷ marks) h = marked_plain us marks (both_true (is_plain_unit u) (list_all is_plain_unit us) h).1

-- where the names in the `sets` clauses are plain, so are those in the parts of the model
pub model_plain : (us : List EbUnit) (m : EbModel) → list_all is_plain_unit us ≡ true → IsModelOf us m → list_all is_plain_part m.parts ≡ true
model_plain us m h k =
    let vs : List EbUnit = marked us k.0 in
    let walked : IsPlain (walk (declared vs) vs) = fold_keeps IsPlain (one_unit (declared vs)) is_plain_unit (unit_plain (declared vs)) start vs (marked_plain us k.0 h) (record { parts = refl }) in
    subst (λ (z : EbModel). list_all is_plain_part z.parts ≡ true) (sym k.2) walked.parts
