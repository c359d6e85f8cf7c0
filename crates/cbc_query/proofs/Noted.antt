-- The notes of the parts of a model are those of the definition.
use Rattle.std.proofs.Common.{◌≡◌, ◌∙◌, refl, sym, ap, ap₂, ℕ, ◌+◌, ◌<◌, List, [], ◌∷◌, ◌++◌, length, drop, get_or}
use Rattle.std.specs.List.{flat_map}
use Rattle.std.proofs.lemmas.Grind.{flat_map-append}
use Rattle.std.proofs.lemmas.List.{drop_more}
use Rattle.eb_value.specs.declared.scope.Scope.{Scope}
use Rattle.eb_value.specs.declared.types.EbType.{EbType}
use Rattle.eb_model.specs.declared.model.LabelledFormula.{LabelledFormula}
use Rattle.eb_model.specs.declared.model.ModelPart.{ModelPart}
use Rattle.eb_model.specs.declared.model.EbModel.{EbModel}
use Rattle.eb_lowering.specs.declared.setting.Setting.{Setting}
use Rattle.eb_lowering.specs.declared.setting.Ranges.TheVariants as ranges
use Rattle.cbc_query.specs.declared.note.Note.{Note}
use Rattle.cbc_query.specs.Limits.{range_types}
use Rattle.cbc_query.specs.Notes.{distinct, told_term, formula_notes, axioms_notes}
use Rattle.cbc_query.specs.Parts.{part_axioms, axioms}
use Rattle.cbc_query.specs.Settings.{setting_of}
use Rattle.cbc_query.specs.steps.Distinct.{with_all}
use Rattle.cbc_query.specs.steps.Told.{notes_of}
use Rattle.cbc_query.proofs.Distinctness.{distinct_is, all-append}
use Rattle.cbc_query.proofs.Naming.{told_notes}

-- a part more
pub part_next : (s : Setting) (ds : List Note) (ps : List ModelPart) (i : ℕ) (p : ModelPart) → i < length ps → p ≡ get_or ps i p
    → with_all ds (flat_map (notes_of s) (flat_map part_axioms (drop i ps)))
    ≡ with_all (with_all ds (flat_map (notes_of s) (part_axioms p))) (flat_map (notes_of s) (flat_map part_axioms (drop (i + 1) ps)))
part_next s ds ps i p h e =
    let next : drop i ps ≡ p ∷ drop (i + 1) ps = drop_more ps i p h ∙ ap (λ z. z ∷ drop (i + 1) ps) (sym e) in
    let rest = flat_map part_axioms (drop (i + 1) ps) in
    ap (λ z. with_all ds (flat_map (notes_of s) (flat_map part_axioms z))) next
    ∙ (ap (with_all ds) (flat_map-append (notes_of s) (part_axioms p) rest)
    ∙ all-append ds (flat_map (notes_of s) (part_axioms p)) (flat_map (notes_of s) rest))

formulas_noted : (scope : Scope) (m : EbModel) (types : List EbType) (ls : List LabelledFormula)
    → flat_map (notes_of (setting_of scope m types ranges.Told)) ls ≡ flat_map (formula_notes scope m types) ls
formulas_noted scope m types [] = refl
formulas_noted scope m types (l ∷ ls) =
    ap₂ (λ x y. x ++ y) (told_notes types l (range_types (told_term scope m types l.formula))) (formulas_noted scope m types ls)

pub axioms_noted : (scope : Scope) (m : EbModel) (types : List EbType) (s : Setting) → s ≡ setting_of scope m types ranges.Told
    → with_all [] (flat_map (notes_of s) (flat_map part_axioms m.parts)) ≡ axioms_notes scope m types
axioms_noted scope m types s e =
    ap (λ z. with_all [] (flat_map (notes_of z) (axioms m))) e
    ∙ (distinct_is (flat_map (notes_of (setting_of scope m types ranges.Told)) (axioms m)) ∙ ap distinct (formulas_noted scope m types (axioms m)))
