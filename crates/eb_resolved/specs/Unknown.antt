-- The names of a formula that stand for nothing.
use Rattle.std.specs.Prelude.{ℕ, Bool, List, [], ◌∷◌, ◌++◌}
use Rattle.std.specs.List.{flat_map}
use Rattle.eb_syntax.specs.declared.ast.Ast.{Ast}
use Rattle.numbered_names.specs.Names.{no_names}
use Rattle.eb_resolved.specs.declared.resolved.Resolved.{Resolved}
use Rattle.eb_resolved.specs.declared.resolved.ResolvedNode.{ResolvedNode-F}
use Rattle.eb_resolved.specs.declared.resolved.ResolvedNode.TheOpen as form
use Rattle.eb_resolved.specs.Formulas.{by_parts}
use Rattle.eb_resolved.specs.Resolving.{resolved}

-- A name where it is used, and whether with a `'`.
pub record Use : Type 0 where
  pub name : List ℕ
  pub is_primed : Bool

abbrev pub used : List ℕ → Bool → Use
used name is_primed = record { name = name; is_primed = is_primed }

abbrev pub unknown_step : ResolvedNode-F (List Use) (List Use) → List Use
unknown_step (form.Number n) = []
unknown_step (form.Identifier k) = []
unknown_step (form.Primed k) = []
unknown_step (form.Unknown x is_primed) = used x is_primed ∷ []
unknown_step (form.Constant c) = []
unknown_step (form.Mark c k) = []
unknown_step (form.Prefix op us) = us
unknown_step (form.Call op us) = us
unknown_step (form.Inverse us) = us
unknown_step (form.Operator op us vs) = us ++ vs
unknown_step (form.Quantifier q es us) = us
unknown_step (form.Binder op b first us vs) = us ++ vs
unknown_step (form.Comprehension es us vs) = us ++ vs
unknown_step (form.Builder es us vs) = us ++ vs
unknown_step (form.Extension rows) = flat_map (λ us. us) rows
unknown_step (form.Partition rows) = flat_map (λ us. us) rows

-- the names that stand for nothing, in the order of the text
abbrev pub unknown : Resolved → List Use
unknown = by_parts (List Use) unknown_step

-- the names that no binder of the formula binds, in the order of the text
abbrev pub free : Ast → List Use
free a = unknown (resolved [] a no_names).0
