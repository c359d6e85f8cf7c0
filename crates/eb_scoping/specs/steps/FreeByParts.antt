-- The free names of a formula from those of its parts: the way of the code.
use Rattle.std.specs.Prelude.{ℕ, true, false, not, ◌||◌, if◌then◌else◌, List, [], ◌∷◌, ◌++◌, filter}
use Rattle.std.specs.List.{flat_map}
use Rattle.eb_syntax.specs.declared.ast.Ast.{Ast}
use Rattle.eb_syntax.specs.declared.ast.Node.{Node-F}
use Rattle.eb_syntax.specs.declared.ast.Node.TheOpen as form
use Rattle.eb_syntax.specs.Asts.{by_parts}
use Rattle.eb_resolved.specs.Unknown.{Use, used}
use Rattle.eb_scoping.specs.FreeNames.{is_among, names_of, bound_names}

-- the names that are used without a `'`
abbrev pub plain_names : List Use → List (List ℕ)
plain_names us = flat_map (λ u. if u.is_primed then [] else u.name ∷ []) us

-- the uses that these names don't bind: a primed name is bound by nothing
abbrev pub unbound : List (List ℕ) → List Use → List Use
unbound names us = filter (λ u. u.is_primed || not (is_among names u.name)) us

-- `{E|P}` binds every name that E uses.
abbrev pub free_step : Node-F (List Use) (List Use) → List Use
free_step (form.Number n) = []
free_step (form.Identifier x) = used x false ∷ []
free_step (form.Primed x) = used x true ∷ []
free_step (form.Constant c) = []
free_step (form.Prefix op us) = us
free_step (form.Call op us) = us
free_step (form.Parentheses us) = us
free_step (form.Inverse us) = us
free_step (form.Operator op us vs) = us ++ vs
free_step (form.Quantifier q xs us) = unbound (names_of xs) us
free_step (form.Binder op b us vs) = unbound (bound_names b) (us ++ vs)
free_step (form.Comprehension xs us vs) = unbound (names_of xs) (us ++ vs)
free_step (form.Builder us vs) = unbound (plain_names us) (us ++ vs)
free_step (form.Extension rows) = flat_map (λ us. us) rows
free_step (form.Partition rows) = flat_map (λ us. us) rows

abbrev pub free_by_parts : Ast → List Use
free_by_parts = by_parts (List Use) free_step
