-- What the parts of a text declare, in the order of the text, and which of these declarations repeat an earlier one.
use Rattle.std.specs.Prelude.{ℕ, ◌≡◌, List, [], ◌∷◌, ◌++◌, Contains, codes, ⊤}
use Rattle.std.specs.List.{flat_map}
use Rattle.eb_syntax.specs.declared.ast.Ast.{Ast}
use Rattle.eb_syntax.specs.declared.ast.Node.{Node-F}
use Rattle.eb_syntax.specs.declared.ast.Node.TheOpen as form
use Rattle.eb_syntax.specs.Asts.{by_parts}
use Rattle.eb_scoping.specs.FreeNames.{names_of, bound_names}
use Rattle.eb_declared.specs.Parts.{Space, space_units, space_model, space_parameters, space_events, space_axioms, space_invariants, space_assigned, space_words, space_sizes, Part, declares, uses, formula}
use Rattle.eb_declared.specs.declared.fault.RepeatFault.{RepeatFault}
use Rattle.eb_declared.specs.declared.fault.RepeatFault.TheVariants as fault

-- A name in a space; or the identifiers of one binder, which have a space of their own.
pub data Declaration : Type 0 where
  declared : Space → List ℕ → Declaration
  binds : List (List ℕ) → Declaration

-- a name of one space may not stand in the other
pub data Meet : Space → Space → Type 0 where
  meet_same : (s : Space) → Meet s s
  meet_parameter : (event : List ℕ) → Meet space_model (space_parameters event)
  meet_model : (event : List ℕ) → Meet (space_parameters event) space_model

-- no name stands twice in the list
abbrev pub AreApart : List (List ℕ) → Type 0
AreApart xs = (x : List ℕ) (front rest : List (List ℕ)) → xs ≡ front ++ x ∷ rest → Contains front x → ⊥

-- a name of this space as it is printed: a label behind its `@`
abbrev pub printed : Space → List ℕ → List ℕ
printed space_units name = name
printed space_model name = name
printed (space_parameters event) name = name
printed space_events name = name
printed (space_axioms context) name = codes "@" ++ name
printed space_invariants name = codes "@" ++ name
printed (space_assigned event) name = name
printed space_words name = name
printed space_sizes name = name

-- the declaration repeats one of these, which stand before it, or itself, first by this name
abbrev pub Repeats : List Declaration → Declaration → List ℕ → Type 0
Repeats before (declared s x) name = (printed s x ≡ name) × (t : Space) × Contains before (declared t x) × Meet t s
Repeats before (binds xs) name = (front : List (List ℕ)) × (rest : List (List ℕ)) × (xs ≡ front ++ name ∷ rest) × Contains front name × AreApart front

-- none of the declarations repeats an earlier one
abbrev pub AreDistinct : List Declaration → Type 0
AreDistinct ds = (before rest : List Declaration) (d : Declaration) (name : List ℕ) → ds ≡ before ++ d ∷ rest → Repeats before d name → ⊥

-- the first declaration that repeats an earlier one repeats this name
pub record RepeatsFirst (ds : List Declaration) (name : List ℕ) : Type 0 where
  pub before : List Declaration
  pub declaration : Declaration
  pub rest : List Declaration
  pub is : ds ≡ before ++ declaration ∷ rest
  pub distinct : AreDistinct before
  pub repeats : Repeats before declaration name

-- `{E|P}` declares no identifier.
abbrev pub binders_step : Node-F (List Declaration) (List Declaration) → List Declaration
binders_step (form.Number n) = []
binders_step (form.Identifier x) = []
binders_step (form.Primed x) = []
binders_step (form.Constant c) = []
binders_step (form.Prefix op bs) = bs
binders_step (form.Call op bs) = bs
binders_step (form.Parentheses bs) = bs
binders_step (form.Inverse bs) = bs
binders_step (form.Operator op bs cs) = bs ++ cs
binders_step (form.Quantifier q xs bs) = binds (names_of xs) ∷ bs
binders_step (form.Binder op b bs cs) = binds (bound_names b) ∷ (bs ++ cs)
binders_step (form.Comprehension xs bs cs) = binds (names_of xs) ∷ (bs ++ cs)
binders_step (form.Builder bs cs) = bs ++ cs
binders_step (form.Extension rows) = flat_map (λ bs. bs) rows
binders_step (form.Partition rows) = flat_map (λ bs. bs) rows

-- the binders of a formula, in the order of the text
abbrev pub formula_declarations : Ast → List Declaration
formula_declarations = by_parts (List Declaration) binders_step

abbrev pub part_declarations : Part → List Declaration
part_declarations (declares s x) = declared s x ∷ []
part_declarations (uses p x) = []
part_declarations (formula p a) = formula_declarations a

-- what these parts declare
abbrev pub declarations : List Part → List Declaration
declarations parts = flat_map part_declarations parts

-- why parts are refused: the first declaration that repeats an earlier one repeats this name
abbrev pub IsFaultOf : List Part → RepeatFault → Type 0
IsFaultOf parts (fault.Repeated name) = RepeatsFirst (declarations parts) name
IsFaultOf parts fault.Memory = ⊤
