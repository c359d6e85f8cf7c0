-- The units of a text that its model has: the machine with the contexts that it reaches, or without a machine all contexts.
use Rattle.std.specs.Prelude.{ℕ, ◌≡◌, ◌⊎◌, Bool, true, List, [], ◌∷◌, ◌++◌, Option, Some, None, Contains, ⊤}
use Rattle.eb_syntax.specs.declared.ast.Identifier.{Identifier}
use Rattle.eb_syntax.specs.declared.units.Context.{Context}
use Rattle.eb_syntax.specs.declared.units.Machine.{Machine}
use Rattle.eb_syntax.specs.declared.units.EbUnit.{EbUnit}
use Rattle.eb_syntax.specs.declared.units.EbUnit.TheVariants as eb

-- the machine of a text, which is its first one
abbrev pub machine_of : List EbUnit → Option Machine
machine_of [] = None
machine_of (eb.Machine m ∷ us) = Some m
machine_of (eb.Context c ∷ us) = machine_of us
machine_of (eb.Scope s ∷ us) = machine_of us
machine_of (eb.Queries qs ∷ us) = machine_of us

-- what a machine sees it reaches, and what a context extends is reached with it
pub data Reaches : List EbUnit → List ℕ → Type 0 where
  r_seen : {us : List EbUnit} (m : Machine) (x : Identifier) → machine_of us ≡ Some m → Contains m.sees x → Reaches us x.name
  r_extended : {us : List EbUnit} (c : Context) (x : Identifier) → Contains us (eb.Context c) → Reaches us c.name.name → Contains c.extends x → Reaches us x.name

-- the unit, which stands behind these others, belongs to the model of the text
abbrev pub IsModelUnit : List EbUnit → List EbUnit → EbUnit → Type 0
IsModelUnit us before (eb.Context c) = (machine_of us ≡ None) ⊎ Reaches us c.name.name
IsModelUnit us before (eb.Machine m) = machine_of before ≡ None
IsModelUnit us before (eb.Scope s) = ⊥
IsModelUnit us before (eb.Queries qs) = ⊥

-- one mark for each of these units of the text, which stand behind those others: true for just those of the model
abbrev pub AreMarkedBehind : List EbUnit → List EbUnit → List EbUnit → List Bool → Type 0
AreMarkedBehind us before [] [] = ⊤
AreMarkedBehind us before [] (b ∷ bs) = ⊥
AreMarkedBehind us before (v ∷ vs) [] = ⊥
AreMarkedBehind us before (v ∷ vs) (b ∷ bs) = (b ≡ true → IsModelUnit us before v) × (IsModelUnit us before v → b ≡ true) × AreMarkedBehind us (before ++ v ∷ []) vs bs

-- one mark for each of these units, with which the text begins: true for just those of the model
abbrev pub AreMarked : List EbUnit → List EbUnit → List Bool → Type 0
AreMarked us vs bs = AreMarkedBehind us [] vs bs

-- the units whose mark is true
abbrev pub marked : List EbUnit → List Bool → List EbUnit
marked [] bs = []
marked (v ∷ vs) [] = []
marked (v ∷ vs) (true ∷ bs) = v ∷ marked vs bs
marked (v ∷ vs) (b ∷ bs) = marked vs bs

-- by `extends`, in none, one or more steps, from the context of the one name to that of the other
pub data Extends (us : List EbUnit) (x : List ℕ) : List ℕ → Type 0 where
  extends_none : Extends us x x
  extends_more : (c : Context) (y : Identifier) → Extends us x c.name.name → Contains us (eb.Context c) → Contains c.extends y → Extends us x y.name
