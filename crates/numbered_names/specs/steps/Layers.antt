-- Entries of which each keeps what its name stood for before, and a map of the newest of each name.
use Rattle.std.specs.Prelude.{◌≡◌, ⊤, ℕ, List, [], ◌∷◌, ◌++◌, map, Option}
use Rattle.numbered_names.specs.declared.entries.Entry.{Entry}
use Rattle.numbered_names.specs.declared.entries.Layer.{Layer}
use Rattle.numbered_names.specs.Names.{newest}

abbrev pub entries_of : List Layer → List Entry
entries_of ls = map (λ l. l.entry) ls

-- behind these entries each keeps what its name stood for before it
abbrev pub AreHiding : List Entry → List Layer → Type 0
AreHiding before [] = ⊤
AreHiding before (l ∷ ls) = (l.hidden ≡ newest l.entry.name before) × AreHiding (before ++ l.entry ∷ []) ls

-- the map has the newest entry of each name
pub record AreLayers (layers : List Layer) (numbers : List ℕ → Option ℕ) : Type 0 where
  pub hiding : AreHiding [] layers
  pub newest : (q : List ℕ) → numbers q ≡ newest q (entries_of layers)
