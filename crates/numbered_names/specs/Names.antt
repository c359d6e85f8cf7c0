-- Which name stands for what: names in scope with numbers in place of what they stand for.
--
-- Identifiers where they are declared or bound and marks are numbered together, in the order in which they stand in the text;
-- an identifier that `{E|P}` binds stands where E uses it first.
use Rattle.std.specs.Prelude.{ℕ, ◌+◌, Bool, true, false, if◌then◌else◌, List, [], ◌∷◌, ◌++◌, take, Option, Some, None, fold, unwrap_or}
use Rattle.std.specs.Option.{option_or}
use Rattle.std.specs.Str.{bytes_eq}
use Rattle.eb_syntax.specs.declared.ast.Constant.{Constant}
use Rattle.eb_syntax.specs.declared.ast.Constant.TheVariants as constant
use Rattle.eb_syntax.specs.declared.ast.Bound.{Bound}
use Rattle.eb_syntax.specs.declared.ast.Bound.TheVariants as bound
use Rattle.eb_syntax.specs.declared.ast.Mark.{Mark}
use Rattle.eb_syntax.specs.declared.ast.Mark.TheVariants as mark
use Rattle.eb_syntax.specs.declared.ast.Identifier.{Identifier}
use Rattle.numbered_names.specs.declared.entries.Entry.{Entry}

-- The names in scope, the innermost last: those that are bound, and inside the E of a `{E|P}` those that it has bound so
-- far. The next number is the first that is free.
pub record Names : Type 0 where
  pub bound : List Entry
  pub built : Option (List Entry)
  pub next : ℕ

-- the number of the last entry of this name
abbrev pub newest : List ℕ → List Entry → Option ℕ
newest x es = fold (λ found e. if bytes_eq x e.name then Some e.number else found) None es

-- one more entry, where an older one counts
abbrev pub older : List ℕ → Option ℕ → Entry → Option ℕ
older x found e = option_or found (if bytes_eq x e.name then Some e.number else None)

-- the number of the first entry of this name
abbrev pub oldest : List ℕ → List Entry → Option ℕ
oldest x es = fold (older x) None es

abbrev pub entry : List ℕ → ℕ → Entry
entry x n = record { name = x; number = n }

-- A name that nothing inside E binds is bound by `{E|P}`, at its first use: its number,
abbrev pub built_in : List ℕ → ℕ → Option (List Entry) → Option ℕ
built_in x n None = None
built_in x n (Some es) = Some (unwrap_or (newest x es) n)

abbrev pub built_number : List ℕ → Names → Option ℕ
built_number x s = built_in x s.next s.built

-- and the names behind it
abbrev pub built_more : List ℕ → Names → List Entry → Option ℕ → Names
built_more x s es (Some k) = s
built_more x s es None = record { bound = s.bound; built = Some (es ++ entry x s.next ∷ []); next = s.next + 1 }

abbrev pub after_build : List ℕ → Names → Option (List Entry) → Names
after_build x s None = s
after_build x s (Some es) = built_more x s es (newest x es)

abbrev pub after_built : List ℕ → Names → Names
after_built x s = after_build x s s.built

-- the number of a name that is bound, or else built
abbrev pub inner_number : List ℕ → Names → Option ℕ
inner_number x s = option_or (newest x s.bound) (built_number x s)

abbrev pub after_found : List ℕ → Names → Option ℕ → Names
after_found x s (Some k) = s
after_found x s None = after_built x s

-- the names behind the use of a name
abbrev pub after_use : List ℕ → Names → Names
after_use x s = after_found x s (newest x s.bound)

abbrev pub no_names : Names
no_names = record { bound = []; built = None; next = 0 }

-- one more number
abbrev pub after_mark : Names → Names
after_mark s = record { bound = s.bound; built = s.built; next = s.next + 1 }

-- one more name, with the next number
abbrev pub bind : Names → Identifier → Names
bind s x = record { bound = s.bound ++ entry x.name s.next ∷ []; built = s.built; next = s.next + 1 }

abbrev pub bind_all : Names → List Identifier → Names
bind_all s xs = fold bind s xs

abbrev pub bind_token : Names → Mark → Names
bind_token s (mark.Identifier x) = bind s x
bind_token s mark.MapsTo = s
bind_token s mark.Open = s
bind_token s mark.Close = s

abbrev pub bind_pattern : Names → List Mark → Names
bind_pattern s ms = fold bind_token s ms

-- what a binder binds
abbrev pub bind_bound : Names → Bound → Names
bind_bound s (bound.Identifiers xs) = bind_all s xs
bind_bound s (bound.Pattern ms) = bind_pattern s ms

-- behind a binder only the first n names, those of before, are bound
abbrev pub unbind : ℕ → Names → Names
unbind n s = record { bound = take n s.bound; built = s.built; next = s.next }

-- at the begin of the E of `{E|P}`: nothing is bound
abbrev pub enter : ℕ → Names
enter n = record { bound = []; built = Some []; next = n }

abbrev pub entries : Option (List Entry) → List Entry
entries (Some es) = es
entries None = []

-- behind it: bound are the names of before and those that E uses
abbrev pub leave : Names → Names → Names
leave before s = record { bound = before.bound ++ entries s.built; built = before.built; next = s.next }

-- the declared identifiers of a model, and how many numbers it has
pub record Scope : Type 0 where
  pub entries : List Entry
  pub asked : ℕ

-- the constants that have a type of their own at each place: a mark
abbrev pub is_mark : Constant → Bool
is_mark constant.Truth = false
is_mark constant.Falsity = false
is_mark constant.Integers = false
is_mark constant.Naturals = false
is_mark constant.PositiveNaturals = false
is_mark constant.Booleans = false
is_mark constant.TrueValue = false
is_mark constant.FalseValue = false
is_mark constant.Identity = true
is_mark constant.FirstProjection = true
is_mark constant.SecondProjection = true
is_mark constant.EmptySet = true
