-- The lines of refusals.
use Rattle.std.specs.Prelude.{ℕ, List, ◌++◌, codes, decimal}
use Rattle.scope_settings.specs.declared.limit.Limit.{Limit}
use Rattle.scope_settings.specs.declared.limit.Limit.TheVariants as limit
use Rattle.model_text.specs.declared.refusal.Refusal.{Refusal}
use Rattle.model_text.specs.declared.refusal.Refusal.TheVariants.{Words, TooLong, NotUtf8, BadToken, TooDeep, Syntax, Unsupported, DuplicateName, UnknownName, TypeClash, TypeOpen, InfiniteSet, ScopeBad, QueryCount, NotYet}

-- the line of a refusal at a place, in bytes
abbrev pub place_text : List ℕ → ℕ → List ℕ
place_text front place = front ++ (decimal place ++ codes "\n")

-- the line of a refusal of a name
abbrev pub name_text : List ℕ → List ℕ → List ℕ
name_text front name = front ++ (name ++ codes "\n")

abbrev pub limit_name : Limit → List ℕ
limit_name limit.Int = codes "int"
limit_name limit.Size = codes "size"
limit_name limit.Depth = codes "depth"
limit_name limit.Events = codes "events"
limit_name limit.Binder = codes "binder"
limit_name limit.Partition = codes "partition"
limit_name limit.Element = codes "element"
limit_name limit.Bound = codes "bound"
limit_name limit.Nodes = codes "nodes"

-- the line of a limit that is passed
abbrev pub limit_text : Limit → List ℕ
limit_text l = codes "refused E10 ScopeBad " ++ (limit_name l ++ codes "\n")

-- the line of a refusal
abbrev pub refusal_text : Refusal → List ℕ
refusal_text Words = codes "refused E14 Words\n"
refusal_text TooLong = codes "refused E13 TooLong\n"
refusal_text NotUtf8 = codes "refused E1 NotUtf8\n"
refusal_text (BadToken place) = place_text (codes "refused E2 BadToken ") place
refusal_text TooDeep = codes "refused E4 TooDeep\n"
refusal_text (Syntax place) = place_text (codes "refused E3 Syntax ") place
refusal_text (Unsupported place) = place_text (codes "refused E12 Unsupported ") place
refusal_text (DuplicateName name) = name_text (codes "refused E6 DuplicateName ") name
refusal_text (UnknownName name) = name_text (codes "refused E5 UnknownName ") name
refusal_text TypeClash = codes "refused E7 TypeClash\n"
refusal_text TypeOpen = codes "refused E8 TypeOpen\n"
refusal_text (InfiniteSet place) = place_text (codes "refused E9 InfiniteSet ") place
refusal_text (ScopeBad l) = limit_text l
refusal_text QueryCount = codes "refused E11 QueryBad count\n"
refusal_text NotYet = codes "refused E15 NotYet\n"
