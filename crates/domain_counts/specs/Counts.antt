-- How many values a body or a domain has.
use Rattle.std.specs.Prelude.{ℕ, ◌*◌, Bool, true, false, ◌&&◌, length}
use Rattle.int_dom.specs.Intervals.{size}
use Rattle.occ_domains.specs.declared.body.Body.{Body, Body-F, fold-Body}
use Rattle.occ_domains.specs.declared.body.Body.TheOpen as body
use Rattle.occ_domains.specs.declared.domain.Domain.{Domain}
use Rattle.occ_domains.specs.declared.domain.Domain.TheVariants as domain

abbrev pub count_step : Body-F ℕ → ℕ
count_step body.Empty = 0
count_step (body.Integers d) = size d
count_step (body.Members xs) = length xs
count_step (body.Pairs m n) = m * n
count_step body.AllSets = 1

-- The integers of an interval, the values of a list, the pairs. All sets count as one, since no test parts them.
abbrev pub count : Body → ℕ
count = fold-Body ℕ count_step

abbrev pub setless_step : Body-F Bool → Bool
setless_step body.Empty = true
setless_step (body.Integers d) = true
setless_step (body.Members xs) = true
setless_step (body.Pairs first second) = first && second
setless_step body.AllSets = false

-- no part of it is all sets
abbrev pub is_setless : Body → Bool
is_setless = fold-Body Bool setless_step

-- the values of an expression; Undefined is none, nor is a truth of a predicate
abbrev pub count_in : Domain → ℕ
count_in (domain.Truths t) = 0
count_in (domain.Values b undefined) = count b

-- no part of its body, if it has one, is all sets
abbrev pub is_setless_in : Domain → Bool
is_setless_in (domain.Truths t) = true
is_setless_in (domain.Values b undefined) = is_setless b
