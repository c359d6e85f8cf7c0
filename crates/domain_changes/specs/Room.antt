-- How many changes a domain can take.
use Rattle.std.specs.Prelude.{ℕ, ◌+◌, Bool, true, false, length}
use Rattle.int_dom.specs.Intervals.{size}
use Rattle.occ_domains.specs.declared.body.Body.{Body, Body-F, fold-Body}
use Rattle.occ_domains.specs.declared.body.Body.TheOpen as body
use Rattle.occ_domains.specs.declared.domain.Truths.{Truths}
use Rattle.occ_domains.specs.declared.domain.Domain.{Domain}
use Rattle.occ_domains.specs.declared.domain.Domain.TheVariants as domain

-- one for what may be
abbrev pub one_if : Bool → ℕ
one_if true = 1
one_if false = 0

-- one for each truth; and one more, since even where no truth is left a meet with values leaves another domain, the one without outcomes
abbrev pub truths_room : Truths → ℕ
truths_room t = 1 + (one_if t.can_be_true + (one_if t.can_be_false + one_if t.can_be_undefined))

abbrev pub body_step : Body-F ℕ → ℕ
body_step body.Empty = 0
body_step (body.Integers d) = size d
body_step (body.Members xs) = length xs
body_step (body.Pairs first second) = 1 + (first + second)
body_step body.AllSets = 1

-- one for each integer and each value of a list; one for pairs, besides what both parts can take; one for all sets
abbrev pub body_room : Body → ℕ
body_room = fold-Body ℕ body_step

-- how many changes a domain can take at most: its truths, or its body and Undefined
abbrev pub room : Domain → ℕ
room (domain.Truths t) = truths_room t
room (domain.Values b undefined) = one_if undefined + body_room b
