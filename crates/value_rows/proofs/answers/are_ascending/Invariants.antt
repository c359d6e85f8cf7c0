use Rattle.std.proofs.Common.{◌≡◌, drop}
use Rattle.std.specs.List.{list_all}
use Rattle.eb_value.specs.Comprehensions.{members}
use Rattle.eb_value.specs.Values.{is_ascending as rises}
use Rattle.value_rows.proofs.answers.are_ascending.Given as goal

abbrev pub invariant-loop-each : goal.invariant-loop-each
invariant-loop-each l = list_all (λ v. rises (members v)) l.sets ≡ list_all (λ v. rises (members v)) (drop l.each-index l.sets)
