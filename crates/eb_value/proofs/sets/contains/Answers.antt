use Rattle.eb_value.proofs.ComprehensionLaws.{has_is}
use Rattle.std.proofs.Common.{rules, ◌≡◌}
use Rattle.std.proofs.lemmas.Fn.{always_returns_same}
use Rattle.eb_value.specs.Values.{compare}
use Rattle.eb_value.proofs.SetLaws.{search_tells}
use Rattle.eb_value.proofs.sets.contains.Goals as goal

pub returns-clause-is_member : goal.returns-clause-is_member
returns-clause-is_member c =
    search_tells c.args.s.now c.as_slice.result.now c.args.v.now c.binary_search_by.result c.is_ok.result c.requires c.as_slice.ensures c.is_ok.ensures.value c.binary_search_by.ensures.bound
    (c.binary_search_by.ensures.position (λ y. compare y c.args.v.now) (always_returns_same _ (λ a r. r ≡ compare a.0.now c.args.v.now) _ (λ a r q k. search rules)))

pub returns-clause-equals : goal.returns-clause-equals
returns-clause-equals c = has_is c.args.s.now c.args.v.now c.is_ok.result (returns-clause-is_member c)
