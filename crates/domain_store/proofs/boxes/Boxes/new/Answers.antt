use Rattle.std.proofs.Common.{◌∙◌, ap, [], ◌∷◌}
use Rattle.occurrences.specs.Stores.{first_domains}
use Rattle.domain_store.proofs.BoxLaws.{first_is}
use Rattle.domain_store.proofs.boxes.Boxes.new.Goals as goal

pub returns-clause-stores : goal.returns-clause-stores
returns-clause-stores c =
    rw c.new-3.ensures.items (ap (λ at. at ∷ []) (
    first_is c.in_ok-firsts.firsts.scope c.in_ok-firsts.firsts.problem c.new-2.result c.in_ok-cells.cells.items c.in_ok-cells.ensures.empty
    ∙ ap (λ x. first_domains x.scope x.problem) c.in_ok-firsts.ensures))
