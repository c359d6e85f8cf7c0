use Rattle.std.proofs.Common.{◌∙◌, ◌<◌, ap, sym, subst}
use Rattle.occ_store.specs.Stores.{volume}
use Rattle.occ_store.proofs.FirstStores.{first_only, first_volume, first_some}
use Rattle.occ_store.proofs.laws.first_stores_have_the_valuations.Goals as goal

pub returns-clause-exact : goal.returns-clause-exact
returns-clause-exact c = λ scope choices store integers filled first. first_only c.integers_lie_within_bounds.ensures scope choices store filled integers first

pub returns-clause-count : goal.returns-clause-count
returns-clause-count c = λ scope choices store integers filled first.
    ap volume (first_only c.integers_lie_within_bounds.ensures scope choices store filled integers first) ∙ first_volume scope choices integers

pub returns-clause-some : goal.returns-clause-some
returns-clause-some c = λ scope choices store integers filled first.
    let same = first_only c.integers_lie_within_bounds.ensures scope choices store filled integers first in
    subst (λ s. 0 < volume s) (sym same) (first_some scope choices filled)
