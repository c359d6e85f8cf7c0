use Rattle.eb_value.proofs.CanonicalLaws as laws
use Rattle.eb_value.proofs.canonical.canonical_values_have_canonical_parts.Goals as goal

pub returns-clause-ascending : goal.returns-clause-ascending
returns-clause-ascending c = λ v h. (laws.members h).0

pub returns-clause-members : goal.returns-clause-members
returns-clause-members c = λ v h. (laws.members h).1

pub returns-clause-maplet : goal.returns-clause-maplet
returns-clause-maplet c = λ v m h e. laws.maplet m h e

pub returns-clause-pairs : goal.returns-clause-pairs
returns-clause-pairs c = laws.halves

pub returns-clause-sets : goal.returns-clause-sets
returns-clause-sets c = laws.of_set

pub returns-clause-each : goal.returns-clause-each
returns-clause-each c = laws.each

pub returns-clause-all : goal.returns-clause-all
returns-clause-all c = laws.all

pub returns-clause-families : goal.returns-clause-families
returns-clause-families c = laws.families

pub returns-clause-listed : goal.returns-clause-listed
returns-clause-listed c = laws.listed

pub returns-clause-joined : goal.returns-clause-joined
returns-clause-joined c = laws.joined

pub returns-clause-left : goal.returns-clause-left
returns-clause-left c = laws.left

pub returns-clause-right : goal.returns-clause-right
returns-clause-right c = laws.right

pub returns-clause-typed : goal.returns-clause-typed
returns-clause-typed c = λ scope v ty h. laws.typed scope ty v h
