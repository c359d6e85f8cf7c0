-- Laws of the answers to names.
use Rattle.std.proofs.Common.{◌≡◌, ◌∙◌, ◌++◌, ◌∷◌, [], Bool, List, append_assoc, sym, ap, subst}
use Rattle.std.specs.List.{AllByRecursion}
use Rattle.std.specs.declared.result.Result.{Result}
use Rattle.std.specs.declared.result.Result.TheVariants.{Ok, Err}
use Rattle.eb_syntax.specs.declared.units.EbUnit.{EbUnit}
use Rattle.eb_lower.specs.declared.fault.NameFault.{NameFault}
use Rattle.eb_lower.specs.declared.fault.NameFault.TheVariants as fault
use Rattle.std.specs.Result.{IfOk, IfErr}
use Rattle.eb_scoping.specs.Models.{AreMarked}
use Rattle.eb_lower.specs.Names.{AreNamed, IsFaultOf}
use Rattle.eb_lower.specs.Unsupported.{unsupported}
use Rattle.eb_declared.specs.declared.fault.RepeatFault.{RepeatFault}
use Rattle.eb_declared.specs.declared.fault.RepeatFault.TheVariants as repeated
use Rattle.eb_declared.specs.Parts.{Part, parts}
use Rattle.eb_declared.specs.Declarations.{declarations, AreDistinct}
use Rattle.eb_declared.specs.Declarations as declared
use Rattle.eb_lower.specs.Usages.{Usage, usages, IsKnown}
use Rattle.eb_lower.specs.steps.Faults.{naming_fault}
use Rattle.eb_lower.specs.steps.Known.{JudgesUsage}
use Rattle.eb_lower.specs.steps.Answers.{Answers, KnowsAll}

pub declared_answer : (us : List EbUnit) (marks : List Bool) (ps : List Part) (e : RepeatFault) → unsupported us ≡ [] → ps ≡ parts us marks → declared.IsFaultOf ps e → Answers us marks (Err (naming_fault e))
declared_answer us marks ps (repeated.Repeated name) n d j = (n, subst (λ z. declared.IsFaultOf z (repeated.Repeated name)) d j)
declared_answer us marks ps repeated.Memory n d j = tt

pub known_answer : (us : List EbUnit) (marks : List Bool) (r : Result (Unit {0}) NameFault) → unsupported us ≡ [] → AreDistinct (declarations (parts us marks)) → KnowsAll us marks (usages (parts us marks)) r → Answers us marks r
known_answer us marks (Ok u) n d k = (n, d, k)
known_answer us marks (Err (fault.Unsupported place)) n d k = absurd k
known_answer us marks (Err (fault.DuplicateName name)) n d k = absurd k
known_answer us marks (Err (fault.UnknownName name)) n d k = (n, d, k)
known_answer us marks (Err fault.Memory) n d k = tt

pub usage_unknown : (us : List EbUnit) (marks : List Bool) (all before rest : List Usage) (u : Usage) (e : NameFault) → AllByRecursion (IsKnown us marks) before → all ≡ before ++ u ∷ rest → JudgesUsage us marks u (Err e) → KnowsAll us marks all (Err e)
usage_unknown us marks all before rest u (fault.Unsupported place) k s j = j
usage_unknown us marks all before rest u (fault.DuplicateName name) k s j = j
usage_unknown us marks all before rest u (fault.UnknownName name) k s j = record { before = before; unknown = u; rest = rest; is = s; known = k; fails = j.0; named = j.1 }
usage_unknown us marks all before rest u fault.Memory k s j = tt

pub all_more : (us : List EbUnit) (marks : List Bool) (xs ys : List Usage) → AllByRecursion (IsKnown us marks) xs → AllByRecursion (IsKnown us marks) ys → AllByRecursion (IsKnown us marks) (xs ++ ys)
all_more us marks [] ys a b = b
all_more us marks (x ∷ xs) ys a b = (a.0, all_more us marks xs ys a.1 b)

-- the first unknown usage of a part is the first one of all, where all usages before are known
pub part_unknown : (us : List EbUnit) (marks : List Bool) (all before found rest : List Usage) (e : NameFault) → AllByRecursion (IsKnown us marks) before → all ≡ before ++ (found ++ rest) → KnowsAll us marks found (Err e) → KnowsAll us marks all (Err e)
part_unknown us marks all before found rest (fault.Unsupported place) k s j = j
part_unknown us marks all before found rest (fault.DuplicateName name) k s j = j
part_unknown us marks all before found rest (fault.UnknownName name) k s j = record {
  before = before ++ j.before;
  unknown = j.unknown;
  rest = j.rest ++ rest;
  is = s ∙ (ap (λ z. before ++ (z ++ rest)) j.is ∙ (ap (λ z. before ++ z) (append_assoc j.before (j.unknown ∷ j.rest) rest) ∙ sym (append_assoc before j.before (j.unknown ∷ (j.rest ++ rest)))));
  known = all_more us marks before j.before k j.known;
  fails = j.fails;
  named = j.named;
}
part_unknown us marks all before found rest fault.Memory k s j = tt

pub answered : (us : List EbUnit) (marks : List Bool) (r : Result (Unit {0}) NameFault) → AreMarked us us marks → Answers us marks r → IfOk r (λ _. AreNamed us) × IfErr r (IsFaultOf us)
answered us marks (Ok u) m a = ((marks, m, a.0, a.1, a.2), tt)
answered us marks (Err (fault.Unsupported place)) m a = (tt, a)
answered us marks (Err (fault.DuplicateName name)) m a = (tt, (marks, m, a.0, a.1))
answered us marks (Err (fault.UnknownName name)) m a = (tt, (marks, m, a.0, a.1, a.2))
answered us marks (Err fault.Memory) m a = (tt, tt)
