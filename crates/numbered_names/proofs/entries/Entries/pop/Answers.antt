use Rattle.std.proofs.Common.{◌≡◌, ℕ, List, [], ◌∷◌, ◌++◌, rules, subst}
use Rattle.std.specs.Prelude.{if◌then◌else◌}
use Rattle.std.specs.BTreeMap.{get_by_text}
use Rattle.std.specs.Str.{bytes_eq}
use Rattle.numbered_names.proofs.LayerLaws.{popped_by, there_by}
use Rattle.numbered_names.proofs.entries.Entries.pop.Goals as goal

pub restore-requires : goal.restore-requires
restore-requires c =
    let e : c.self.inside.layers.items ≡ c.pop.new.self.items ++ c.in-Some.layer ∷ [] = search rules in
    there_by c.pop.new.self.items c.self.inside.layers.items c.in-Some.layer (λ q. get_by_text c.self.inside.newest q) c.as_str.result.now e c.as_str.ensures c.self.invariant

pub invariant_of-self : goal.invariant_of-self
invariant_of-self c =
    let e : c.self.inside.layers.items ≡ c.pop.new.self.items ++ c.in-Some.layer ∷ [] = search rules in
    let u : (q : List ℕ) → get_by_text c.restore.new.newest q ≡ (if bytes_eq q c.in-Some.layer.entry.name then c.in-Some.layer.hidden else get_by_text c.self.inside.newest q) =
    subst (λ x. (q : List ℕ) → get_by_text c.restore.new.newest q ≡ (if bytes_eq q x then c.in-Some.layer.hidden else get_by_text c.self.inside.newest q)) c.as_str.ensures c.restore.ensures in
    popped_by c.pop.new.self.items c.self.inside.layers.items c.in-Some.layer (λ q. get_by_text c.self.inside.newest q) (λ q. get_by_text c.restore.new.newest q) e c.self.invariant u
