use Rattle.std.proofs.Common.{◌≡◌, ℕ, List, [], ◌∷◌, ◌++◌, arith, rules}
use Rattle.std.specs.Prelude.{Some, if◌then◌else◌}
use Rattle.std.specs.BTreeMap.{get_by_text}
use Rattle.std.specs.Str.{bytes_eq}
use Rattle.std.proofs.lemmas.Map.Text.{text_keys}
use Rattle.numbered_names.specs.declared.entries.Layer.{Layer}
use Rattle.numbered_names.proofs.LayerLaws.{pushed_by}
use Rattle.numbered_names.proofs.entries.Entries.push.Goals as goal

pub invariant_of-self-in-Ok : goal.invariant_of-self-in-Ok
invariant_of-self-in-Ok c =
    let x = c.in_ok-entry.entry in
    let l : Layer = record { entry = x; hidden = c.copied-hidden.result } in
    let e : c.push.new.self.items ≡ c.self.inside.layers.items ++ l ∷ [] = search rules in
    let h : c.copied-hidden.result ≡ get_by_text c.self.inside.newest x.name = search rules in
    let u : (q : List ℕ) → get_by_text c.insert.new.self q ≡ (if bytes_eq q x.name then Some x.number else get_by_text c.self.inside.newest q) = λ q. grind (arith, text_keys) in
    pushed_by c.self.inside.layers.items c.push.new.self.items l (λ q. get_by_text c.self.inside.newest q) (λ q. get_by_text c.insert.new.self q) e c.self.invariant h u
