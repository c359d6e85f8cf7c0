-- Steps of what reads a row of formulas.
use Rattle.std.proofs.Common.{◌≡◌, ◌∙◌, Bool, true, false, IsTrue, refl, rules, ℕ, suc, ◌+◌, ◌<◌, List, [], ◌∷◌, ◌++◌, map, length, drop, get_or, sym, ap, subst, append_assoc, add-one, drop-cons}
use Rattle.eb_syntax.specs.declared.ast.Ast.{Ast, the_lemmas}
use Rattle.eb_syntax.specs.declared.ast.Node.TheVariants as node
use Rattle.numbered_names.specs.declared.entries.Entry.{Entry}
use Rattle.numbered_names.specs.Names.{Names}
use Rattle.eb_resolved.specs.declared.resolved.Resolved.{Resolved}
use Rattle.eb_resolved.specs.Formulas as made
use Rattle.eb_resolved.specs.Resolving.{all, each, resolved}

-- what is left to read, as it stands after some formulas
pub record IsReadUpTo (scope : List Entry) (all rest : List Ast) (old now : Names) (found : List Resolved) : Type 0 where
  pub names : (each (map (resolved scope) all) old).1 ≡ (each (map (resolved scope) rest) now).1
  pub parts : (each (map (resolved scope) all) old).0 ≡ found ++ (each (map (resolved scope) rest) now).0

pub read_more : (scope : List Entry) (all rest : List Ast) (old now next : Names) (found : List Resolved) (part : Resolved) (i : ℕ) (a : Ast) → i < length all → a ≡ get_or all i a
    → IsReadUpTo scope all (drop i all) old now found → part ≡ (resolved scope a now).0 → next ≡ (resolved scope a now).1
    → IsReadUpTo scope all (drop (i + 1) all) old next (found ++ part ∷ [])
read_more scope all rest old now next found part i a h is w p n =
    let e : drop i all ≡ a ∷ drop (i + 1) all = rw (add-one, drop-cons all i a) (ap (λ z. z ∷ drop (suc i) all) (sym is)) in
    let v = subst (λ z. IsReadUpTo scope all z old now found) e w in
    rw (p, n) (record {
      names = v.names;
      parts = v.parts ∙ sym (append_assoc found _ _);
    })

-- braces with members between them
pub of_members : (scope : List Entry) (a : Ast) (s : Names) (ms : List Ast) → a.node ≡ node.Extension ms → (ms ≡ [] → ⊥) → resolved scope a s ≡ all (made.extension a.place) (map (resolved scope) ms) s
of_members scope a s [] is some = absurd (some refl)
of_members scope a s (m ∷ ms) is some = search (rules, the_lemmas)

pub not_empty : {A : Type 0} (b : Bool) (xs : List A) → b ≡ false → (xs ≡ [] → IsTrue b) → xs ≡ [] → ⊥
not_empty false xs e f h = let m : false ≡ true = f h in absurd cc
not_empty true xs e f h = absurd cc
