-- Steps of what reads a row.
use Rattle.std.proofs.Common.{◌≡◌, ◌∙◌, ℕ, suc, ◌+◌, ◌<◌, List, [], ◌∷◌, ◌++◌, length, drop, get_or, sym, ap, subst, append_assoc, add-one, drop-cons}
use Rattle.numbered_names.specs.Names.{Names}
use Rattle.eb_model.specs.Models.{Reading, each_of}

-- what is left to read, as it stands after some of the row
pub record IsReadUpTo {A B : Type 0} (read : A → Reading B) (all rest : List A) (old now : Names) (found : List B) : Type 0 where
  pub names : (each_of read all old).1 ≡ (each_of read rest now).1
  pub made : (each_of read all old).0 ≡ found ++ (each_of read rest now).0

pub read_more : {A B : Type 0} (read : A → Reading B) (all : List A) (old now next : Names) (found : List B) (made : B) (i : ℕ) (a : A) → i < length all → a ≡ get_or all i a
    → IsReadUpTo read all (drop i all) old now found → made ≡ (read a now).0 → next ≡ (read a now).1
    → IsReadUpTo read all (drop (i + 1) all) old next (found ++ made ∷ [])
read_more read all old now next found made i a h is w p n =
    let e : drop i all ≡ a ∷ drop (i + 1) all = rw (add-one, drop-cons all i a) (ap (λ z. z ∷ drop (suc i) all) (sym is)) in
    let v = subst (λ z. IsReadUpTo read all z old now found) e w in
    rw (p, n) (record {
      names = v.names;
      made = v.made ∙ sym (append_assoc found _ _);
    })
