-- Reading one behind the other, as the loops of the code do.
use Rattle.std.proofs.Common.{◌≡◌, ◌∙◌, ◌+◌, ◌-◌, ◌<◌, ℕ, zero, suc, Bool, true, false, List, [], ◌∷◌, ◌++◌, refl, sym, ap, append_assoc, arith}
use Rattle.std.specs.Prelude.{Ok, Err}
use Rattle.std.proofs.lemmas.List.{append-nil}
use Rattle.eb_lexer.specs.declared.token.Token.{Token}
use Rattle.eb_parser.specs.declared.fault.Fault.{Fault}
use Rattle.eb_parser.specs.declared.fault.Fault.TheVariants.{Syntax, TooDeep}
use Rattle.eb_parser.specs.declared.fault.ParseFault.{ParseFault}
use Rattle.eb_parser.specs.declared.fault.ParseFault.TheVariants as fault
use Rattle.eb_parser.specs.steps.Finding.{Finds}
use Rattle.eb_units.specs.steps.Descending.{◌>>=◌, Read, many, with_front}

abbrev pub Opens : Type 0
Opens = List Token → Bool

abbrev pub One : Type 0 → Type 0
One A = List Token → Read A

-- what a turn gives, with what is behind it
abbrev pub turn : {A : Type 0} → Opens → One A → ℕ → A × List Token → Read (List A)
turn opens one m x = many opens one m x.1 >>= λ y. Ok (x.0 ∷ y.0, y.1)

pub many_open : {A : Type 0} (opens : Opens) (one : One A) (m : ℕ) (ts : List Token) → opens ts ≡ true → many opens one (suc m) ts ≡ (one ts >>= turn opens one m)
unfolding many
many_open opens one m ts e = rw e refl

pub many_shut : {A : Type 0} (opens : Opens) (one : One A) (m : ℕ) (ts : List Token) → opens ts ≡ false → many opens one (suc m) ts ≡ Ok ([], ts)
unfolding many
many_shut opens one m ts e = rw e refl

pub many_spent : {A : Type 0} (opens : Opens) (one : One A) (ts : List Token) → many opens one zero ts ≡ Err Syntax
unfolding many
many_spent opens one ts = refl

regroup : {A : Type 0} (front : List A) (x : A) (r : Read (List A)) → with_front front (r >>= λ y. Ok (x ∷ y.0, y.1)) ≡ with_front (front ++ x ∷ []) r
regroup front x (Err e) = refl
regroup {A} front x (Ok y) = ap (λ (z : List A). Ok (z, y.1)) (sym (append_assoc front (x ∷ []) y.0))

same_room : {A : Type 0} (opens : Opens) (one : One A) (k m : ℕ) (ts : List Token) → k ≡ m → many opens one k ts ≡ many opens one m ts
same_room opens one k m ts e = ap (λ z. many opens one z ts) e

pub goes_on : {A : Type 0} (opens : Opens) (one : One A) (n i : ℕ) (front : List A) (ts after : List Token) (x : A) (total : Read (List A)) → i < n → opens ts ≡ true → one ts ≡ Ok (x, after)
    → with_front front (many opens one (n - i) ts) ≡ total → with_front (front ++ x ∷ []) (many opens one (n - (i + 1)) after) ≡ total
goes_on {A} opens one n i front ts after x total l o e so =
    let m : n - i ≡ suc (n - (i + 1)) = omega arith in
    sym (regroup front x (many opens one (n - (i + 1)) after))
    ∙ (ap (with_front front) (sym (same_room opens one _ _ ts m ∙ (many_open opens one (n - (i + 1)) ts o ∙ ap (λ (z : Read A). z >>= turn opens one (n - (i + 1))) e))) ∙ so)

pub is_done : {A : Type 0} (opens : Opens) (one : One A) (n i : ℕ) (front : List A) (ts : List Token) (total : Read (List A)) → i < n → opens ts ≡ false
    → with_front front (many opens one (n - i) ts) ≡ total → total ≡ Ok (front, ts)
is_done {A} opens one n i front ts total l o so =
    let m : n - i ≡ suc (n - (i + 1)) = omega arith in
    sym so ∙ (ap (with_front front) (same_room opens one _ _ ts m ∙ many_shut opens one (n - (i + 1)) ts o) ∙ ap (λ (z : List A). Ok (z, ts)) (append-nil front))

fails : {A : Type 0} (opens : Opens) (one : One A) (n i : ℕ) (f : Fault) (front : List A) (ts : List Token) (total : Read (List A)) → i < n → opens ts ≡ true → one ts ≡ Err f
    → with_front front (many opens one (n - i) ts) ≡ total → total ≡ Err f
fails {A} opens one n i f front ts total l o e so =
    let m : n - i ≡ suc (n - (i + 1)) = omega arith in
    sym so ∙ ap (with_front front) (same_room opens one _ _ ts m ∙ (many_open opens one (n - (i + 1)) ts o ∙ ap (λ (z : Read A). z >>= turn opens one (n - (i + 1))) e))

pub breaks : {A : Type 0} (opens : Opens) (one : One A) (n i : ℕ) (f : ParseFault) (front : List A) (tokens ts : List Token) (total : Read (List A)) → i < n → opens ts ≡ true → Finds tokens (Err f) (one ts)
    → with_front front (many opens one (n - i) ts) ≡ total → Finds tokens (Err f) total
breaks opens one n i (fault.Syntax at) front tokens ts total l o e so = fails opens one n i Syntax front ts total l o e so
breaks opens one n i fault.TooDeep front tokens ts total l o e so = fails opens one n i TooDeep front ts total l o e so
breaks opens one n i fault.Memory front tokens ts total l o e so = tt

pub spent : {A : Type 0} (opens : Opens) (one : One A) (n i : ℕ) (front : List A) (ts : List Token) (total : Read (List A)) → n ≡ i
    → with_front front (many opens one (n - i) ts) ≡ total → total ≡ Err Syntax
spent opens one n i front ts total l so =
    let m : n - i ≡ 0 = omega arith in
    sym so ∙ ap (with_front front) (same_room opens one _ _ ts m ∙ many_spent opens one ts)

pub begins : {A : Type 0} (r : Read (List A)) → with_front [] r ≡ r
begins (Ok x) = refl
begins (Err e) = refl
