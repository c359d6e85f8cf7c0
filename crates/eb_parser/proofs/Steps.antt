-- Steps of a reader that may fail, and what they have read.
use Rattle.std.proofs.Common.{◌≡◌, ◌∙◌, ◌≤◌, ℕ, Bool, true, false, cond, List, [], ◌∷◌, ◌++◌, refl, ap, subst, arith, IsTrue}
use Rattle.std.specs.Prelude.{Option, Some, None, Result, Ok, Err}
use Rattle.std.proofs.lemmas.Bool.Decides.{nat_tests}
use Rattle.eb_signs.specs.declared.sign.Sign.{Sign}
use Rattle.eb_lexer.specs.declared.token.Token.{Token}
use Rattle.eb_parser.specs.declared.part.Part.{Part}
use Rattle.eb_parser.specs.declared.fault.Fault.{Fault}
use Rattle.eb_parser.specs.declared.table.Follow.{Follow}
use Rattle.eb_parser.specs.Signs.{IsSign}
use Rattle.eb_signs.specs.Levels.{level_of, admits}
use Rattle.eb_parser.specs.Grammar.{Closes}
use Rattle.eb_parser.specs.steps.Tables.{head_follow, row_of}
use Rattle.eb_parser.specs.steps.Climbing.{◌>>=◌, begins, after_first, after_sign, after_closing, goes_on, next_follow}
use Rattle.eb_parser.proofs.SignLaws.{sign_true, sign_is, follow_sign, kind_follow}

abbrev pub ok : {A : Type 0} → A → Result A Fault
ok x = Ok x

pub ok_inj : {A : Type 0} (x y : A) → ok x ≡ Ok y → x ≡ y
ok_inj x y e = cc

pub bind_ok : {A B : Type 0} (r : Result A Fault) (g : A → Result B Fault) (y : B) → (r >>= g) ≡ Ok y → (x : A) × (r ≡ Ok x) × (g x ≡ Ok y)
bind_ok (Ok x) g y e = (x, refl, e)
bind_ok (Err f) g y e = absurd cc

pub guard_ok : {A : Type 0} (c : Bool) (x : Result A Fault) (f : Fault) (y : A) → cond c x (Err f) ≡ Ok y → (c ≡ true) × (x ≡ Ok y)
guard_ok true x f y e = (refl, e)
guard_ok false x f y e = absurd cc

pub guard_some : {A : Type 0} (c : Bool) (x y : A) → cond c (Some x) None ≡ Some y → (c ≡ true) × (x ≡ y)
guard_some true x y e = (refl, cc)
guard_some false x y e = absurd cc

-- a sign at the front
pub record Begun (sg : Sign) (ts : List Token) : Type 0 where
  pub token : Token
  pub sign : IsSign token sg
  pub is : ts ≡ token ∷ after_first ts

pub begins_means : (sign : Sign) (ts : List Token) → begins sign ts ≡ true → Begun sign ts
begins_means sign [] e = absurd cc
begins_means sign (t ∷ ts) e = record { token = t; sign = sign_true sign t e; is = refl }

pub record Behind (sg : Sign) (ts us : List Token) : Type 0 where
  pub token : Token
  pub sign : IsSign token sg
  pub is : ts ≡ token ∷ us

pub after_sign_means : (sign : Sign) (ts us : List Token) → after_sign sign ts ≡ Ok us → Behind sign ts us
unfolding after_sign
after_sign_means sign ts us e =
    let g = guard_ok (begins sign ts) (ok (after_first ts)) _ us e in
    let w = begins_means sign ts g.0 in
    record { token = w.token; sign = w.sign; is = w.is ∙ ap (λ z. w.token ∷ z) (ok_inj _ _ g.1) }

pub after_sign_ok : (sign : Sign) (t : Token) (ts : List Token) → IsSign t sign → after_sign sign (t ∷ ts) ≡ Ok ts
unfolding after_sign
after_sign_ok sign t ts e = rw (sign_is sign t e) refl

pub record Closed (o : Option Sign) (ts us : List Token) : Type 0 where
  pub signs : List Token
  pub closes : Closes o signs
  pub is : ts ≡ signs ++ us

pub closing_means : (o : Option Sign) (ts us : List Token) → after_closing o ts ≡ Ok us → Closed o ts us
closing_means None ts us e = record { signs = []; closes = refl; is = ok_inj _ _ e }
closing_means (Some sign) ts us e = let w = after_sign_means sign ts us e in record { signs = w.token ∷ []; closes = (w.token, refl, w.sign); is = w.is }

-- what is known of a sign that a formula goes on with
pub record GoesOn (k : ℕ) (p : Part) (ts : List Token) (f : Follow) : Type 0 where
  pub token : Token
  pub sign : IsSign token (follow_sign f)
  pub is : ts ≡ token ∷ after_first ts
  pub high : k ≤ level_of (row_of f)
  pub fits : IsTrue (admits (row_of f) p.level)
  pub closed : p.loose ≡ false

goes_on_means : (k : ℕ) (p : Part) (f : Follow) → goes_on k p f ≡ true → (k ≤ level_of (row_of f)) × IsTrue (admits (row_of f) p.level) × (p.loose ≡ false)
goes_on_means k p f e = grind (arith, nat_tests)

next_head : (k : ℕ) (p : Part) (o : Option Follow) (f : Follow) → next_follow k p o ≡ Some f → (o ≡ Some f) × (goes_on k p f ≡ true)
next_head k p None f e = absurd cc
next_head k p (Some g) f e = let w = guard_some (goes_on k p g) g f e in (ap Some w.1, subst (λ z. goes_on k p z ≡ true) w.1 w.0)

by_head : (k : ℕ) (p : Part) (ts : List Token) (f : Follow) → head_follow ts ≡ Some f → (k ≤ level_of (row_of f)) × IsTrue (admits (row_of f) p.level) × (p.loose ≡ false) → GoesOn k p ts f
by_head k p [] f e m = absurd cc
by_head k p (t ∷ ts) f e m = record { token = t; sign = kind_follow t.kind f e; is = refl; high = m.0; fits = m.1; closed = m.2 }

pub next_some : (k : ℕ) (p : Part) (ts : List Token) (f : Follow) → next_follow k p (head_follow ts) ≡ Some f → GoesOn k p ts f
next_some k p ts f e = let h = next_head k p (head_follow ts) f e in by_head k p ts f h.0 (goes_on_means k p f h.1)
