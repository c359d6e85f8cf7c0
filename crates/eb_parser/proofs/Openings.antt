-- How formulas begin: behind an identifier stands no comma and no dot, and no formula begins with a brace that closes.
use Rattle.std.proofs.Common.{◌≡◌, ◌∙◌, ℕ, zero, suc, Bool, true, false, List, [], ◌∷◌, ◌++◌, refl, sym, ap, subst, append_assoc}
use Rattle.std.specs.Prelude.{Option, Some, None, Result, Ok, Err}
use Rattle.eb_signs.specs.declared.sign.Sign.{Sign}
use Rattle.eb_signs.specs.declared.sign.Sign.TheVariants as sign
use Rattle.eb_lexer.specs.declared.token.Token.{Token}
use Rattle.eb_lexer.specs.declared.token.TokenKind.{TokenKind}
use Rattle.eb_lexer.specs.declared.token.TokenKind.TheVariants as kind
use Rattle.eb_syntax.specs.declared.ast.Ast.{Ast}
use Rattle.eb_syntax.specs.declared.ast.Identifier.{Identifier}
use Rattle.eb_parser.specs.declared.part.Part.{Part}
use Rattle.eb_parser.specs.declared.fault.Fault.{Fault}
use Rattle.eb_parser.specs.declared.fault.Fault.TheVariants.{Syntax}
use Rattle.eb_parser.specs.declared.table.Start.{Start}
use Rattle.eb_parser.specs.declared.table.Start.TheVariants as start
use Rattle.eb_parser.specs.declared.table.Follow.{Follow}
use Rattle.eb_parser.specs.declared.table.Follow.TheVariants as follow
use Rattle.eb_parser.specs.Signs.{IsSign, is_sign, constant_sign, prefix_sign, call_sign, quantifier_sign, binder_sign}
use Rattle.eb_parser.specs.Grammar.{Derives, Exprs, d_number, d_identifier, d_primed, d_constant, d_prefix, d_quantifier, d_call, d_partition, d_parentheses, d_binder, d_empty, d_extension, d_comprehension, d_builder, d_inverse, d_operator, e_last, e_more, bound_at}
use Rattle.eb_parser.specs.steps.Tables.{start_of, follow_kind}
use Rattle.eb_parser.specs.steps.Climbing.{◌>>=◌, Naming, begins, name_of, separator, names_on, names}
use Rattle.eb_parser.proofs.SignLaws.{sign_true, follows_sign, constant_starts, prefix_starts, quantifier_starts, binder_starts, call_starts}
use Rattle.eb_parser.proofs.NameLaws.{comma_ok}

abbrev NotBrace : Token → Type 0
NotBrace t = IsSign t sign.RightBrace → ⊥

abbrev pub Opens : List Token → Type 0
Opens [] = ⊥
Opens (t ∷ []) = NotBrace t
Opens (t ∷ u ∷ us) = NotBrace t × ((x : List ℕ) → t.kind ≡ kind.Word x → (f : Follow) × (follow_kind u.kind ≡ Some f))

abbrev is_other : Start → Bool
is_other start.Other = true
is_other _ = false

not_brace : (t : Token) (sg : Sign) → IsSign t sg → is_other (start_of sg) ≡ false → NotBrace t
not_brace t sg i h j = by_kind (sym i ∙ j)
  where
    by_kind : kind.Sign sg ≡ kind.Sign sign.RightBrace → ⊥
    by_kind e = let s : sg ≡ sign.RightBrace = cc in let z : true ≡ false = sym (ap (λ y. is_other (start_of y)) s) ∙ h in cc

opens_sign : (t : Token) (sg : Sign) (us : List Token) → IsSign t sg → is_other (start_of sg) ≡ false → Opens (t ∷ us)
opens_sign t sg [] i h = not_brace t sg i h
opens_sign t sg (u ∷ us) i h = (not_brace t sg i h, λ x e. absurd (no_word x (sym i ∙ e)))
  where
    no_word : (x : List ℕ) → kind.Sign sg ≡ kind.Word x → ⊥
    no_word x e = cc

opens_on : (ts us : List Token) (t : Token) (f : Follow) → Opens ts → follow_kind t.kind ≡ Some f → Opens (ts ++ (t ∷ us))
opens_on [] us t f o h = absurd o
opens_on (w ∷ []) us t f o h = (o, λ x e. (f, h))
opens_on (w ∷ u ∷ vs) us t f o h = o

pub opens : {ts : List Token} {p : Part} → Derives ts p → Opens ts
opens (d_number t n e) = λ i. absurd cc
opens (d_identifier t x e) = λ i. absurd cc
opens (d_primed t x e) = λ i. absurd cc
opens (d_constant t c e) = opens_sign t (constant_sign c) [] e (ap is_other (constant_starts c))
opens (d_prefix {ts = ts} t op i d h) = opens_sign t (prefix_sign op) ts i (ap is_other (prefix_starts op))
opens (d_quantifier {is = is} {ts = ts} t dot q i n j d h) = opens_sign t (quantifier_sign q) (is ++ (dot ∷ ts)) i (ap is_other (quantifier_starts q))
opens (d_call {ts = ts} t o c op i j d h l) = opens_sign t (call_sign op) (o ∷ (ts ++ (c ∷ []))) i (ap is_other (call_starts op))
opens (d_partition {ts = ts} t o c i j r l) = opens_sign t sign.Partition (o ∷ (ts ++ (c ∷ []))) i refl
opens (d_parentheses {ts = ts} o c i d j) = opens_sign o sign.LeftParenthesis (ts ++ (c ∷ [])) i refl
opens (d_binder {is = is} {ts = ts} {us = us} t dot bar op i b j d h l e m) = opens_sign t (binder_sign op) (is ++ (dot ∷ (ts ++ (bar ∷ us)))) i (ap is_other (binder_starts op))
opens (d_empty o c i j) = opens_sign o sign.LeftBrace (c ∷ []) i refl
opens (d_extension {ts = ts} o c i r j) = opens_sign o sign.LeftBrace (ts ++ (c ∷ [])) i refl
opens (d_comprehension {is = is} {ts = ts} {us = us} o dot bar c i n j d h l e m q) = opens_sign o sign.LeftBrace (is ++ (dot ∷ (ts ++ (bar ∷ (us ++ (c ∷ [])))))) i refl
opens (d_builder {ts = ts} {us = us} o bar c i d h j e l m) = opens_sign o sign.LeftBrace (ts ++ (bar ∷ (us ++ (c ∷ [])))) i refl
opens (d_inverse {ts = ts} t d h l i) = opens_on ts [] t follow.Inverse (opens d) (ap follow_kind i)
opens (d_operator {ts = ts} {us = us} t op cs d a c i e h l) = opens_on ts (us ++ cs) t (follow.Operator op) (opens d) (ap follow_kind i ∙ follows_sign (follow.Operator op))

by_flag : {A : Type 0} (c : Bool) → (c ≡ true → A) → (c ≡ false → A) → A
by_flag true f g = f refl
by_flag false f g = g refl

never_sign : (sg : Sign) (t : Token) → (IsSign t sg → ⊥) → is_sign sg t ≡ false
never_sign sg t n = by_flag (is_sign sg t) (λ e. absurd (n (sign_true sg t e))) (λ e. e)

pub not_closed : (ts rest : List Token) → Opens ts → begins sign.RightBrace (ts ++ rest) ≡ false
not_closed [] rest o = absurd o
not_closed (t ∷ []) rest o = never_sign sign.RightBrace t o
not_closed (t ∷ u ∷ us) rest o = never_sign sign.RightBrace t o.0

abbrev some : Follow → Option Follow
some x = Some x

none_some : (x : Follow) → None ≡ some x → ⊥
none_some x e = cc

-- what goes on with a formula is neither a comma nor a dot
follow_apart : (u : Token) (us : List Token) (f : Follow) → follow_kind u.kind ≡ Some f → separator (u ∷ us) ≡ Err Syntax
unfolding separator
follow_apart u us f h =
    let a = never_sign sign.Comma u (λ i. none_some f (sym (ap follow_kind i) ∙ h)) in
    let b = never_sign sign.Dot u (λ i. none_some f (sym (ap follow_kind i) ∙ h)) in
    rw (a, b) refl

abbrev NoNames : List Token → Type 0
NoNames rest = (m : ℕ) (x : Identifier) → (separator rest >>= names_on (names m) x) ≡ Err Syntax

abbrev naming : Result (Identifier × List Token) Fault → (Identifier × List Token → Naming) → Naming
naming r g = r >>= g

abbrev naming_of : Token → TokenKind → List Token → Result (Identifier × List Token) Fault
naming_of t k us = name_of t k >>= λ x. Ok (x, us)

by_word : (t : Token) (k : TokenKind) → t.kind ≡ k → (us : List Token) (m : ℕ) → ((x : List ℕ) → t.kind ≡ kind.Word x → (separator us >>= names_on (names m) (bound_at t x)) ≡ Err Syntax)
    → naming (naming_of t k us) (λ x. separator x.1 >>= names_on (names m) x.0) ≡ Err Syntax
by_word t (kind.Word x) i us m h = h x i
by_word t (kind.Primed x) i us m h = refl
by_word t (kind.Label x) i us m h = refl
by_word t (kind.Number x) i us m h = refl
by_word t (kind.Sign x) i us m h = refl

pub no_names : (ts rest : List Token) → Opens ts → NoNames rest → (m : ℕ) → names m (ts ++ rest) ≡ Err Syntax
unfolding names
no_names ts rest o h zero = refl
no_names [] rest o h (suc m) = absurd o
no_names (t ∷ []) rest o h (suc m) = by_word t t.kind refl rest m (λ x e. h m (bound_at t x))
no_names (t ∷ u ∷ us) rest o h (suc m) = by_word t t.kind refl (u ∷ (us ++ rest)) m (λ x e. let w = o.1 x e in rw (follow_apart u (us ++ rest) w.0 w.1) refl)

pub apart_names : (rest : List Token) → separator rest ≡ Err Syntax → NoNames rest
apart_names rest e m x = rw e refl

comma_names : (t : Token) (rest : List Token) → IsSign t sign.Comma → ((m : ℕ) → names m rest ≡ Err Syntax) → NoNames (t ∷ rest)
comma_names t rest i h m x = rw (comma_ok t rest i) (rw (h m) refl)

pub row_no_names : {ts : List Token} {es : List Ast} {h : ℕ} → Exprs ts es h → (rest : List Token) → separator rest ≡ Err Syntax → (m : ℕ) → names m (ts ++ rest) ≡ Err Syntax
row_no_names (e_last {ts = ts} d l) rest e m = no_names ts rest (opens d) (apart_names rest e) m
row_no_names (e_more {ts = ts} {us = us} comma d l i r) rest e m =
    subst (λ z. names m z ≡ Err Syntax) (sym (append_assoc ts (comma ∷ us) rest)) (no_names ts (comma ∷ (us ++ rest)) (opens d) (comma_names comma (us ++ rest) i (row_no_names r rest e)) m)

pub row_not_closed : {ts : List Token} {es : List Ast} {h : ℕ} → Exprs ts es h → (rest : List Token) → begins sign.RightBrace (ts ++ rest) ≡ false
row_not_closed (e_last {ts = ts} d l) rest = not_closed ts rest (opens d)
row_not_closed (e_more {ts = ts} {us = us} comma d l i r) rest = ap (begins sign.RightBrace) (append_assoc ts (comma ∷ us) rest) ∙ not_closed ts (comma ∷ (us ++ rest)) (opens d)
