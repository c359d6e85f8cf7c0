-- Names and patterns: what is read is one, and each is read.
use Rattle.std.proofs.Common.{◌≡◌, ◌∙◌, ◌≤◌, ◌+◌, ◌-◌, ℕ, zero, suc, Bool, true, false, cond, List, [], ◌∷◌, ◌++◌, length, refl, sym, ap, subst, arith, append_assoc, length-append}
use Rattle.std.specs.Prelude.{Result, Ok, Err, ◌&&◌, ◌==◌}
use Rattle.std.proofs.lemmas.Bool.Decides.{nat_tests}
use Rattle.eb_signs.specs.declared.sign.Sign.{Sign}
use Rattle.eb_signs.specs.declared.sign.Sign.TheVariants as s
use Rattle.eb_lexer.specs.declared.token.Token.{Token}
use Rattle.eb_lexer.specs.declared.token.TokenKind.{TokenKind}
use Rattle.eb_lexer.specs.declared.token.TokenKind.TheVariants as kind
use Rattle.eb_syntax.specs.declared.ast.Mark.{Mark}
use Rattle.eb_syntax.specs.declared.ast.Mark.TheVariants as mark
use Rattle.eb_syntax.specs.declared.ast.Bound.{Bound}
use Rattle.eb_syntax.specs.declared.ast.Bound.TheVariants as bound
use Rattle.eb_syntax.specs.declared.ast.Binder.{Binder}
use Rattle.eb_syntax.specs.declared.ast.Binder.TheVariants as binder
use Rattle.eb_syntax.specs.declared.ast.Identifier.{Identifier}
use Rattle.eb_parser.specs.declared.fault.Fault.{Fault}
use Rattle.eb_parser.specs.declared.fault.Fault.TheVariants.{Syntax}
use Rattle.eb_parser.specs.Signs.{IsSign, is_sign}
use Rattle.eb_signs.specs.Signs.{same_sign}
use Rattle.eb_parser.specs.Grammar.{Names, n_last, n_more, Pattern, p_atom, p_maplet, Atom, a_identifier, a_parentheses, Binding, b_pattern, b_union, b_intersection, bound_at}
use Rattle.eb_parser.specs.steps.Climbing.{◌>>=◌, Naming, Marking, begins, after_first, names, names_on, name_at, name_of, separator, pattern, mark_at, mark_of, sign_mark, state_after, ends_pattern, marks_on, binding}
use Rattle.eb_parser.proofs.SignLaws.{sign_is, sign_other}
use Rattle.eb_parser.proofs.Steps.{ok_inj, bind_ok, begins_means}
use Rattle.eb_parser.proofs.Equations.{marks_with}

pub record NameAt (ts : List Token) (x : Identifier) (us : List Token) : Type 0 where
  pub token : Token
  pub text : List ℕ
  pub word : token.kind ≡ kind.Word text
  pub name : x ≡ bound_at token text
  pub is : ts ≡ token ∷ us

abbrev pub named : Identifier → List Token → Result (Identifier × List Token) Fault
named x us = Ok (x, us)

by_name : (t : Token) (us : List Token) (k : TokenKind) → t.kind ≡ k → (x : Identifier × List Token) → (name_of t k >>= λ i. named i us) ≡ Ok x → NameAt (t ∷ us) x.0 x.1
by_name t us (kind.Word z) i x e =
    let w = ok_inj (bound_at t z, us) x e in
    subst (λ y. NameAt (t ∷ us) y.0 y.1) w (record { token = t; text = z; word = i; name = refl; is = refl })
by_name t us (kind.Primed z) i x e = absurd cc
by_name t us (kind.Label z) i x e = absurd cc
by_name t us (kind.Number z) i x e = absurd cc
by_name t us (kind.Sign z) i x e = absurd cc

pub name_means : (ts : List Token) (x : Identifier × List Token) → name_at ts ≡ Ok x → NameAt ts x.0 x.1
name_means [] x e = absurd cc
name_means (t ∷ us) x e = by_name t us t.kind refl x e

pub record Parted (ts : List Token) (y : Bool × List Token) : Type 0 where
  pub token : Token
  pub sign : IsSign token (cond y.0 s.Comma s.Dot)
  pub is : ts ≡ token ∷ y.1

abbrev pub parting : Bool → List Token → Result (Bool × List Token) Fault
parting c us = Ok (c, us)

pub separator_means : (ts : List Token) (y : Bool × List Token) → separator ts ≡ Ok y → Parted ts y
unfolding separator
separator_means ts y e = by_comma (begins s.Comma ts) refl e
  where
    by_dot : (c : Bool) → begins s.Dot ts ≡ c → cond c (parting false (after_first ts)) (Err Syntax) ≡ Ok y → Parted ts y
    by_dot true i e = let w = begins_means s.Dot ts i in subst (Parted ts) (ok_inj _ _ e) (record { token = w.token; sign = w.sign; is = w.is })
    by_dot false i e = absurd cc

    by_comma : (c : Bool) → begins s.Comma ts ≡ c → cond c (parting true (after_first ts)) (cond (begins s.Dot ts) (parting false (after_first ts)) (Err Syntax)) ≡ Ok y → Parted ts y
    by_comma true i e = let w = begins_means s.Comma ts i in subst (Parted ts) (ok_inj _ _ e) (record { token = w.token; sign = w.sign; is = w.is })
    by_comma false i e = by_dot (begins s.Dot ts) refl e

pub record FoundNames (ts : List Token) (y : List Identifier × List Token) : Type 0 where
  pub front : List Token
  pub named : Names front y.0
  pub dot : Token
  pub sign : IsSign dot s.Dot
  pub whole : ts ≡ front ++ (dot ∷ y.1)

abbrev pub naming : List Identifier → List Token → Naming
naming xs us = Ok (xs, us)

names_on_sound : (go : List Token → Naming) → ((us : List Token) (z : List Identifier × List Token) → go us ≡ Ok z → FoundNames us z)
    → (ts us : List Token) (x : Identifier) → NameAt ts x us → (c : Bool) (vs : List Token) → Parted us (c, vs) → (y : List Identifier × List Token) → names_on go x (c, vs) ≡ Ok y → FoundNames ts y
names_on_sound go s ts us x n true vs p y e =
    let w = bind_ok (go vs) (λ z. naming (x ∷ z.0) z.1) y e in
    let v = s vs w.0 w.1 in
    let all : ts ≡ n.token ∷ p.token ∷ (v.front ++ (v.dot ∷ (w.0).1)) = n.is ∙ ap (λ z. n.token ∷ z) (p.is ∙ ap (λ z. p.token ∷ z) v.whole) in
    let xs : Names (n.token ∷ p.token ∷ v.front) (x ∷ (w.0).0) = subst (λ z. Names (n.token ∷ p.token ∷ v.front) (z ∷ (w.0).0)) (sym n.name) (n_more n.token p.token n.text n.word p.sign v.named) in
    subst (FoundNames ts) (ok_inj _ _ w.2) (record { front = n.token ∷ p.token ∷ v.front; named = xs; dot = v.dot; sign = v.sign; whole = all })
names_on_sound go s ts us x n false vs p y e =
    let xs : Names (n.token ∷ []) (x ∷ []) = subst (λ z. Names (n.token ∷ []) (z ∷ [])) (sym n.name) (n_last n.token n.text n.word) in
    subst (FoundNames ts) (ok_inj (x ∷ [], vs) y e) (record { front = n.token ∷ []; named = xs; dot = p.token; sign = p.sign; whole = n.is ∙ ap (λ z. n.token ∷ z) p.is })

pub names_sound : (m : ℕ) (ts : List Token) (y : List Identifier × List Token) → names m ts ≡ Ok y → FoundNames ts y
unfolding names
names_sound zero ts y e = absurd cc
names_sound (suc m) ts y e =
    let w = bind_ok (name_at ts) _ y e in
    let j = bind_ok (separator (w.0).1) (names_on (names m) (w.0).0) y w.2 in
    names_on_sound (names m) (names_sound m) ts (w.0).1 (w.0).0 (name_means ts w.0 w.1) (j.0).0 (j.0).1 (separator_means (w.0).1 j.0 j.1) y j.2

pub name_ok : (t : Token) (x : List ℕ) (us : List Token) → t.kind ≡ kind.Word x → name_at (t ∷ us) ≡ Ok (bound_at t x, us)
name_ok t x us e = rw e refl

pub comma_ok : (t : Token) (us : List Token) → IsSign t s.Comma → separator (t ∷ us) ≡ Ok (true, us)
unfolding separator
comma_ok t us e = rw (sign_is s.Comma t e) refl

pub dot_ok : (t : Token) (us : List Token) → IsSign t s.Dot → separator (t ∷ us) ≡ Ok (false, us)
unfolding separator same_sign
dot_ok t us e = rw (sign_other s.Dot s.Comma t e refl, sign_is s.Dot t e) refl

pub names_ok : {is : List Token} {xs : List Identifier} → Names is xs → (m : ℕ) (dot : Token) (rest : List Token) → IsSign dot s.Dot → length is ≤ m → names m (is ++ (dot ∷ rest)) ≡ Ok (xs, rest)
unfolding names
names_ok (n_last t x e) zero dot rest i h = absurd (omega arith)
names_ok (n_last t x e) (suc m) dot rest i h = rw (name_ok t x (dot ∷ rest) e, dot_ok dot rest i) refl
names_ok (n_more t comma x e c n) zero dot rest i h = absurd (omega arith)
names_ok (n_more {ts = is} {xs = xs} t comma x e c n) (suc m) dot rest i h =
    let r = names_ok n m dot rest i (omega arith) in
    rw (name_ok t x (comma ∷ (is ++ (dot ∷ rest))) e, comma_ok comma (is ++ (dot ∷ rest)) c, r) refl

-- Patterns. What may stand before an atom at its level of parentheses.
pub data Left : List Token → List Mark → Type 0 where
  l_none : Left [] []
  l_maplet : {ts : List Token} {ms : List Mark} (t : Token) → Pattern ts ms → IsSign t s.MapsTo → Left (ts ++ (t ∷ [])) (ms ++ (mark.MapsTo ∷ []))

same_pattern : {ts us : List Token} {ms ns : List Mark} → ts ≡ us → ms ≡ ns → Pattern ts ms → Pattern us ns
same_pattern {us = us} {ms = ms} e i p = subst (λ z. Pattern us z) i (subst (λ z. Pattern z ms) e p)

left_atom : {ts us : List Token} {ms ns : List Mark} → Left ts ms → Atom us ns → Pattern (ts ++ us) (ms ++ ns)
left_atom l_none a = p_atom a
left_atom {us = us} {ns = ns} (l_maplet {ts = ts} {ms = ms} t p i) a =
    same_pattern (sym (append_assoc ts (t ∷ []) us)) (sym (append_assoc ms (mark.MapsTo ∷ []) ns)) (p_maplet t p i a)

-- within so many parentheses an atom is due
pub data Before : ℕ → List Token → List Mark → Type 0 where
  b_left : {ts : List Token} {ms : List Mark} → Left ts ms → Before 0 ts ms
  b_open : {n : ℕ} {ts us : List Token} {ms ns : List Mark} (t : Token) → Before n ts ms → IsSign t s.LeftParenthesis → Left us ns → Before (suc n) (ts ++ (t ∷ us)) (ms ++ (mark.Open ∷ ns))

-- within so many parentheses a pattern has come so far
pub data Within : ℕ → List Token → List Mark → Type 0 where
  w_pattern : {ts : List Token} {ms : List Mark} → Pattern ts ms → Within 0 ts ms
  w_open : {n : ℕ} {ts us : List Token} {ms ns : List Mark} (t : Token) → Before n ts ms → IsSign t s.LeftParenthesis → Pattern us ns → Within (suc n) (ts ++ (t ∷ us)) (ms ++ (mark.Open ∷ ns))

same_within : {n : ℕ} {ts us : List Token} {ms ns : List Mark} → ts ≡ us → ms ≡ ns → Within n ts ms → Within n us ns
same_within {n = n} {us = us} {ms = ms} e i p = subst (λ z. Within n us z) i (subst (λ z. Within n z ms) e p)

same_before : {n : ℕ} {ts us : List Token} {ms ns : List Mark} → ts ≡ us → ms ≡ ns → Before n ts ms → Before n us ns
same_before {n = n} {us = us} {ms = ms} e i p = subst (λ z. Before n us z) i (subst (λ z. Before n z ms) e p)

before_atom : {n : ℕ} {ts us : List Token} {ms ns : List Mark} → Before n ts ms → Atom us ns → Within n (ts ++ us) (ms ++ ns)
before_atom (b_left l) a = w_pattern (left_atom l a)
before_atom {us = us} {ns = ns} (b_open {ts = ts} {us = vs} {ms = ms} {ns = os} t b i l) a =
    same_within (sym (append_assoc ts (t ∷ vs) us)) (sym (append_assoc ms (mark.Open ∷ os) ns)) (w_open t b i (left_atom l a))

within_maplet : {n : ℕ} {ts : List Token} {ms : List Mark} (t : Token) → Within n ts ms → IsSign t s.MapsTo → Before n (ts ++ (t ∷ [])) (ms ++ (mark.MapsTo ∷ []))
within_maplet t (w_pattern p) i = b_left (l_maplet t p i)
within_maplet t (w_open {ts = ts} {us = us} {ms = ms} {ns = ns} o b j p) i =
    same_before (sym (append_assoc ts (o ∷ us) (t ∷ []))) (sym (append_assoc ms (mark.Open ∷ ns) (mark.MapsTo ∷ []))) (b_open o b j (l_maplet t p i))

-- one more parenthesis was opened than the number
data Opened (n : ℕ) : List Token → List Mark → Type 0 where
  opened : {ts us : List Token} {ms ns : List Mark} (t : Token) → Before n ts ms → IsSign t s.LeftParenthesis → Pattern us ns → Opened n (ts ++ (t ∷ us)) (ms ++ (mark.Open ∷ ns))

depth_of : ℕ → ℕ
depth_of n = n

opening : {m : ℕ} {ts : List Token} {ms : List Mark} → Within m ts ms → (n : ℕ) → m ≡ suc n → Opened n ts ms
opening (w_pattern p) n e = absurd (omega (arith, e))
opening (w_open {n = k} {ts = ts} {us = us} {ms = ms} {ns = ns} t b i p) n e = let h : k ≡ n = omega (arith, e) in opened t (subst (λ z. Before z ts ms) h b) i p

within_close : {n : ℕ} {ts : List Token} {ms : List Mark} (t : Token) → Opened n ts ms → IsSign t s.RightParenthesis → Within n (ts ++ (t ∷ [])) (ms ++ (mark.Close ∷ []))
within_close t (opened {ts = ts} {us = us} {ms = ms} {ns = ns} o b j p) i =
    same_within (sym (append_assoc ts (o ∷ us) (t ∷ []))) (sym (append_assoc ms (mark.Open ∷ ns) (mark.Close ∷ []))) (before_atom b (a_parentheses o t j p i))

abbrev State : Bool → ℕ → List Token → List Mark → Type 0
State true n ts ms = Before n ts ms
State false n ts ms = Within n ts ms

-- the token is this mark
abbrev IsMark : Token → Mark → Type 0
IsMark t (mark.Identifier i) = (x : List ℕ) × (t.kind ≡ kind.Word x) × (i ≡ bound_at t x)
IsMark t mark.MapsTo = IsSign t s.MapsTo
IsMark t mark.Open = IsSign t s.LeftParenthesis
IsMark t mark.Close = IsSign t s.RightParenthesis

abbrev marked : Mark → Result Mark Fault
marked x = Ok x

by_sign : (t : Token) (r : Sign) → t.kind ≡ kind.Sign r → (x : Mark) → sign_mark r ≡ Ok x → IsMark t x
by_sign t s.LeftParenthesis i x e = subst (IsMark t) (ok_inj mark.Open x e) i
by_sign t s.RightParenthesis i x e = subst (IsMark t) (ok_inj mark.Close x e) i
by_sign t s.MapsTo i x e = subst (IsMark t) (ok_inj mark.MapsTo x e) i
by_sign t _ i x e = absurd cc

by_mark : (t : Token) (k : TokenKind) → t.kind ≡ k → (x : Mark) → mark_of t k ≡ Ok x → IsMark t x
by_mark t (kind.Word z) i x e = subst (IsMark t) (ok_inj (mark.Identifier (bound_at t z)) x e) (z, i, refl)
by_mark t (kind.Primed z) i x e = absurd cc
by_mark t (kind.Label z) i x e = absurd cc
by_mark t (kind.Number z) i x e = absurd cc
by_mark t (kind.Sign r) i x e = by_sign t r i x e

record MarkAt (ts : List Token) (x : Mark) : Type 0 where
  token : Token
  mark : IsMark token x
  is : ts ≡ token ∷ after_first ts

mark_means : (ts : List Token) (x : Mark) → mark_at ts ≡ Ok x → MarkAt ts x
mark_means [] x e = absurd cc
mark_means (t ∷ ts) x e = record { token = t; mark = by_mark t t.kind refl x e; is = refl }

abbrev pub stated : Bool → ℕ → Result (Bool × ℕ) Fault
stated due n = Ok (due, n)

step : (due : Bool) (n : ℕ) (front : List Token) (fm : List Mark) → State due n front fm → (t : Token) (x : Mark) → IsMark t x → (z : Bool × ℕ) → state_after due n x ≡ Ok z
    → State z.0 z.1 (front ++ (t ∷ [])) (fm ++ (x ∷ []))
step true n front fm b t (mark.Identifier i) m z e =
    let a : Atom (t ∷ []) (mark.Identifier i ∷ []) = subst (λ y. Atom (t ∷ []) (mark.Identifier y ∷ [])) (sym m.2) (a_identifier t m.0 m.1) in
    subst (λ y. State y.0 y.1 (front ++ (t ∷ [])) (fm ++ (mark.Identifier i ∷ []))) (ok_inj (false, n) z e) (before_atom b a)
step true n front fm b t mark.Open m z e =
    let k : suc n ≡ n + 1 = omega arith in
    subst (λ y. State y.0 y.1 (front ++ (t ∷ [])) (fm ++ (mark.Open ∷ []))) (ok_inj (true, n + 1) z e) (subst (λ y. Before y (front ++ (t ∷ [])) (fm ++ (mark.Open ∷ []))) k (b_open t b m l_none))
step true n front fm b t mark.MapsTo m z e = absurd cc
step true n front fm b t mark.Close m z e = absurd cc
step false n front fm b t (mark.Identifier i) m z e = absurd cc
step false n front fm b t mark.Open m z e = absurd cc
step false n front fm b t mark.MapsTo m z e =
    subst (λ y. State y.0 y.1 (front ++ (t ∷ [])) (fm ++ (mark.MapsTo ∷ []))) (ok_inj (true, n) z e) (within_maplet t b m)
step false n front fm b t mark.Close m z e = by_depth (n == 0) refl e
  where
    by_depth : (c : Bool) → (n == 0) ≡ c → cond c (Err Syntax) (stated false (n - 1)) ≡ Ok z → State z.0 z.1 (front ++ (t ∷ [])) (fm ++ (mark.Close ∷ []))
    by_depth true i e = absurd cc
    by_depth false i e =
        let h : n ≡ suc (n - 1) = grind (arith, nat_tests) in
        subst (λ y. State y.0 y.1 (front ++ (t ∷ [])) (fm ++ (mark.Close ∷ []))) (ok_inj (false, n - 1) z e) (within_close t (opening b (n - 1) h) m)

pub record FoundPattern (ts : List Token) (fm : List Mark) (y : List Mark × List Token) : Type 0 where
  pub span : List Token
  pub derived : Pattern span (fm ++ y.0)
  pub dot : Token
  pub sign : IsSign dot s.Dot
  pub whole : ts ≡ span ++ (dot ∷ y.1)

and_both : (a c : Bool) → (a && c) ≡ true → (a ≡ true) × (c ≡ true)
and_both true true e = (refl, refl)
and_both true false e = absurd cc
and_both false c e = absurd cc

finished : {n : ℕ} {ts : List Token} {ms : List Mark} → Within n ts ms → n ≡ 0 → Pattern ts ms
finished (w_pattern p) e = p
finished (w_open t b i p) e = absurd (omega (arith, e))

append_none : (xs : List Mark) → xs ++ [] ≡ xs
append_none [] = refl
append_none (x ∷ xs) = ap (λ z. x ∷ z) (append_none xs)

ended : (due : Bool) (n : ℕ) (front ts : List Token) (fm : List Mark) → State due n front fm → ends_pattern due n ts ≡ true → FoundPattern (front ++ ts) fm ([], after_first ts)
ended true n front ts fm b e = absurd cc
ended false n front ts fm b e =
    let w = and_both (n == 0) (begins s.Dot ts) e in
    let d = begins_means s.Dot ts w.1 in
    let z : n ≡ 0 = grind (arith, nat_tests) in
    record { span = front; derived = subst (Pattern front) (sym (append_none fm)) (finished b z); dot = d.token; sign = d.sign; whole = ap (λ y. front ++ y) d.is }

abbrev pub marking : List Mark → List Token → Marking
marking xs us = Ok (xs, us)

pub pattern_sound : (m : ℕ) (due : Bool) (n : ℕ) (front ts : List Token) (fm : List Mark) → State due n front fm → (y : List Mark × List Token) → pattern m due n ts ≡ Ok y → FoundPattern (front ++ ts) fm y
unfolding pattern
pattern_sound zero due n front ts fm b y e = absurd cc
pattern_sound (suc m) due n front ts fm b y e = by_end (ends_pattern due n ts) refl e (pattern_sound m)
  where
    Sounds : Type 0
    Sounds = (due : Bool) (n : ℕ) (front ts : List Token) (fm : List Mark) → State due n front fm → (y : List Mark × List Token) → pattern m due n ts ≡ Ok y → FoundPattern (front ++ ts) fm y

    by_end : (c : Bool) → ends_pattern due n ts ≡ c
        → cond c (marking [] (after_first ts)) (mark_at ts >>= λ x. state_after due n x >>= λ z. marks_on x (pattern m z.0 z.1 (after_first ts))) ≡ Ok y
        → ((due : Bool) (n : ℕ) (front ts : List Token) (fm : List Mark) → State due n front fm → (y : List Mark × List Token) → pattern m due n ts ≡ Ok y → FoundPattern (front ++ ts) fm y)
        → FoundPattern (front ++ ts) fm y
    by_end true i e go = subst (FoundPattern (front ++ ts) fm) (ok_inj _ _ e) (ended due n front ts fm b i)
    by_end false i e go =
        let w = bind_ok (mark_at ts) _ y e in
        let j = bind_ok (state_after due n w.0) _ y w.2 in
        let r = bind_ok (pattern m (j.0).0 (j.0).1 (after_first ts)) (λ z. marking (w.0 ∷ z.0) z.1) y j.2 in
        let a = mark_means ts w.0 w.1 in
        let v = go (j.0).0 (j.0).1 (front ++ (a.token ∷ [])) (after_first ts) (fm ++ (w.0 ∷ [])) (step due n front fm b a.token w.0 a.mark j.0 j.1) r.0 r.1 in
        let all : front ++ ts ≡ v.span ++ (v.dot ∷ (r.0).1) = ap (λ z. front ++ z) a.is ∙ (sym (append_assoc front (a.token ∷ []) (after_first ts)) ∙ v.whole) in
        let d : Pattern v.span (fm ++ (w.0 ∷ (r.0).0)) = subst (Pattern v.span) (append_assoc fm (w.0 ∷ []) (r.0).0) v.derived in
        subst (FoundPattern (front ++ ts) fm) (ok_inj _ _ r.2) (record { span = v.span; derived = d; dot = v.dot; sign = v.sign; whole = all })

word_mark : (t : Token) (x : List ℕ) (us : List Token) → t.kind ≡ kind.Word x → mark_at (t ∷ us) ≡ Ok (mark.Identifier (bound_at t x))
word_mark t x us e = rw e refl

open_mark : (t : Token) (us : List Token) → IsSign t s.LeftParenthesis → mark_at (t ∷ us) ≡ Ok mark.Open
open_mark t us e = rw e refl

close_mark : (t : Token) (us : List Token) → IsSign t s.RightParenthesis → mark_at (t ∷ us) ≡ Ok mark.Close
close_mark t us e = rw e refl

maplet_mark : (t : Token) (us : List Token) → IsSign t s.MapsTo → mark_at (t ∷ us) ≡ Ok mark.MapsTo
maplet_mark t us e = rw e refl

abbrev Reads : List Token → List Mark → Type 0
Reads ts ms = (k m n : ℕ) (rest : List Token) → k ≡ length ts + m → pattern k true n (ts ++ rest) ≡ marks_with ms (pattern m false n rest)

same_fuel : (k m n : ℕ) (due : Bool) (us : List Token) → k ≡ m → pattern k due n us ≡ pattern m due n us
same_fuel k m n due us e = ap (λ z. pattern z due n us) e

-- one token of a pattern
due_step : (m n : ℕ) (t : Token) (us : List Token) (x : Mark) (next : Bool) (more : ℕ) → mark_at (t ∷ us) ≡ Ok x → state_after true n x ≡ Ok (next, more)
    → pattern (suc m) true n (t ∷ us) ≡ marks_on x (pattern m next more us)
unfolding pattern
due_step m n t us x next more e i = rw e (rw i refl)

later_step : (m n : ℕ) (t : Token) (us : List Token) (x : Mark) (next : Bool) (more : ℕ) → ends_pattern false n (t ∷ us) ≡ false → mark_at (t ∷ us) ≡ Ok x → state_after false n x ≡ Ok (next, more)
    → pattern (suc m) false n (t ∷ us) ≡ marks_on x (pattern m next more us)
unfolding pattern
later_step m n t us x next more h e i = rw (h, e) (rw i refl)

not_ended : (n : ℕ) (a : Sign) (t : Token) (us : List Token) → IsSign t a → same_sign a s.Dot ≡ false → ends_pattern false n (t ∷ us) ≡ false
not_ended n a t us e h = by_depth (n == 0)
  where
    by_depth : (c : Bool) → (c && is_sign s.Dot t) ≡ false
    by_depth true = sign_other a s.Dot t e h
    by_depth false = refl

closed_state : (n : ℕ) → state_after false (n + 1) mark.Close ≡ Ok (false, n)
closed_state n = let z : ((n + 1) == 0) ≡ false = grind (arith, nat_tests) in let i : n + 1 - 1 ≡ n = omega arith in rw (z, i) refl

surrounded : (ms : List Mark) (r : Marking) → marks_on mark.Open (marks_with ms (marks_on mark.Close r)) ≡ marks_with (mark.Open ∷ (ms ++ (mark.Close ∷ []))) r
surrounded ms (Ok z) = rw (append_assoc ms (mark.Close ∷ []) z.0) refl
surrounded ms (Err f) = refl

linked : (ms ns : List Mark) (r : Marking) → marks_with ms (marks_on mark.MapsTo (marks_with ns r)) ≡ marks_with (ms ++ (mark.MapsTo ∷ ns)) r
linked ms ns (Ok z) = rw (append_assoc ms (mark.MapsTo ∷ ns) z.0) refl
linked ms ns (Err f) = refl

identifier_reads : (t : Token) (x : List ℕ) → t.kind ≡ kind.Word x → Reads (t ∷ []) (mark.Identifier (bound_at t x) ∷ [])
identifier_reads t x e zero m n rest h = absurd (omega arith)
identifier_reads t x e (suc k) m n rest h =
    due_step k n t rest (mark.Identifier (bound_at t x)) false n (word_mark t x rest e) refl ∙ ap (marks_on (mark.Identifier (bound_at t x))) (same_fuel k m n false rest (omega arith))

parentheses_read : (ts : List Token) (ms : List Mark) (o c : Token) → IsSign o s.LeftParenthesis → Reads ts ms → IsSign c s.RightParenthesis → Reads (o ∷ (ts ++ (c ∷ []))) (mark.Open ∷ (ms ++ (mark.Close ∷ [])))
unfolding same_sign
parentheses_read ts ms o c i r j zero m n rest h = absurd (omega arith)
parentheses_read ts ms o c i r j (suc k) m n rest h =
    let first = due_step k n o ((ts ++ (c ∷ [])) ++ rest) mark.Open true (n + 1) (open_mark o ((ts ++ (c ∷ [])) ++ rest) i) refl in
    let inside : pattern k true (n + 1) ((ts ++ (c ∷ [])) ++ rest) ≡ marks_with ms (pattern (suc m) false (n + 1) (c ∷ rest)) =
    ap (pattern k true (n + 1)) (append_assoc ts (c ∷ []) rest) ∙ r k (suc m) (n + 1) (c ∷ rest) (omega (arith, length-append ts (c ∷ []))) in
    let last = later_step m (n + 1) c rest mark.Close false n (not_ended (n + 1) s.RightParenthesis c rest j refl) (close_mark c rest j) (closed_state n) in
    first ∙ (ap (marks_on mark.Open) (inside ∙ ap (marks_with ms) last) ∙ surrounded ms (pattern m false n rest))

maplet_reads : (ts us : List Token) (ms ns : List Mark) (t : Token) → Reads ts ms → IsSign t s.MapsTo → Reads us ns → Reads (ts ++ (t ∷ us)) (ms ++ (mark.MapsTo ∷ ns))
unfolding same_sign
maplet_reads ts us ms ns t r i q k m n rest h =
    let whole : pattern k true n ((ts ++ (t ∷ us)) ++ rest) ≡ marks_with ms (pattern (suc (length us + m)) false n (t ∷ (us ++ rest))) =
    ap (pattern k true n) (append_assoc ts (t ∷ us) rest) ∙ r k (suc (length us + m)) n (t ∷ (us ++ rest)) (omega (arith, length-append ts (t ∷ us))) in
    let arrow = later_step (length us + m) n t (us ++ rest) mark.MapsTo true n (not_ended n s.MapsTo t (us ++ rest) i refl) (maplet_mark t (us ++ rest) i) refl in
    let last = q (length us + m) m n rest refl in
    whole ∙ (ap (marks_with ms) (arrow ∙ ap (marks_on mark.MapsTo) last) ∙ linked ms ns (pattern m false n rest))

mutual
  pattern_reads : {ts : List Token} {ms : List Mark} → Pattern ts ms → Reads ts ms
  pattern_reads (p_atom a) k m n rest h = atom_reads a k m n rest h
  pattern_reads (p_maplet {ts = ts} {us = us} {ms = ms} {ns = ns} t p i a) k m n rest h = maplet_reads ts us ms ns t (pattern_reads p) i (atom_reads a) k m n rest h

  atom_reads : {ts : List Token} {ms : List Mark} → Atom ts ms → Reads ts ms
  atom_reads (a_identifier t x e) k m n rest h = identifier_reads t x e k m n rest h
  atom_reads (a_parentheses {ts = ts} {ms = ms} o c i p j) k m n rest h = parentheses_read ts ms o c i (pattern_reads p) j k m n rest h

last_mark : (m : ℕ) (dot : Token) (rest : List Token) → IsSign dot s.Dot → pattern (suc m) false 0 (dot ∷ rest) ≡ Ok ([], rest)
unfolding pattern
last_mark m dot rest i = rw (sign_is s.Dot dot i) refl

pub pattern_ok : {ts : List Token} {ms : List Mark} → Pattern ts ms → (k : ℕ) (dot : Token) (rest : List Token) → IsSign dot s.Dot → length (ts ++ (dot ∷ rest)) ≤ k → pattern k true 0 (ts ++ (dot ∷ rest)) ≡ Ok (ms, rest)
pattern_ok {ts = ts} {ms = ms} p k dot rest i h =
    let m : ℕ = k - length ts - 1 in
    let l : k ≡ length ts + suc m = omega (arith, length-append ts (dot ∷ rest)) in
    pattern_reads p k (suc m) 0 (dot ∷ rest) l ∙ (ap (marks_with ms) (last_mark m dot rest i) ∙ ap (λ z. marking z rest) (append_none ms))

-- what a binder binds
pub record FoundBinding (op : Binder) (ts : List Token) (y : Bound × List Token) : Type 0 where
  pub front : List Token
  pub bound : Binding op front y.0
  pub dot : Token
  pub sign : IsSign dot s.Dot
  pub whole : ts ≡ front ++ (dot ∷ y.1)

abbrev binds : Bound → List Token → Result (Bound × List Token) Fault
binds x us = Ok (x, us)

pub binding_sound : (op : Binder) (ts : List Token) (y : Bound × List Token) → binding op ts ≡ Ok y → FoundBinding op ts y
unfolding binding
binding_sound binder.Lambda ts y e =
    let w = bind_ok (pattern (length ts) true 0 ts) (λ x. binds (bound.Pattern x.0) x.1) y e in
    let v = pattern_sound (length ts) true 0 [] ts [] (b_left l_none) w.0 w.1 in
    subst (FoundBinding binder.Lambda ts) (ok_inj _ _ w.2) (record { front = v.span; bound = b_pattern v.derived; dot = v.dot; sign = v.sign; whole = v.whole })
binding_sound binder.Union ts y e =
    let w = bind_ok (names (length ts) ts) (λ x. binds (bound.Identifiers x.0) x.1) y e in
    let v = names_sound (length ts) ts w.0 w.1 in
    subst (FoundBinding binder.Union ts) (ok_inj _ _ w.2) (record { front = v.front; bound = b_union v.named; dot = v.dot; sign = v.sign; whole = v.whole })
binding_sound binder.Intersection ts y e =
    let w = bind_ok (names (length ts) ts) (λ x. binds (bound.Identifiers x.0) x.1) y e in
    let v = names_sound (length ts) ts w.0 w.1 in
    subst (FoundBinding binder.Intersection ts) (ok_inj _ _ w.2) (record { front = v.front; bound = b_intersection v.named; dot = v.dot; sign = v.sign; whole = v.whole })

pub binding_ok : {op : Binder} {is : List Token} {b : Bound} → Binding op is b → (dot : Token) (rest : List Token) → IsSign dot s.Dot → binding op (is ++ (dot ∷ rest)) ≡ Ok (b, rest)
unfolding binding
binding_ok {is = is} (b_pattern p) dot rest i = rw (pattern_ok p (length (is ++ (dot ∷ rest))) dot rest i (omega arith)) refl
binding_ok {is = is} (b_union n) dot rest i = rw (names_ok n (length (is ++ (dot ∷ rest))) dot rest i (omega (arith, length-append is (dot ∷ rest)))) refl
binding_ok {is = is} (b_intersection n) dot rest i = rw (names_ok n (length (is ++ (dot ∷ rest))) dot rest i (omega (arith, length-append is (dot ∷ rest)))) refl
