-- What stands at the front of tokens, found and told apart.
use Rattle.std.proofs.Common.{◌≡◌, ◌∙◌, ◌<◌, ◌≤◌, ℕ, ℤ, pos, Bool, true, false, cond, List, [], ◌∷◌, length, refl, ap, subst, arith}
use Rattle.std.specs.Prelude.{Result, Ok, Err, int_le}
use Rattle.std.specs.Str.{bytes_eq}
use Rattle.std.proofs.lemmas.Slice.Eq.{bytes_eq-Decides}
use denote.Enum.Bare.{same_true, true_same}
use Rattle.eb_signs.specs.contracts.sign.Sign.{the_type}
use Rattle.eb_signs.specs.declared.sign.Sign.{Sign}
use Rattle.eb_signs.specs.declared.sign.Sign.TheVariants as s
use Rattle.eb_lexer.specs.declared.token.Token.{Token}
use Rattle.eb_lexer.specs.declared.token.TokenKind.{TokenKind}
use Rattle.eb_lexer.specs.declared.token.TokenKind.TheVariants as kind
use Rattle.eb_syntax.specs.declared.ast.Identifier.{Identifier}
use Rattle.eb_syntax.specs.declared.units.Label.{Label}
use Rattle.eb_parser.specs.declared.fault.Fault.{Fault}
use Rattle.eb_parser.specs.declared.fault.Fault.TheVariants.{Syntax}
use Rattle.eb_units.specs.Grammar.{Next, next, Perhaps, present, absent, Keyword, keyword, Named, named, Labels, labels, Numbered, numbered, Marked, marked, unmarked}
use Rattle.eb_units.specs.steps.Descending.{◌>>=◌, heads, after_first, is_word, is_name, is_label, at_sign, at_word, at_name, at_label, place_at, sign_at, word_at, skip, name_of, name_at, label_of, label_at, number_of, number_at}
use Rattle.eb_signs.specs.Signs.{same_sign}
use Rattle.eb_lexer.specs.Tokens.{is_kind}

-- ---- steps that may fail

abbrev pub ok : {A : Type 0} → A → Result A Fault
ok x = Ok x

pub ok_inj : {A : Type 0} (x y : A) → ok x ≡ Ok y → x ≡ y
ok_inj x y e = cc

pub bind_ok : {A B : Type 0} (r : Result A Fault) (g : A → Result B Fault) (y : B) → (r >>= g) ≡ Ok y → (x : A) × (r ≡ Ok x) × (g x ≡ Ok y)
bind_ok (Ok x) g y e = (x, refl, e)
bind_ok (Err f) g y e = absurd cc

pub bind_is : {A B : Type 0} (r : Result A Fault) (g : A → Result B Fault) (x : A) (z : Result B Fault) → r ≡ Ok x → g x ≡ z → (r >>= g) ≡ z
bind_is {A} {B} r g x z e h = ap (λ (v : Result A Fault). v >>= g) e ∙ h

pub branch : {A B : Type 0} (b : Bool) (x y z : A) → cond b x y ≡ z → (b ≡ true → x ≡ z → B) → (b ≡ false → y ≡ z → B) → B
branch true x y z e f g = f refl e
branch false x y z e f g = g refl e

pub by_flag : {A : Type 0} (b : Bool) → (b ≡ true → A) → (b ≡ false → A) → A
by_flag true f g = f refl
by_flag false f g = g refl

pub taken : {A : Type 0} (b : Bool) (x y z : A) → b ≡ true → x ≡ z → cond b x y ≡ z
taken b x y z e h = ap (λ v. cond v x y) e ∙ h

pub left : {A : Type 0} (b : Bool) (x y z : A) → b ≡ false → y ≡ z → cond b x y ≡ z
left b x y z e h = ap (λ v. cond v x y) e ∙ h

pub guard_ok : {A : Type 0} (c : Bool) (x : A) (y : A) → cond c (ok x) (Err Syntax) ≡ Ok y → (c ≡ true) × (x ≡ y)
guard_ok true x y e = (refl, cc)
guard_ok false x y e = absurd cc

-- ---- what was found stands there

kind_true : (sign : Sign) (k : TokenKind) → is_kind sign k ≡ true → k ≡ kind.Sign sign
unfolding same_sign
kind_true sign (kind.Word x) e = absurd cc
kind_true sign (kind.Primed x) e = absurd cc
kind_true sign (kind.Label x) e = absurd cc
kind_true sign (kind.Number n) e = absurd cc
kind_true sign (kind.Sign r) e = ap kind.Sign (same_true the_type tt r sign e)

word_true : (text : List ℕ) (k : TokenKind) → is_word text k ≡ true → k ≡ kind.Word text
word_true text (kind.Word x) e = ap kind.Word ((bytes_eq-Decides x text).0 e)
word_true text (kind.Primed x) e = absurd cc
word_true text (kind.Label x) e = absurd cc
word_true text (kind.Number n) e = absurd cc
word_true text (kind.Sign r) e = absurd cc

pub sign_sound : (sign : Sign) (ts : List Token) → at_sign sign ts ≡ true → Next sign ts (place_at ts) (after_first ts)
unfolding at_sign
sign_sound sign [] e = absurd cc
sign_sound sign (t ∷ ts) e = next t (kind_true sign t.kind e)

pub word_sound : (text : List ℕ) (ts : List Token) → at_word text ts ≡ true → Keyword text ts (place_at ts) (after_first ts)
unfolding at_word
word_sound text [] e = absurd cc
word_sound text (t ∷ ts) e = keyword t (word_true text t.kind e)

pub sign_at_sound : (sign : Sign) (ts : List Token) (y : ℕ × List Token) → sign_at sign ts ≡ Ok y → Next sign ts y.0 y.1
unfolding sign_at
sign_at_sound sign ts y e = let g = guard_ok (at_sign sign ts) (place_at ts, after_first ts) y e in subst (λ z. Next sign ts z.0 z.1) g.1 (sign_sound sign ts g.0)

pub word_at_sound : (text : List ℕ) (ts : List Token) (y : ℕ × List Token) → word_at text ts ≡ Ok y → Keyword text ts y.0 y.1
unfolding word_at
word_at_sound text ts y e = let g = guard_ok (at_word text ts) (place_at ts, after_first ts) y e in subst (λ z. Keyword text ts z.0 z.1) g.1 (word_sound text ts g.0)

pub skip_sound : (sign : Sign) (ts : List Token) → Perhaps sign ts (skip sign ts)
unfolding skip
skip_sound sign ts = by_case (at_sign sign ts) refl
  where
    by_case : (b : Bool) → at_sign sign ts ≡ b → Perhaps sign ts (cond b (after_first ts) ts)
    by_case true e = present (sign_sound sign ts e)
    by_case false e = absent

pub marked_sound : (ts : List Token) → Marked ts (at_sign s.Theorem ts) (skip s.Theorem ts)
unfolding skip
marked_sound ts = by_case (at_sign s.Theorem ts) refl
  where
    by_case : (b : Bool) → at_sign s.Theorem ts ≡ b → Marked ts b (cond b (after_first ts) ts)
    by_case true e = marked (sign_sound s.Theorem ts e)
    by_case false e = unmarked

name_kind : (t : Token) (k : TokenKind) (ts : List Token) (y : Identifier × List Token) → t.kind ≡ k → name_of t k ts ≡ Ok y → Named (t ∷ ts) y.0 y.1
name_kind t (kind.Word x) ts y h e = subst (λ z. Named (t ∷ ts) z.0 z.1) (ok_inj (record { name = x; place = t.start }, ts) y e) (named t x h)
name_kind t (kind.Primed x) ts y h e = absurd cc
name_kind t (kind.Label x) ts y h e = absurd cc
name_kind t (kind.Number n) ts y h e = absurd cc
name_kind t (kind.Sign r) ts y h e = absurd cc

pub name_sound : (ts : List Token) (y : Identifier × List Token) → name_at ts ≡ Ok y → Named ts y.0 y.1
name_sound [] y e = absurd cc
name_sound (t ∷ ts) y e = name_kind t t.kind ts y refl e

label_kind : (t : Token) (k : TokenKind) (ts : List Token) (y : Label × List Token) → t.kind ≡ k → label_of t k ts ≡ Ok y → Labels (t ∷ ts) y.0 y.1
label_kind t (kind.Word x) ts y h e = absurd cc
label_kind t (kind.Primed x) ts y h e = absurd cc
label_kind t (kind.Label x) ts y h e = subst (λ z. Labels (t ∷ ts) z.0 z.1) (ok_inj (record { name = x; place = t.start }, ts) y e) (labels t x h)
label_kind t (kind.Number n) ts y h e = absurd cc
label_kind t (kind.Sign r) ts y h e = absurd cc

pub label_sound : (ts : List Token) (y : Label × List Token) → label_at ts ≡ Ok y → Labels ts y.0 y.1
label_sound [] y e = absurd cc
label_sound (t ∷ ts) y e = label_kind t t.kind ts y refl e

number_kind : (t : Token) (k : TokenKind) (ts : List Token) (y : ℤ × List Token) → t.kind ≡ k → number_of k ts ≡ Ok y → Numbered (t ∷ ts) y.0 y.1
number_kind t (kind.Word x) ts y h e = absurd cc
number_kind t (kind.Primed x) ts y h e = absurd cc
number_kind t (kind.Label x) ts y h e = absurd cc
number_kind t (kind.Number n) ts y h e = let g = guard_ok (int_le (pos 0) n) (n, ts) y e in subst (λ z. Numbered (t ∷ ts) z.0 z.1) g.1 (numbered t n h g.0)
number_kind t (kind.Sign r) ts y h e = absurd cc

pub number_sound : (ts : List Token) (y : ℤ × List Token) → number_at ts ≡ Ok y → Numbered ts y.0 y.1
number_sound [] y e = absurd cc
number_sound (t ∷ ts) y e = number_kind t t.kind ts y refl e

-- ---- what stands there is found

-- the head's kind decides
pub next_heads : {sg : Sign} {ts rest : List Token} {at : ℕ} (f : TokenKind → Bool) → Next sg ts at rest → heads f ts ≡ f (kind.Sign sg)
next_heads f (next t i) = ap f i

pub keyword_heads : {text : List ℕ} {ts rest : List Token} {at : ℕ} (f : TokenKind → Bool) → Keyword text ts at rest → heads f ts ≡ f (kind.Word text)
keyword_heads f (keyword t i) = ap f i

pub named_sign : {ts rest : List Token} {x : Identifier} (sign : Sign) → Named ts x rest → at_sign sign ts ≡ false
unfolding at_sign
named_sign sign (named t x i) = ap (is_kind sign) i

pub named_name : {ts rest : List Token} {x : Identifier} → Named ts x rest → at_name ts ≡ true
unfolding at_name
named_name (named t x i) = ap is_name i

pub labels_sign : {ts rest : List Token} {l : Label} (sign : Sign) → Labels ts l rest → at_sign sign ts ≡ false
unfolding at_sign
labels_sign sign (labels t x i) = ap (is_kind sign) i

pub labels_label : {ts rest : List Token} {l : Label} → Labels ts l rest → at_label ts ≡ true
unfolding at_label
labels_label (labels t x i) = ap is_label i

pub labels_heads : {ts rest : List Token} {l : Label} (f : TokenKind → Bool) → ((x : List ℕ) → f (kind.Label x) ≡ true) → Labels ts l rest → heads f ts ≡ true
labels_heads f h (labels t x i) = ap f i ∙ h x

pub numbered_sign : {ts rest : List Token} {n : ℤ} (sign : Sign) → Numbered ts n rest → at_sign sign ts ≡ false
unfolding at_sign
numbered_sign sign (numbered t n i j) = ap (is_kind sign) i

pub next_sign : {sg : Sign} {ts rest : List Token} {at : ℕ} (sign : Sign) → Next sg ts at rest → at_sign sign ts ≡ same_sign sg sign
unfolding at_sign
next_sign sign n = next_heads (is_kind sign) n

pub next_name_not : {sg : Sign} {ts rest : List Token} {at : ℕ} → Next sg ts at rest → at_name ts ≡ false
unfolding at_name
next_name_not n = next_heads is_name n

pub next_label_not : {sg : Sign} {ts rest : List Token} {at : ℕ} → Next sg ts at rest → at_label ts ≡ false
unfolding at_label
next_label_not n = next_heads is_label n

pub next_word_not : {sg : Sign} {ts rest : List Token} {at : ℕ} (text : List ℕ) → Next sg ts at rest → at_word text ts ≡ false
unfolding at_word
next_word_not text n = next_heads (is_word text) n

pub keyword_sign : {text : List ℕ} {ts rest : List Token} {at : ℕ} (sign : Sign) → Keyword text ts at rest → at_sign sign ts ≡ false
unfolding at_sign
keyword_sign sign n = keyword_heads (is_kind sign) n

pub keyword_name : {text : List ℕ} {ts rest : List Token} {at : ℕ} → Keyword text ts at rest → at_name ts ≡ true
unfolding at_name
keyword_name n = keyword_heads is_name n

pub keyword_word : {text : List ℕ} {ts rest : List Token} {at : ℕ} (other : List ℕ) → Keyword text ts at rest → at_word other ts ≡ bytes_eq text other
unfolding at_word
keyword_word other n = keyword_heads (is_word other) n

pub same_self : (sign : Sign) → same_sign sign sign ≡ true
unfolding same_sign
same_self sign = true_same the_type sign sign refl

pub here : {sg : Sign} {ts rest : List Token} {at : ℕ} → Next sg ts at rest → at_sign sg ts ≡ true
here {sg} n = next_sign sg n ∙ same_self sg

pub same_word : (text : List ℕ) → bytes_eq text text ≡ true
same_word text = (bytes_eq-Decides text text).1 refl

pub word_here : {text : List ℕ} {ts rest : List Token} {at : ℕ} → Keyword text ts at rest → at_word text ts ≡ true
word_here {text} n = keyword_word text n ∙ same_word text

pub next_after : {sg : Sign} {ts rest : List Token} {at : ℕ} → Next sg ts at rest → after_first ts ≡ rest
next_after (next t i) = refl

pub next_place : {sg : Sign} {ts rest : List Token} {at : ℕ} → Next sg ts at rest → place_at ts ≡ at
next_place (next t i) = refl

pub keyword_after : {text : List ℕ} {ts rest : List Token} {at : ℕ} → Keyword text ts at rest → after_first ts ≡ rest
keyword_after (keyword t i) = refl

keyword_place : {text : List ℕ} {ts rest : List Token} {at : ℕ} → Keyword text ts at rest → place_at ts ≡ at
keyword_place (keyword t i) = refl

pub sign_read : {sg : Sign} {ts rest : List Token} {at : ℕ} → Next sg ts at rest → sign_at sg ts ≡ Ok (at, rest)
unfolding sign_at
sign_read {sg} {ts} {rest} {at} n = rw (here n, next_place n, next_after n) refl

pub word_read : {text : List ℕ} {ts rest : List Token} {at : ℕ} → Keyword text ts at rest → word_at text ts ≡ Ok (at, rest)
unfolding word_at
word_read n = rw (word_here n, keyword_place n, keyword_after n) refl

pub name_read : {ts rest : List Token} {x : Identifier} → Named ts x rest → name_at ts ≡ Ok (x, rest)
name_read (named {ts = ts} t x i) = ap (λ k. name_of t k ts) i

pub label_read : {ts rest : List Token} {l : Label} → Labels ts l rest → label_at ts ≡ Ok (l, rest)
label_read (labels {ts = ts} t x i) = ap (λ k. label_of t k ts) i

pub number_read : {ts rest : List Token} {n : ℤ} → Numbered ts n rest → number_at ts ≡ Ok (n, rest)
number_read (numbered {ts = ts} t n i j) = ap (λ k. number_of k ts) i ∙ ap (λ b. cond b (Ok (n, ts)) (Err Syntax)) j

-- a sign that may stand there is skipped, and only that
pub skip_read : {sg : Sign} {ts rest : List Token} → Perhaps sg ts rest → at_sign sg rest ≡ false → skip sg ts ≡ rest
unfolding skip
skip_read (present n) e = rw (here n, next_after n) refl
skip_read (absent {ts = ts}) e = rw e refl

pub mark_read : {ts rest : List Token} {b : Bool} → Marked ts b rest → at_sign s.Theorem rest ≡ false → (at_sign s.Theorem ts ≡ b) × (skip s.Theorem ts ≡ rest)
unfolding skip
mark_read (marked n) e = (here n, rw (here n, next_after n) refl)
mark_read (unmarked {ts = ts}) e = (e, rw e refl)

-- ---- each takes a token

pub next_less : {sg : Sign} {ts rest : List Token} {at : ℕ} → Next sg ts at rest → length rest < length ts
next_less (next t i) = omega arith

pub keyword_less : {text : List ℕ} {ts rest : List Token} {at : ℕ} → Keyword text ts at rest → length rest < length ts
keyword_less (keyword t i) = omega arith

pub named_less : {ts rest : List Token} {x : Identifier} → Named ts x rest → length rest < length ts
named_less (named t x i) = omega arith

pub labels_less : {ts rest : List Token} {l : Label} → Labels ts l rest → length rest < length ts
labels_less (labels t x i) = omega arith

pub numbered_less : {ts rest : List Token} {n : ℤ} → Numbered ts n rest → length rest < length ts
numbered_less (numbered t n i j) = omega arith

pub perhaps_less : {sg : Sign} {ts rest : List Token} → Perhaps sg ts rest → length rest ≤ length ts
perhaps_less (present n) = omega (arith, next_less n)
perhaps_less absent = omega arith

pub marked_less : {ts rest : List Token} {b : Bool} → Marked ts b rest → length rest ≤ length ts
marked_less (marked n) = omega (arith, next_less n)
marked_less unmarked = omega arith
