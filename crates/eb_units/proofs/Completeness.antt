-- Names, predicates and actions that stand at the front of the tokens are read, or are too deep where they are not lower than
-- the limit.
use Rattle.std.proofs.Common.{◌≡◌, ◌∙◌, ◌<◌, ◌≤◌, ◌==◌, ◌⊎◌, inl, inr, ℕ, zero, suc, max, Bool, true, false, cond, List, [], ◌∷◌, length, refl, sym, ap, subst, arith}
use Rattle.std.specs.Prelude.{Result, Ok, Err}
use Rattle.std.proofs.lemmas.Bool.{cases_lt}
use Rattle.std.proofs.lemmas.Bool.Decides.{nat_tests}
use Rattle.eb_signs.specs.declared.sign.Sign.{Sign}
use Rattle.eb_signs.specs.declared.sign.Sign.TheVariants as s
use Rattle.eb_lexer.specs.declared.token.Token.{Token}
use Rattle.eb_lexer.specs.declared.token.TokenKind.{TokenKind}
use Rattle.eb_lexer.specs.declared.token.TokenKind.TheVariants as kind
use Rattle.eb_syntax.specs.declared.ast.Ast.{Ast}
use Rattle.eb_syntax.specs.declared.ast.Identifier.{Identifier}
use Rattle.eb_syntax.specs.declared.units.LabelledPredicate.{LabelledPredicate}
use Rattle.eb_syntax.specs.declared.units.Assignment.{Assignment}
use Rattle.eb_syntax.specs.declared.units.Assignment.TheVariants as becomes
use Rattle.eb_syntax.specs.declared.units.Action.{Action}
use Rattle.eb_parser.specs.declared.formulas.FormulaKind.TheVariants as formula
use Rattle.eb_parser.specs.declared.formulas.FormulaKind.{FormulaKind}
use Rattle.eb_parser.specs.declared.fault.Fault.{Fault}
use Rattle.eb_parser.specs.declared.fault.Fault.TheVariants.{TooDeep}
use Rattle.eb_parser.specs.Fronts.{Front}
use Rattle.eb_parser.specs.steps.Finding.{formula_at, FrontLaws}
use Rattle.eb_units.specs.Grammar.{Next, Named, Each, NextName, Names, NamesBehind, Labelled, NextExpr, Exprs, Assigns, Acts, next, present, absent, none, more, next_name, names, names_behind, no_names, marked, unmarked, labelled, next_expr, exprs, becomes_equal, becomes_equal_at, becomes_member, becomes_such, acts}
use Rattle.eb_units.specs.steps.Descending.{◌>>=◌, is_label, Read, heads, after_first, at_sign, at_label, place_at, sign_at, skip, name_at, label_at, many, with_front, next_name_at, goes_on, more_names, names_at, names_behind_at, labelled_at, opens_labelled, all_labelled, next_expr_at, more_exprs, exprs_at, as_many, equal_at, such_at, assigned_at, applied_at, member_at, several_at, assigns_at, assignment_at, action_at, all_actions}
use Rattle.eb_signs.specs.Signs.{same_sign}
use Rattle.eb_units.proofs.Heads.{bind_is, by_flag, taken, left, next_heads, labels_heads, named_sign, named_name, labels_sign, labels_label, next_sign, next_name_not, next_label_not, here, next_after, sign_read, name_read, label_read, skip_read, mark_read, sign_sound, next_less, named_less, labels_less, perhaps_less}
use Rattle.eb_units.proofs.Ends.{ends, quits, stops, no_more, quits_ends, stops_quits, quits_comma, stops_shut, stops_label, each_name_not, Less, next_name_less, names_less, labelled_less, next_expr_less, acts_less}
use Rattle.eb_units.proofs.Loops.{many_open, many_shut}
use Rattle.eb_units.proofs.Soundness.{Limit}

-- read where it is lower than the limit, and too deep otherwise
pub data Outcome {A : Type 0} (n h : ℕ) (r : Result A Fault) (y : A) : Type 0 where
  reads : h < n → r ≡ Ok y → Outcome n h r y
  sinks : n ≤ h → r ≡ Err TooDeep → Outcome n h r y

pub passed : {A B : Type 0} {n h : ℕ} (r : Result A Fault) (g : A → Result B Fault) (x : A) (z : B) → r ≡ Ok x → Outcome n h (g x) z → Outcome n h (r >>= g) z
passed r g x z e (reads l f) = reads l (bind_is r g x _ e f)
passed r g x z e (sinks l f) = sinks l (bind_is r g x _ e f)

sunk : {A B : Type 0} (r : Result A Fault) (g : A → Result B Fault) → r ≡ Err TooDeep → (r >>= g) ≡ Err TooDeep
sunk {A} r g e = ap (λ (v : Result A Fault). v >>= g) e

pub mapped : {A B : Type 0} {n h : ℕ} (r : Result A Fault) (g : A → Result B Fault) (x : A) (z : B) → Outcome n h r x → g x ≡ Ok z → Outcome n h (r >>= g) z
mapped r g x z (reads l e) f = reads l (bind_is r g x _ e f)
mapped r g x z (sinks l e) f = sinks l (sunk r g e)

pub max_low : (h k n : ℕ) → h < n → k < n → max h k < n
max_low h k n l m = grind arith

max_left : (h k n : ℕ) → n ≤ h → n ≤ max h k
max_left h k n l = grind arith

max_right : (h k n : ℕ) → n ≤ k → n ≤ max h k
max_right h k n l = grind arith

pub both : {A B : Type 0} {n h k : ℕ} (r : Result A Fault) (g : A → Result B Fault) (x : A) (z : B) → Outcome n h r x → Outcome n k (g x) z → Outcome n (max h k) (r >>= g) z
both {n = n} {h = h} {k = k} r g x z (reads l e) (reads m f) = reads (max_low h k n l m) (bind_is r g x _ e f)
both {n = n} {h = h} {k = k} r g x z (reads l e) (sinks m f) = sinks (max_right h k n m) (bind_is r g x _ e f)
both {n = n} {h = h} {k = k} r g x z (sinks l e) o = sinks (max_left h k n l) (sunk r g e)

pub chosen : {A : Type 0} {n h : ℕ} (b : Bool) (x y : Result A Fault) (z : A) → b ≡ true → Outcome n h x z → Outcome n h (cond b x y) z
chosen {n = n} {h = h} b x y z e o = subst (λ v. Outcome n h (cond v x y) z) (sym e) o

pub other : {A : Type 0} {n h : ℕ} (b : Bool) (x y : Result A Fault) (z : A) → b ≡ false → Outcome n h y z → Outcome n h (cond b x y) z
other {n = n} {h = h} b x y z e o = subst (λ v. Outcome n h (cond v x y) z) (sym e) o

pub sure : {A : Type 0} {h : ℕ} (r : Result A Fault) (y : A) → Outcome (suc h) h r y → r ≡ Ok y
sure r y (reads l e) = e
sure r y (sinks l e) = absurd (omega arith)

-- ---- one behind the other

pub record Item {A : Type 0} (n m : ℕ) (opens : List Token → Bool) (one : List Token → Read A) (R : List Token → A → ℕ → List Token → Type 0) (Stop : List Token → Bool) : Type 0 where
  pub starts : (ts rest : List Token) (x : A) (h : ℕ) → R ts x h rest → opens ts ≡ true
  pub follows : (ts rest : List Token) (x : A) (h : ℕ) → R ts x h rest → Stop ts ≡ true
  pub less : Less R
  pub read : (ts rest : List Token) (x : A) (h : ℕ) → R ts x h rest → Stop rest ≡ true → length ts < m → Outcome n h (one ts) (x, rest)

each_stop : {A : Type 0} (n m : ℕ) (opens : List Token → Bool) (one : List Token → Read A) (R : List Token → A → ℕ → List Token → Type 0) (Stop : List Token → Bool) → Item n m opens one R Stop
    → {ts rest : List Token} {xs : List A} {h : ℕ} → Each R ts xs h rest → Stop rest ≡ true → Stop ts ≡ true
each_stop n m opens one R Stop i none e = e
each_stop n m opens one R Stop i (more {ts = ts} {us = us} {x = x} {h = h} r q) e = i.follows ts us x h r

pub many_read : {A : Type 0} (n m : ℕ) (opens : List Token → Bool) (one : List Token → Read A) (R : List Token → A → ℕ → List Token → Type 0) (Stop : List Token → Bool) → 0 < n → Item n m opens one R Stop
    → (k : ℕ) (ts rest : List Token) (xs : List A) (h : ℕ) → Each R ts xs h rest → opens rest ≡ false → Stop rest ≡ true → length ts < k → length ts < m → Outcome n h (many opens one k ts) (xs, rest)
many_read n m opens one R Stop p i zero ts rest xs h q shut e l o = absurd (omega arith)
many_read n m opens one R Stop p i (suc k) ts rest xs h none shut e l o = reads p (many_shut opens one k ts shut)
many_read {A} n m opens one R Stop p i (suc k) ts rest xs h (more {us = us} {x = x} {xs = ys} {h = g} {k = f} r q) shut e l o =
    let less = i.less ts us x g r in
    subst (λ v. Outcome n (max g f) v (x ∷ ys, rest)) (sym (many_open opens one k ts (i.starts ts us x g r)))
    (both (one ts) _ (x, us) (x ∷ ys, rest) (i.read ts us x g r (each_stop n m opens one R Stop i q e) o)
    (mapped (many opens one k us) _ (ys, rest) (x ∷ ys, rest) (many_read n m opens one R Stop p i k us rest ys f q shut e (omega arith) (omega arith)) refl))

-- ---- formulas

pub front_read : (b : Limit) (k : FormulaKind) {ts rest : List Token} {a : Ast} {h : ℕ} → Front k ts a h rest → heads ends rest ≡ true → Outcome b.n h (formula_at b.n k ts) (a, rest)
front_read b k {ts} {rest} {a} {h} f e = by_case (cases_lt h b.n)
  where
    by_case : (h < b.n) ⊎ (b.n ≤ h) → Outcome b.n h (formula_at b.n k ts) (a, rest)
    by_case (inl l) = reads l ((b.laws).found b.n k ts rest a h f (no_more rest e) l)
    by_case (inr l) = sinks l ((b.laws).deep b.n k ts rest a h f (no_more rest e) l)

colon_not : FrontLaws → (k : FormulaKind) (ts rest us : List Token) (a : Ast) (h at : ℕ) → Front k ts a h rest → Next s.MemberOf ts at us → ⊥
colon_not l k ts rest us a h at f (next {ts = vs} t i) = l.no_colon k t vs rest a h f i

pub front_colon : FrontLaws → (k : FormulaKind) (ts rest : List Token) (a : Ast) (h : ℕ) → Front k ts a h rest → at_sign s.MemberOf ts ≡ false
front_colon l k ts rest a h f = by_flag (at_sign s.MemberOf ts) (λ e. absurd (colon_not l k ts rest (after_first ts) a h (place_at ts) f (sign_sound s.MemberOf ts e))) (λ e. e)

label_kind : (k : TokenKind) → is_label k ≡ true → (x : List ℕ) × (k ≡ kind.Label x)
label_kind (kind.Label x) e = (x, refl)
label_kind (kind.Word x) e = absurd cc
label_kind (kind.Primed x) e = absurd cc
label_kind (kind.Number x) e = absurd cc
label_kind (kind.Sign x) e = absurd cc

pub front_label : FrontLaws → (k : FormulaKind) (ts rest : List Token) (a : Ast) (h : ℕ) → Front k ts a h rest → at_label ts ≡ false
unfolding at_label
front_label l k [] rest a h f = refl
front_label l k (t ∷ ts) rest a h f = by_flag (is_label t.kind) (λ e. let w = label_kind t.kind e in absurd (l.no_label k t ts rest a h w.0 f w.1)) (λ e. e)

-- ---- names

next_name_read : (ts rest : List Token) (x : Identifier) (h : ℕ) → NextName ts x h rest → next_name_at ts ≡ Ok (x, rest)
unfolding next_name_at
next_name_read ts rest x h (next_name p n) = ap name_at (skip_read p (named_sign s.Comma n)) ∙ name_read n

starts_name : (ts rest : List Token) (x : Identifier) (h : ℕ) → NextName ts x h rest → goes_on ts ≡ true
unfolding goes_on
starts_name ts rest x h (next_name (present n) r) = rw (next_name_not n, here n) refl
starts_name ts rest x h (next_name absent r) = rw (named_name r) refl

abbrev pub anything : List Token → Bool
anything ts = true

zero_high : (n : ℕ) (ts rest : List Token) (x : Identifier) (h : ℕ) → NextName ts x h rest → 0 < n → h < n
zero_high n ts rest x h (next_name p r) l = l

name_item : (n m : ℕ) → 0 < n → Item n m goes_on next_name_at NextName anything
name_item n m l = record { starts = starts_name; follows = λ ts rest x h r. refl; less = next_name_less; read = λ ts rest x h r e o. reads (zero_high n ts rest x h r l) (next_name_read ts rest x h r) }

more_names_read : (m : ℕ) {ts rest : List Token} {xs : List Identifier} {h : ℕ} → Each NextName ts xs h rest → goes_on rest ≡ false → length ts < m → more_names m ts ≡ Ok (xs, rest)
more_names_read m {ts} {rest} {xs} {h} q e l = sure (more_names m ts) (xs, rest) (many_read (suc h) m goes_on next_name_at NextName anything (omega arith) (name_item (suc h) m (omega arith)) m ts rest xs h q e refl l l)

pub names_read : (m : ℕ) {ts rest : List Token} {xs : List Identifier} → Names ts xs rest → goes_on rest ≡ false → length ts < m → names_at m ts ≡ Ok (xs, rest)
unfolding names_at
names_read m {rest = rest} (names {ts = ts} {us = us} {x = x} {xs = xs} n q) e l =
    bind_is (name_at ts) _ (x, us) _ (name_read n) (bind_is (more_names m us) _ (xs, rest) _ (more_names_read m q e (omega (arith, named_less n))) refl)

pub behind_read : (m : ℕ) {sg : Sign} {ts rest : List Token} {xs : List Identifier} → NamesBehind sg ts xs rest → at_sign sg rest ≡ false → goes_on rest ≡ false → length ts < m → names_behind_at sg m ts ≡ Ok (xs, rest)
unfolding names_behind_at
behind_read m {sg} {ts} (names_behind n r) e f l = taken (at_sign sg ts) _ _ _ (here n) (ap (names_at m) (next_after n) ∙ names_read m r f (omega (arith, next_less n)))
behind_read m {sg} {ts} no_names e f l = left (at_sign sg ts) _ _ _ e refl

-- ---- predicates and expressions

labelled_read : (b : Limit) (m : ℕ) (ts rest : List Token) (x : LabelledPredicate) (h : ℕ) → Labelled ts x h rest → heads quits rest ≡ true → length ts < m → Outcome b.n h (labelled_at b.n ts) (x, rest)
unfolding labelled_at
labelled_read b m ts rest x h (labelled {us = us} {vs = vs} {ws = ws} {b = c} {l = l} {a = a} w p q f) e o =
    let mark = mark_read w (labels_sign s.Theorem p) in
    let colon = skip_read q (front_colon b.laws formula.Pred ws rest a h f) in
    passed (label_at (skip s.Theorem ts)) _ (l, vs) _ (ap label_at mark.1 ∙ label_read p)
    (mapped (formula_at b.n formula.Pred (skip s.MemberOf vs)) _ (a, rest) _ (subst (λ z. Outcome b.n h (formula_at b.n formula.Pred z) (a, rest)) (sym colon) (front_read b formula.Pred f (quits_ends rest e)))
    (ap (λ z. Ok (record { is_theorem = z; label = l; predicate = a }, rest)) mark.0))

starts_labelled : (ts rest : List Token) (x : LabelledPredicate) (h : ℕ) → Labelled ts x h rest → opens_labelled ts ≡ true
unfolding opens_labelled
starts_labelled ts rest x h (labelled (marked n) p q f) = rw (next_label_not n, here n) refl
starts_labelled ts rest x h (labelled unmarked p q f) = rw (labels_label p) refl

follows_labelled : (ts rest : List Token) (x : LabelledPredicate) (h : ℕ) → Labelled ts x h rest → heads quits ts ≡ true
follows_labelled ts rest x h (labelled (marked n) p q f) = next_heads quits n
follows_labelled ts rest x h (labelled unmarked p q f) = labels_heads quits (λ x. refl) p

pub all_labelled_read : (b : Limit) (m : ℕ) {ts rest : List Token} {xs : List LabelledPredicate} {h : ℕ} → Each Labelled ts xs h rest → heads stops rest ≡ true → length ts < m → Outcome b.n h (all_labelled b.n m ts) (xs, rest)
all_labelled_read b m {ts} {rest} {xs} {h} q e l =
    many_read b.n m opens_labelled (labelled_at b.n) Labelled (heads quits) b.some (record { starts = starts_labelled; follows = follows_labelled; less = labelled_less b.laws; read = labelled_read b m }) m ts rest xs h q (stops_shut rest e) (stops_quits rest e) l l

next_expr_read : (b : Limit) (m : ℕ) (ts rest : List Token) (x : Ast) (h : ℕ) → NextExpr ts x h rest → heads ends rest ≡ true → length ts < m → Outcome b.n h (next_expr_at b.n ts) (x, rest)
unfolding next_expr_at
next_expr_read b m ts rest x h (next_expr {us = us} {at = at} n f) e o = passed (sign_at s.Comma ts) _ (at, us) _ (sign_read n) (front_read b formula.Expr f e)

starts_expr : (ts rest : List Token) (x : Ast) (h : ℕ) → NextExpr ts x h rest → at_sign s.Comma ts ≡ true
starts_expr ts rest x h (next_expr n f) = here n

follows_expr : (ts rest : List Token) (x : Ast) (h : ℕ) → NextExpr ts x h rest → heads ends ts ≡ true
unfolding same_sign
follows_expr ts rest x h (next_expr n f) = next_heads ends n

pub exprs_read : (b : Limit) (m : ℕ) {ts rest : List Token} {xs : List Ast} {h : ℕ} → Exprs ts xs h rest → heads quits rest ≡ true → length ts < m → Outcome b.n h (exprs_at b.n m ts) (xs, rest)
unfolding exprs_at
exprs_read b m {rest = rest} (exprs {ts = ts} {us = us} {a = a} {es = es} {h = h} {k = k} f q) e l =
    let item : Item b.n m (at_sign s.Comma) (next_expr_at b.n) NextExpr (heads ends) = record { starts = starts_expr; follows = follows_expr; less = next_expr_less b.laws; read = next_expr_read b m } in
    let less = (b.laws).shorter formula.Expr ts us a h f in
    both (formula_at b.n formula.Expr ts) _ (a, us) _ (front_read b formula.Expr f (each_stop b.n m (at_sign s.Comma) (next_expr_at b.n) NextExpr (heads ends) item q (quits_ends rest e)))
    (mapped (more_exprs b.n m us) _ (es, rest) _ (many_read b.n m (at_sign s.Comma) (next_expr_at b.n) NextExpr (heads ends) b.some item m us rest es k q (quits_comma rest e) (quits_ends rest e) (omega arith) (omega arith)) refl)

-- ---- actions

as_many_read : (xs : List Identifier) (es : List Ast) (ts : List Token) → length xs ≡ length es → as_many xs es ts ≡ Ok (becomes.BecomesEqual xs es, ts)
as_many_read xs es ts e = let same : (length xs == length es) ≡ true = grind (arith, nat_tests) in taken (length xs == length es) _ _ _ same refl

-- the names of an assignment, what they stand before being told by its sign
several_read : (b : Limit) (m h : ℕ) (ts us rest : List Token) (xs : List Identifier) (y : Assignment) → Names ts xs us → goes_on us ≡ false → at_sign s.LeftParenthesis us ≡ false → at_sign s.BecomesMember us ≡ false → length ts < m
    → Outcome b.n h (assigned_at b.n m xs us) (y, rest) → Outcome b.n h (assignment_at b.n m ts) (y, rest)
unfolding assignment_at assigns_at several_at same_sign
several_read b m h ts us rest zs y (names {us = vs} {x = x} {xs = xs} n q) e f g l o =
    passed (name_at ts) _ (x, vs) _ (name_read n)
    (other (at_sign s.LeftParenthesis vs) _ _ _ (each_name_not s.LeftParenthesis refl q f)
    (other (at_sign s.BecomesMember vs) _ _ _ (each_name_not s.BecomesMember refl q g)
    (passed (with_front (x ∷ []) (more_names m vs)) _ (x ∷ xs, us) _ (bind_is (more_names m vs) _ (xs, us) _ (more_names_read m q e (omega (arith, named_less n))) refl) o)))

pub sign_goes : {sg : Sign} {ts rest : List Token} {at : ℕ} → Next sg ts at rest → same_sign sg s.Comma ≡ false → goes_on ts ≡ false
unfolding goes_on
sign_goes n e = rw (next_name_not n, next_sign s.Comma n, e) refl

assigns_not : FrontLaws → (ts rest : List Token) (x : Assignment) (h : ℕ) → Assigns ts x h rest → at_sign s.MemberOf ts ≡ false
assigns_not l ts rest x h (becomes_equal (names n q) c d e) = named_sign s.MemberOf n
assigns_not l ts rest x h (becomes_equal_at n c d e f g) = named_sign s.MemberOf n
assigns_not l ts rest x h (becomes_member n c d) = named_sign s.MemberOf n
assigns_not l ts rest x h (becomes_such (names n q) c d) = named_sign s.MemberOf n

equal_at_read : (b : Limit) (m : ℕ) {ts us vs ws xs ys rest : List Token} {at to of : ℕ} {x : Identifier} {e v : Ast} {h k : ℕ} → Named ts x us → Next s.LeftParenthesis us at vs → Front formula.Expr vs e h ws
    → Next s.RightParenthesis ws to xs → Next s.Becomes xs of ys → Front formula.Expr ys v k rest → heads quits rest ≡ true → Outcome b.n (max h k) (assignment_at b.n m ts) (becomes.BecomesEqualAt x e v, rest)
unfolding assignment_at assigns_at applied_at same_sign
equal_at_read b m {ts} {us} {vs} {ws} {xs} {ys} {rest} {at} {to} {of} {x} {e} {v} {h} {k} w n f o p g i =
    passed (name_at ts) _ (x, us) _ (name_read w)
    (chosen (at_sign s.LeftParenthesis us) _ _ _ (here n)
    (subst (λ z. Outcome b.n (max h k) (applied_at b.n x z) (becomes.BecomesEqualAt x e v, rest)) (sym (next_after n))
    (both (formula_at b.n formula.Expr vs) _ (e, ws) _ (front_read b formula.Expr f (next_heads ends o))
    (passed (sign_at s.RightParenthesis ws) _ (to, xs) _ (sign_read o)
    (passed (sign_at s.Becomes xs) _ (of, ys) _ (sign_read p)
    (mapped (formula_at b.n formula.Expr ys) _ (v, rest) _ (front_read b formula.Expr g (quits_ends rest i)) refl))))))

member_read : (b : Limit) (m : ℕ) {ts us vs rest : List Token} {at : ℕ} {x : Identifier} {e : Ast} {h : ℕ} → Named ts x us → Next s.BecomesMember us at vs → Front formula.Expr vs e h rest → heads quits rest ≡ true
    → Outcome b.n h (assignment_at b.n m ts) (becomes.BecomesMember x e, rest)
unfolding assignment_at assigns_at member_at same_sign
member_read b m {ts} {us} {vs} {rest} {at} {x} {e} {h} w n f i =
    passed (name_at ts) _ (x, us) _ (name_read w)
    (other (at_sign s.LeftParenthesis us) _ _ _ (next_sign s.LeftParenthesis n)
    (chosen (at_sign s.BecomesMember us) _ _ _ (here n)
    (mapped (formula_at b.n formula.Expr (after_first us)) _ (e, rest) _ (subst (λ z. Outcome b.n h (formula_at b.n formula.Expr z) (e, rest)) (sym (next_after n)) (front_read b formula.Expr f (quits_ends rest i))) refl)))

assignment_read : (b : Limit) (m : ℕ) (ts rest : List Token) (x : Assignment) (h : ℕ) → Assigns ts x h rest → heads quits rest ≡ true → length ts < m → Outcome b.n h (assignment_at b.n m ts) (x, rest)
unfolding assigned_at equal_at such_at same_sign
assignment_read b m ts rest x h (becomes_equal {us = us} {vs = vs} {xs = xs} {es = es} w n q i) e l =
    several_read b m h ts us rest xs x w (sign_goes n refl) (next_sign s.LeftParenthesis n) (next_sign s.BecomesMember n) l
    (chosen (at_sign s.Becomes us) _ _ _ (here n)
    (mapped (exprs_at b.n m (after_first us)) _ (es, rest) _ (subst (λ z. Outcome b.n h (exprs_at b.n m z) (es, rest)) (sym (next_after n)) (exprs_read b m q e (omega (arith, names_less w, next_less n)))) (as_many_read xs es rest i)))
assignment_read b m ts rest x h (becomes_such {us = us} {vs = vs} {at = at} {xs = xs} {a = a} w n f) e l =
    several_read b m h ts us rest xs x w (sign_goes n refl) (next_sign s.LeftParenthesis n) (next_sign s.BecomesMember n) l
    (other (at_sign s.Becomes us) _ _ _ (next_sign s.Becomes n)
    (passed (sign_at s.BecomesSuchThat us) _ (at, vs) _ (sign_read n) (mapped (formula_at b.n formula.Pred vs) _ (a, rest) _ (front_read b formula.Pred f (quits_ends rest e)) refl)))
assignment_read b m ts rest x h (becomes_equal_at w n f o p g) e l = equal_at_read b m w n f o p g e
assignment_read b m ts rest x h (becomes_member w n f) e l = member_read b m w n f e

action_read : (b : Limit) (m : ℕ) (ts rest : List Token) (x : Action) (h : ℕ) → Acts ts x h rest → heads quits rest ≡ true → length ts < m → Outcome b.n h (action_at b.n m ts) (x, rest)
unfolding action_at
action_read b m ts rest x h (acts {us = us} {vs = vs} {l = l} {a = a} p q r) e o =
    let colon = skip_read q (assigns_not b.laws vs rest a h r) in
    passed (label_at ts) _ (l, us) _ (label_read p)
    (mapped (assignment_at b.n m (skip s.MemberOf us)) _ (a, rest) _ (subst (λ z. Outcome b.n h (assignment_at b.n m z) (a, rest)) (sym colon) (assignment_read b m vs rest a h r e (omega (arith, labels_less p, perhaps_less q)))) refl)

starts_action : (ts rest : List Token) (x : Action) (h : ℕ) → Acts ts x h rest → at_label ts ≡ true
starts_action ts rest x h (acts p q r) = labels_label p

follows_action : (ts rest : List Token) (x : Action) (h : ℕ) → Acts ts x h rest → heads quits ts ≡ true
follows_action ts rest x h (acts p q r) = labels_heads quits (λ x. refl) p

pub all_actions_read : (b : Limit) (m : ℕ) {ts rest : List Token} {xs : List Action} {h : ℕ} → Each Acts ts xs h rest → heads stops rest ≡ true → length ts < m → Outcome b.n h (all_actions b.n m ts) (xs, rest)
all_actions_read b m {ts} {rest} {xs} {h} q e l =
    many_read b.n m at_label (action_at b.n m) Acts (heads quits) b.some (record { starts = starts_action; follows = follows_action; less = acts_less b.laws; read = action_read b m }) m ts rest xs h q (stops_label rest e) (stops_quits rest e) l l
