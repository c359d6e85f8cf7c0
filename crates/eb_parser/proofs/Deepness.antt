-- A reader that says TooDeep stands before a stretch of at least as many tokens as its depth.
use Rattle.std.proofs.Common.{◌≡◌, ◌∙◌, ◌≤◌, ◌<◌, ◌+◌, ◌-◌, ℕ, zero, suc, max, Bool, true, false, cond, List, [], ◌∷◌, ◌++◌, length, refl, sym, ap, arith, length-append}
use Rattle.std.specs.Prelude.{Option, Some, None, Result, Ok, Err, nat_le, nat_lt}
use Rattle.std.proofs.lemmas.Bool.Decides.{nat_tests}
use Rattle.eb_signs.specs.declared.sign.Sign.{Sign}
use Rattle.eb_signs.specs.declared.sign.Sign.TheVariants as sign
use Rattle.eb_lexer.specs.declared.token.Token.{Token}
use Rattle.eb_lexer.specs.declared.token.TokenKind.{TokenKind}
use Rattle.eb_lexer.specs.declared.token.TokenKind.TheVariants as kind
use Rattle.eb_syntax.specs.declared.ast.Ast.{Ast}
use Rattle.eb_syntax.specs.declared.ast.Prefix.{Prefix}
use Rattle.eb_syntax.specs.declared.ast.Call.{Call}
use Rattle.eb_syntax.specs.declared.ast.Quantifier.{Quantifier}
use Rattle.eb_syntax.specs.declared.ast.Binder.{Binder}
use Rattle.eb_syntax.specs.declared.ast.Binder.TheVariants as binder
use Rattle.eb_syntax.specs.declared.ast.Bound.{Bound}
use Rattle.eb_syntax.specs.declared.ast.Mark.{Mark}
use Rattle.eb_syntax.specs.declared.ast.Mark.TheVariants as mark
use Rattle.eb_syntax.specs.declared.ast.Identifier.{Identifier}
use Rattle.eb_parser.specs.declared.part.Part.{Part}
use Rattle.eb_parser.specs.declared.fault.Fault.{Fault}
use Rattle.eb_parser.specs.declared.fault.Fault.TheVariants.{Syntax, TooDeep}
use Rattle.eb_parser.specs.declared.table.Start.{Start}
use Rattle.eb_parser.specs.declared.table.Start.TheVariants as start
use Rattle.eb_parser.specs.declared.table.Follow.{Follow}
use Rattle.eb_parser.specs.declared.table.Follow.TheVariants as follow
use Rattle.eb_signs.specs.Levels as level
use Rattle.eb_signs.specs.Levels.{is_pred, group_of, right_of, takes, prefix_level, prefix_takes, call_level, call_takes}
use Rattle.eb_parser.specs.Signs.{IsSign, closing_sign}
use Rattle.eb_parser.specs.Grammar.{Derives, Exprs, d_number, d_identifier, d_primed, d_constant, d_prefix, d_quantifier, d_call, d_partition, d_parentheses, d_binder, d_empty, d_extension, d_comprehension, d_builder, d_inverse, d_operator, e_last, e_more, prefixed, called, bracketed, inverted, joined, quantified, bound_by, comprehended, built, empty_braces, extended, partitioned}
use Rattle.eb_parser.specs.Formulas.{is_unit_word}
use Rattle.eb_parser.specs.steps.Tables.{start_of, head_follow}
use Rattle.eb_parser.specs.steps.Climbing.{◌>>=◌, Reader, Reading, Listing, begins, after_first, after_sign, after_closing, name_of, name_at, separator, names, names_on, sign_mark, mark_of, mark_at, state_after, ends_pattern, marks_on, pattern, binding, leaf_at, prefix_at, predicate, quantifier_at, call_least, call_at, parentheses_at, row_on, row, row_after, partition_at, body, binder_at, comprehension_at, builder_at, extension_at, members_at, brace_by, brace_at, begun_by, primary_by, primary, next_follow, operand_at, reading, joins, turn, resume, go_on, climb, read}
use Rattle.eb_parser.proofs.Steps.{ok, ok_inj, bind_ok, begins_means, after_sign_means, GoesOn, next_some}
use Rattle.eb_parser.proofs.NameLaws.{named, parting, naming, stated, marking, names_sound, binding_sound}
use Rattle.eb_parser.proofs.Soundness.{Found, Sound, read_sound, primary_sound, predicate_sound, turn_sound, done, listed, bodied}
use Rattle.eb_parser.proofs.Stretches.{span, inside, span_next, sign_inside, start_inside, follow_inside, is_other, named_inside, bound_inside}

mutual
  pub height_below : {ts : List Token} {p : Part} → Derives ts p → p.height < length ts
  height_below (d_number t n e) = omega arith
  height_below (d_identifier t x e) = omega arith
  height_below (d_primed t x e) = omega arith
  height_below (d_constant t c e) = omega arith
  height_below (d_prefix t op i d h) = omega (arith, height_below d)
  height_below (d_quantifier {is = is} {ts = ts} t dot q i n j d h) = omega (arith, height_below d, length-append is (dot ∷ ts))
  height_below (d_call {ts = ts} t o c op i j d h l) = omega (arith, height_below d, length-append ts (c ∷ []))
  height_below (d_partition {ts = ts} t o c i j r l) = omega (arith, row_below r, length-append ts (c ∷ []))
  height_below (d_parentheses {ts = ts} o c i d j) = omega (arith, height_below d, length-append ts (c ∷ []))
  height_below (d_binder {is = is} {ts = ts} {us = us} t dot bar op i b j d h l e m) = omega (arith, height_below d, height_below e, length-append is (dot ∷ (ts ++ (bar ∷ us))), length-append ts (bar ∷ us))
  height_below (d_empty o c i j) = omega arith
  height_below (d_extension {ts = ts} o c i r j) = omega (arith, row_below r, length-append ts (c ∷ []))
  height_below (d_comprehension {is = is} {ts = ts} {us = us} o dot bar c i n j d h l e m q) =
      omega (arith, height_below d, height_below e, length-append is (dot ∷ (ts ++ (bar ∷ (us ++ (c ∷ []))))), length-append ts (bar ∷ (us ++ (c ∷ []))), length-append us (c ∷ []))
  height_below (d_builder {ts = ts} {us = us} o bar c i d h j e l m) = omega (arith, height_below d, height_below e, length-append ts (bar ∷ (us ++ (c ∷ []))), length-append us (c ∷ []))
  height_below (d_inverse {ts = ts} t d h l i) = omega (arith, height_below d, length-append ts (t ∷ []))
  height_below (d_operator {ts = ts} {us = us} t op cs d a c i e h l) = omega (arith, height_below d, height_below e, length-append ts (t ∷ (us ++ cs)), length-append us cs)

  pub row_below : {ts : List Token} {es : List Ast} {h : ℕ} → Exprs ts es h → h < length ts
  row_below (e_last d l) = height_below d
  row_below (e_more {ts = ts} {us = us} comma d l i r) = omega (arith, height_below d, row_below r, length-append ts (comma ∷ us))

guard_deep : {A : Type 0} (c : Bool) (x : Result A Fault) → cond c x (Err Syntax) ≡ Err TooDeep → x ≡ Err TooDeep
guard_deep true x e = e
guard_deep false x e = absurd cc

abbrev pub Long : Reader → ℕ → Type 0
Long inner n = (k : ℕ) (ts : List Token) → inner k ts ≡ Err TooDeep → n ≤ span ts

no_ok : {A : Type 0} (x : A) → ok x ≡ Err TooDeep → ⊥
no_ok x e = cc

-- the first of two steps, or the second
one_long : {A B : Type 0} (n m : ℕ) (r : Result A Fault) (g : A → Result B Fault) → (r ≡ Err TooDeep → n ≤ m) → ((x : A) → r ≡ Ok x → g x ≡ Err TooDeep → n ≤ m) → (r >>= g) ≡ Err TooDeep → n ≤ m
one_long n m (Ok x) g f h e = h x refl e
one_long n m (Err Syntax) g f h e = absurd cc
one_long n m (Err TooDeep) g f h e = f refl

never_bind : {A B : Type 0} (r : Result A Fault) (g : A → Result B Fault) → (r ≡ Err TooDeep → ⊥) → ((x : A) → r ≡ Ok x → g x ≡ Err TooDeep → ⊥) → (r >>= g) ≡ Err TooDeep → ⊥
never_bind (Ok x) g f h e = h x refl e
never_bind (Err Syntax) g f h e = cc
never_bind (Err TooDeep) g f h e = f refl

never_sign : (sg : Sign) (ts : List Token) → after_sign sg ts ≡ Err TooDeep → ⊥
unfolding after_sign
never_sign sg ts e = no_ok (after_first ts) (guard_deep (begins sg ts) _ e)

never_closing : (o : Option Sign) (ts : List Token) → after_closing o ts ≡ Err TooDeep → ⊥
never_closing None ts e = no_ok ts e
never_closing (Some sg) ts e = never_sign sg ts e

never_word : (t : Token) (k : TokenKind) (us : List Token) → (name_of t k >>= λ x. named x us) ≡ Err TooDeep → ⊥
never_word t (kind.Word x) us e = cc
never_word t (kind.Primed x) us e = cc
never_word t (kind.Label x) us e = cc
never_word t (kind.Number x) us e = cc
never_word t (kind.Sign x) us e = cc

never_name : (ts : List Token) → name_at ts ≡ Err TooDeep → ⊥
never_name [] e = cc
never_name (t ∷ ts) e = never_word t t.kind ts e

never_separator : (ts : List Token) → separator ts ≡ Err TooDeep → ⊥
unfolding separator
never_separator ts e = by_comma (begins sign.Comma ts) e
  where
    by_comma : (c : Bool) → cond c (parting true (after_first ts)) (cond (begins sign.Dot ts) (parting false (after_first ts)) (Err Syntax)) ≡ Err TooDeep → ⊥
    by_comma true e = no_ok (true, after_first ts) e
    by_comma false e = no_ok (false, after_first ts) (guard_deep (begins sign.Dot ts) (parting false (after_first ts)) e)

pub never_names : (m : ℕ) (ts : List Token) → names m ts ≡ Err TooDeep → ⊥
unfolding names
never_names zero ts e = cc
never_names (suc m) ts e = never_bind (name_at ts) (λ x. separator x.1 >>= names_on (names m) x.0) (never_name ts)
    (λ x i. never_bind (separator x.1) (names_on (names m) x.0) (never_separator x.1) (λ y j. by_more (never_names m) x.0 y.0 y.1)) e
  where
    by_more : ((us : List Token) → names m us ≡ Err TooDeep → ⊥) → (x : Identifier) (c : Bool) (us : List Token) → names_on (names m) x (c, us) ≡ Err TooDeep → ⊥
    by_more f x true us e = never_bind (names m us) (λ z. naming (x ∷ z.0) z.1) (f us) (λ z i. no_ok (x ∷ z.0, z.1)) e
    by_more f x false us e = no_ok (x ∷ [], us) e

never_sign_mark : (r : Sign) → sign_mark r ≡ Err TooDeep → ⊥
never_sign_mark sign.LeftParenthesis e = cc
never_sign_mark sign.RightParenthesis e = cc
never_sign_mark sign.MapsTo e = cc
never_sign_mark _ e = cc

never_mark : (t : Token) (k : TokenKind) → mark_of t k ≡ Err TooDeep → ⊥
never_mark t (kind.Word x) e = cc
never_mark t (kind.Primed x) e = cc
never_mark t (kind.Label x) e = cc
never_mark t (kind.Number x) e = cc
never_mark t (kind.Sign x) e = never_sign_mark x e

never_mark_at : (ts : List Token) → mark_at ts ≡ Err TooDeep → ⊥
never_mark_at [] e = cc
never_mark_at (t ∷ ts) e = never_mark t t.kind e

never_state : (due : Bool) (n : ℕ) (x : Mark) → state_after due n x ≡ Err TooDeep → ⊥
never_state true n (mark.Identifier i) e = cc
never_state true n mark.Open e = cc
never_state true n mark.Close e = cc
never_state true n mark.MapsTo e = cc
never_state false n (mark.Identifier i) e = cc
never_state false n mark.Open e = cc
never_state false n mark.Close e = by_zero _ e
  where
    by_zero : (c : Bool) → cond c (Err Syntax) (stated false (n - 1)) ≡ Err TooDeep → ⊥
    by_zero true e = cc
    by_zero false e = cc
never_state false n mark.MapsTo e = cc

never_pattern : (m : ℕ) (due : Bool) (n : ℕ) (ts : List Token) → pattern m due n ts ≡ Err TooDeep → ⊥
unfolding pattern
never_pattern zero due n ts e = cc
never_pattern (suc m) due n ts e = by_end (never_pattern m) (ends_pattern due n ts) e
  where
    by_end : ((d : Bool) (k : ℕ) (us : List Token) → pattern m d k us ≡ Err TooDeep → ⊥) → (c : Bool)
        → cond c (marking [] (after_first ts)) (mark_at ts >>= λ x. state_after due n x >>= λ y. marks_on x (pattern m y.0 y.1 (after_first ts))) ≡ Err TooDeep → ⊥
    by_end f true e = cc
    by_end f false e = never_bind (mark_at ts) (λ x. state_after due n x >>= λ y. marks_on x (pattern m y.0 y.1 (after_first ts))) (never_mark_at ts)
        (λ x i. never_bind (state_after due n x) (λ y. marks_on x (pattern m y.0 y.1 (after_first ts))) (never_state due n x)
        (λ y j. never_bind (pattern m y.0 y.1 (after_first ts)) (λ z. marking (x ∷ z.0) z.1) (f y.0 y.1 (after_first ts)) (λ z l. no_ok (x ∷ z.0, z.1)))) e

pub never_binding : (op : Binder) (ts : List Token) → binding op ts ≡ Err TooDeep → ⊥
unfolding binding
never_binding binder.Lambda ts e = never_bind (pattern (length ts) true 0 ts) _ (never_pattern (length ts) true 0 ts) (λ x i. no_ok _) e
never_binding binder.Union ts e = never_bind (names (length ts) ts) _ (never_names (length ts) ts) (λ x i. no_ok _) e
never_binding binder.Intersection ts e = never_bind (names (length ts) ts) _ (never_names (length ts) ts) (λ x i. no_ok _) e

-- the stretch behind what was read is no longer
sign_span : (sg : Sign) (ts us : List Token) → after_sign sg ts ≡ Ok us → is_unit_word sg ≡ false → span us ≤ span ts
sign_span sg ts us e h =
    let w = after_sign_means sg ts us e in
    omega (arith, ap span w.is, span_next w.token us (sign_inside w.token sg w.sign h))

found_span : (n k : ℕ) (ts : List Token) (y : Part × List Token) → Found n k ts y → span y.1 ≤ span ts
found_span n k ts y f = omega (arith, ap span f.whole, inside f.derived y.1)

-- a step that gives a formula, or fails otherwise
abbrev deepest : Reading → Type 0
deepest r = r ≡ Err TooDeep

prefix_long : (inner : Reader) (n : ℕ) → Long inner n → (k : ℕ) (t : Token) (op : Prefix) (ts : List Token) → prefix_at inner k t op ts ≡ Err TooDeep → n ≤ span ts
unfolding prefix_at
prefix_long inner n s k t op ts e = one_long n (span ts) (inner (prefix_level op) ts) (λ x. cond (prefix_takes op (x.0).level) (reading (prefixed t op x.0) x.1) (Err Syntax)) (s (prefix_level op) ts)
    (λ x i j. absurd (no_ok _ (guard_deep (prefix_takes op (x.0).level) (reading (prefixed t op x.0) x.1) j))) (guard_deep (nat_le k (prefix_level op)) _ e)

predicate_long : (inner : Reader) (n : ℕ) → Long inner n → (ts : List Token) → predicate inner ts ≡ Err TooDeep → n ≤ span ts
unfolding predicate
predicate_long inner n s ts e = one_long n (span ts) (inner level.pred ts) (λ x. cond (is_pred (x.0).level) (done x) (Err Syntax)) (s level.pred ts)
    (λ x i j. absurd (no_ok x (guard_deep (is_pred (x.0).level) (done x) j))) e

quantifier_long : (inner : Reader) (n : ℕ) → Long inner n → (k : ℕ) (t : Token) (q : Quantifier) (ts : List Token) → quantifier_at inner k t q ts ≡ Err TooDeep → n ≤ span ts
unfolding quantifier_at
quantifier_long inner n s k t q ts e = one_long n (span ts) (names (length ts) ts) (λ x. predicate inner x.1 >>= λ y. reading (quantified t q x.0 y.0) y.1) (λ i. absurd (never_names (length ts) ts i)) by_names (guard_deep (nat_le k level.lit) _ e)
  where
    by_names : (x : List Identifier × List Token) → names (length ts) ts ≡ Ok x → (predicate inner x.1 >>= λ y. reading (quantified t q x.0 y.0) y.1) ≡ Err TooDeep → n ≤ span ts
    by_names x i j =
        let a = names_sound (length ts) ts x i in
        let l = one_long n (span x.1) (predicate inner x.1) (λ y. reading (quantified t q x.0 y.0) y.1) (predicate_long inner n s x.1) (λ y f h. absurd (no_ok _ h)) j in
        omega (arith, l, ap span a.whole, named_inside a.dot a.named a.sign x.1)

call_long : (inner : Reader) (n : ℕ) → Long inner n → (k : ℕ) (t : Token) (op : Call) (ts : List Token) → call_at inner k t op ts ≡ Err TooDeep → n ≤ span ts
unfolding call_at
call_long inner n s k t op ts e = one_long n (span ts) (after_sign sign.LeftParenthesis ts) after (λ i. absurd (never_sign sign.LeftParenthesis ts i)) by_sign (guard_deep (nat_le k (call_level op)) _ e)
  where
    last : Part × List Token → Reading
    last x = after_sign sign.RightParenthesis x.1 >>= λ vs. reading (called t op x.0) vs

    after : List Token → Reading
    after us = inner (call_least op) us >>= λ x. cond (call_takes op (x.0).level) (last x) (Err Syntax)

    by_sign : (us : List Token) → after_sign sign.LeftParenthesis ts ≡ Ok us → after us ≡ Err TooDeep → n ≤ span ts
    by_sign us i j =
        let l = one_long n (span us) (inner (call_least op) us) (λ x. cond (call_takes op (x.0).level) (last x) (Err Syntax)) (s (call_least op) us)
        (λ x f h. absurd (never_bind (after_sign sign.RightParenthesis x.1) (λ vs. reading (called t op x.0) vs) (never_sign sign.RightParenthesis x.1) (λ vs g. no_ok _) (guard_deep (call_takes op (x.0).level) (last x) h))) j in
        omega (arith, l, sign_span sign.LeftParenthesis ts us i refl)

parentheses_long : (inner : Reader) (n : ℕ) → Long inner n → (k : ℕ) (t : Token) (ts : List Token) → parentheses_at inner k t ts ≡ Err TooDeep → n ≤ span ts
unfolding parentheses_at
parentheses_long inner n s k t ts e = one_long n (span ts) (inner level.pred ts) after (s level.pred ts) (λ x i j. absurd (by_sign x j)) e
  where
    after : Part × List Token → Reading
    after x = after_sign sign.RightParenthesis x.1 >>= λ us. cond (nat_le k (bracketed t x.0).level) (reading (bracketed t x.0) us) (Err Syntax)

    by_sign : (x : Part × List Token) → after x ≡ Err TooDeep → ⊥
    by_sign x e = never_bind (after_sign sign.RightParenthesis x.1) (λ us. cond (nat_le k (bracketed t x.0).level) (reading (bracketed t x.0) us) (Err Syntax)) (never_sign sign.RightParenthesis x.1)
        (λ us i j. no_ok _ (guard_deep (nat_le k (bracketed t x.0).level) (reading (bracketed t x.0) us) j)) e

row_on_long : (n : ℕ) (go : List Token → Listing) → ((us : List Token) → go us ≡ Err TooDeep → n ≤ span us) → (p : Part) (ts : List Token) → row_on go p ts ≡ Err TooDeep → n ≤ span ts
unfolding row_on
row_on_long n go v p ts e = by_comma (begins sign.Comma ts) refl e
  where
    by_comma : (c : Bool) → begins sign.Comma ts ≡ c → cond c (go (after_first ts) >>= λ x. listed (p.tree ∷ x.0) (max p.height x.1) x.2) (listed (p.tree ∷ []) p.height ts) ≡ Err TooDeep → n ≤ span ts
    by_comma false i e = absurd (no_ok (p.tree ∷ [], p.height, ts) e)
    by_comma true i e =
        let a = begins_means sign.Comma ts i in
        let l = one_long n (span (after_first ts)) (go (after_first ts)) (λ x. listed (p.tree ∷ x.0) (max p.height x.1) x.2) (v (after_first ts)) (λ x f h. absurd (no_ok (p.tree ∷ x.0, max p.height x.1, x.2) h)) e in
        omega (arith, l, ap span a.is, span_next a.token (after_first ts) (sign_inside a.token sign.Comma a.sign refl))

row_long : (inner : Reader) (n : ℕ) → Long inner n → Sound inner n → (m : ℕ) (ts : List Token) → row inner m ts ≡ Err TooDeep → n ≤ span ts
unfolding row
row_long inner n s v zero ts e = absurd cc
row_long inner n s v (suc m) ts e = one_long n (span ts) (inner level.expr ts) (λ x. row_on (row inner m) x.0 x.1) (s level.expr ts)
    (λ x i j. let l = row_on_long n (row inner m) (row_long inner n s v m) x.0 x.1 j in omega (arith, l, found_span n level.expr ts x (v level.expr ts x i))) e

row_after_long : (inner : Reader) (n : ℕ) → Long inner n → Sound inner n → (m : ℕ) (p : Part) (ts : List Token) → row_after inner m p ts ≡ Err TooDeep → n ≤ span ts
unfolding row_after
row_after_long inner n s v m p ts e = row_on_long n (row inner m) (row_long inner n s v m) p ts e

partition_long : (inner : Reader) (n : ℕ) → Long inner n → Sound inner n → (k : ℕ) (t : Token) (ts : List Token) → partition_at inner k t ts ≡ Err TooDeep → n ≤ span ts
unfolding partition_at
partition_long inner n s v k t ts e = one_long n (span ts) (after_sign sign.LeftParenthesis ts) after (λ i. absurd (never_sign sign.LeftParenthesis ts i)) by_sign (guard_deep (nat_le k level.lit) _ e)
  where
    last : List Ast × ℕ × List Token → Reading
    last y = after_sign sign.RightParenthesis y.2 >>= λ vs. reading (partitioned t y.0 y.1) vs

    after : List Token → Reading
    after us = inner level.expr us >>= λ x. row_after inner (length x.1) x.0 x.1 >>= last

    by_sign : (us : List Token) → after_sign sign.LeftParenthesis ts ≡ Ok us → after us ≡ Err TooDeep → n ≤ span ts
    by_sign us i j =
        let l = one_long n (span us) (inner level.expr us) (λ x. row_after inner (length x.1) x.0 x.1 >>= last) (s level.expr us)
        (λ x f h. let r = one_long n (span x.1) (row_after inner (length x.1) x.0 x.1) last (row_after_long inner n s v (length x.1) x.0 x.1)
        (λ y g w. absurd (never_bind (after_sign sign.RightParenthesis y.2) (λ vs. reading (partitioned t y.0 y.1) vs) (never_sign sign.RightParenthesis y.2) (λ vs z. no_ok _) w)) h in
        omega (arith, r, found_span n level.expr us x (v level.expr us x f))) j in
        omega (arith, l, sign_span sign.LeftParenthesis ts us i refl)

body_long : (inner : Reader) (n : ℕ) → Long inner n → Sound inner n → (ts : List Token) → body inner ts ≡ Err TooDeep → n ≤ span ts
unfolding body
body_long inner n s v ts e = one_long n (span ts) (predicate inner ts) after (predicate_long inner n s ts) by_pred e
  where
    last : Part → List Token → Result (Part × Part × List Token) Fault
    last p us = inner level.expr us >>= λ z. bodied p z.0 z.1

    after : Part × List Token → Result (Part × Part × List Token) Fault
    after x = after_sign sign.Bar x.1 >>= last x.0

    by_pred : (x : Part × List Token) → predicate inner ts ≡ Ok x → after x ≡ Err TooDeep → n ≤ span ts
    by_pred x i j =
        let f = predicate_sound inner n v ts x i in
        let l = one_long n (span x.1) (after_sign sign.Bar x.1) (last x.0) (λ w. absurd (never_sign sign.Bar x.1 w))
        (λ us g h. let r = one_long n (span us) (inner level.expr us) (λ z. bodied x.0 z.0 z.1) (s level.expr us) (λ z q w. absurd (no_ok (x.0, z.0, z.1) w)) h in omega (arith, r, sign_span sign.Bar x.1 us g refl)) j in
        omega (arith, l, ap span f.whole, inside f.derived x.1)

binder_long : (inner : Reader) (n : ℕ) → Long inner n → Sound inner n → (k : ℕ) (t : Token) (op : Binder) (ts : List Token) → binder_at inner k t op ts ≡ Err TooDeep → n ≤ span ts
unfolding binder_at
binder_long inner n s v k t op ts e = one_long n (span ts) (binding op ts) after (λ i. absurd (never_binding op ts i)) by_binding (guard_deep (nat_le k level.expr) _ e)
  where
    after : Bound × List Token → Reading
    after x = body inner x.1 >>= λ y. reading (bound_by t op x.0 y.0 y.1) y.2

    by_binding : (x : Bound × List Token) → binding op ts ≡ Ok x → after x ≡ Err TooDeep → n ≤ span ts
    by_binding x i j =
        let a = binding_sound op ts x i in
        let l = one_long n (span x.1) (body inner x.1) (λ y. reading (bound_by t op x.0 y.0 y.1) y.2) (body_long inner n s v x.1) (λ y f h. absurd (no_ok _ h)) j in
        omega (arith, l, ap span a.whole, bound_inside a.dot a.bound a.sign x.1)

comprehension_long : (inner : Reader) (n : ℕ) → Long inner n → Sound inner n → (t : Token) (xs : List Identifier) (ts : List Token) → comprehension_at inner t xs ts ≡ Err TooDeep → n ≤ span ts
unfolding comprehension_at
comprehension_long inner n s v t xs ts e = one_long n (span ts) (body inner ts) (λ x. after_sign sign.RightBrace x.2 >>= λ us. reading (comprehended t xs x.0 x.1) us) (body_long inner n s v ts)
    (λ x i j. absurd (never_bind (after_sign sign.RightBrace x.2) (λ us. reading (comprehended t xs x.0 x.1) us) (never_sign sign.RightBrace x.2) (λ us h. no_ok _) j)) e

builder_long : (inner : Reader) (n : ℕ) → Long inner n → (t : Token) (p : Part) (ts : List Token) → builder_at inner t p ts ≡ Err TooDeep → n ≤ span ts
unfolding builder_at
builder_long inner n s t p ts e = one_long n (span ts) (predicate inner ts) (λ x. after_sign sign.RightBrace x.1 >>= λ us. reading (built t p x.0) us) (predicate_long inner n s ts)
    (λ x i j. absurd (never_bind (after_sign sign.RightBrace x.1) (λ us. reading (built t p x.0) us) (never_sign sign.RightBrace x.1) (λ us h. no_ok _) j)) e

extension_long : (inner : Reader) (n : ℕ) → Long inner n → Sound inner n → (t : Token) (p : Part) (ts : List Token) → extension_at inner t p ts ≡ Err TooDeep → n ≤ span ts
unfolding extension_at
extension_long inner n s v t p ts e = one_long n (span ts) (row_after inner (length ts) p ts) (λ x. after_sign sign.RightBrace x.2 >>= λ us. reading (extended t x.0 x.1) us) (row_after_long inner n s v (length ts) p ts)
    (λ x i j. absurd (never_bind (after_sign sign.RightBrace x.2) (λ us. reading (extended t x.0 x.1) us) (never_sign sign.RightBrace x.2) (λ us h. no_ok _) j)) e

members_long : (inner : Reader) (n : ℕ) → Long inner n → Sound inner n → (t : Token) (ts : List Token) → members_at inner t ts ≡ Err TooDeep → n ≤ span ts
unfolding members_at
members_long inner n s v t ts e = one_long n (span ts) (inner level.expr ts) (λ x. cond (begins sign.Bar x.1) (builder_at inner t x.0 (after_first x.1)) (extension_at inner t x.0 x.1)) (s level.expr ts)
    (λ x i j. let l = by_bar x.0 x.1 (begins sign.Bar x.1) refl j in omega (arith, l, found_span n level.expr ts x (v level.expr ts x i))) e
  where
    by_bar : (p : Part) (us : List Token) (c : Bool) → begins sign.Bar us ≡ c → cond c (builder_at inner t p (after_first us)) (extension_at inner t p us) ≡ Err TooDeep → n ≤ span us
    by_bar p us true i e =
        let a = begins_means sign.Bar us i in
        let l = builder_long inner n s t p (after_first us) e in
        omega (arith, l, ap span a.is, span_next a.token (after_first us) (sign_inside a.token sign.Bar a.sign refl))
    by_bar p us false i e = extension_long inner n s v t p us e

brace_by_long : (inner : Reader) (n : ℕ) → Long inner n → Sound inner n → (t : Token) (ts : List Token) (r : Result (List Identifier × List Token) Fault) → names (length ts) ts ≡ r → brace_by inner t ts r ≡ Err TooDeep → n ≤ span ts
brace_by_long inner n s v t ts (Ok x) j e =
    let a = names_sound (length ts) ts x j in
    let l = comprehension_long inner n s v t x.0 x.1 e in
    omega (arith, l, ap span a.whole, named_inside a.dot a.named a.sign x.1)
brace_by_long inner n s v t ts (Err f) j e = by_end (begins sign.RightBrace ts) e
  where
    by_end : (c : Bool) → cond c (reading (empty_braces t) (after_first ts)) (members_at inner t ts) ≡ Err TooDeep → n ≤ span ts
    by_end true e = absurd (no_ok _ e)
    by_end false e = members_long inner n s v t ts e

brace_long : (inner : Reader) (n : ℕ) → Long inner n → Sound inner n → (k : ℕ) (t : Token) (ts : List Token) → brace_at inner k t ts ≡ Err TooDeep → n ≤ span ts
unfolding brace_at
brace_long inner n s v k t ts e = brace_by_long inner n s v t ts (names (length ts) ts) refl (guard_deep (nat_le k level.prim) _ e)

leaf_never : (k : ℕ) (p : Part) (ts : List Token) → leaf_at k p ts ≡ Err TooDeep → ⊥
unfolding leaf_at
leaf_never k p ts e = no_ok _ (guard_deep (nat_le k p.level) (reading p ts) e)

more_span : (n : ℕ) (t : Token) (sg : Sign) (ts : List Token) (x : Start) → IsSign t sg → start_of sg ≡ x → (x ≡ start.Other → ⊥) → n ≤ span ts → suc n ≤ span (t ∷ ts)
more_span n t sg ts x i m other l = omega (arith, l, span_next t ts (start_inside t sg i (by_start (start_of sg) refl)))
  where
    by_start : (y : Start) → start_of sg ≡ y → is_other y ≡ false
    by_start (start.Constant c) e = refl
    by_start (start.Prefix c) e = refl
    by_start (start.Quantifier c) e = refl
    by_start (start.Binder c) e = refl
    by_start (start.Call c) e = refl
    by_start start.Partition e = refl
    by_start start.Parenthesis e = refl
    by_start start.Brace e = refl
    by_start start.Other e = absurd (other (sym m ∙ e))

begun_long : (inner : Reader) (n : ℕ) → Long inner n → Sound inner n → (k : ℕ) (t : Token) (sg : Sign) → IsSign t sg → (ts : List Token) (x : Start) → start_of sg ≡ x → begun_by inner k t ts x ≡ Err TooDeep → suc n ≤ span (t ∷ ts)
begun_long inner n s v k t sg i ts (start.Constant c) m e = absurd (leaf_never k _ ts e)
begun_long inner n s v k t sg i ts (start.Prefix op) m e = more_span n t sg ts (start.Prefix op) i m (λ z. cc) (prefix_long inner n s k t op ts e)
begun_long inner n s v k t sg i ts (start.Quantifier q) m e = more_span n t sg ts (start.Quantifier q) i m (λ z. cc) (quantifier_long inner n s k t q ts e)
begun_long inner n s v k t sg i ts (start.Binder op) m e = more_span n t sg ts (start.Binder op) i m (λ z. cc) (binder_long inner n s v k t op ts e)
begun_long inner n s v k t sg i ts (start.Call op) m e = more_span n t sg ts (start.Call op) i m (λ z. cc) (call_long inner n s k t op ts e)
begun_long inner n s v k t sg i ts start.Partition m e = more_span n t sg ts start.Partition i m (λ z. cc) (partition_long inner n s v k t ts e)
begun_long inner n s v k t sg i ts start.Parenthesis m e = more_span n t sg ts start.Parenthesis i m (λ z. cc) (parentheses_long inner n s k t ts e)
begun_long inner n s v k t sg i ts start.Brace m e = more_span n t sg ts start.Brace i m (λ z. cc) (brace_long inner n s v k t ts e)
begun_long inner n s v k t sg i ts start.Other m e = absurd cc

primary_by_long : (inner : Reader) (n : ℕ) → Long inner n → Sound inner n → (k : ℕ) (t : Token) (ts : List Token) (x : TokenKind) → t.kind ≡ x → primary_by inner k t ts x ≡ Err TooDeep → suc n ≤ span (t ∷ ts)
primary_by_long inner n s v k t ts (kind.Word x) i e = absurd (leaf_never k _ ts e)
primary_by_long inner n s v k t ts (kind.Primed x) i e = absurd (leaf_never k _ ts e)
primary_by_long inner n s v k t ts (kind.Label x) i e = absurd cc
primary_by_long inner n s v k t ts (kind.Number x) i e = absurd (leaf_never k _ ts e)
primary_by_long inner n s v k t ts (kind.Sign x) i e = begun_long inner n s v k t x i ts (start_of x) refl e

primary_long : (inner : Reader) (n : ℕ) → Long inner n → Sound inner n → (k : ℕ) (ts : List Token) → primary inner k ts ≡ Err TooDeep → suc n ≤ span ts
primary_long inner n s v k [] e = absurd cc
primary_long inner n s v k (t ∷ ts) e = primary_by_long inner n s v k t ts t.kind refl e

turn_long : (inner : Reader) (n : ℕ) → Long inner n → (p : Part) (f : Follow) (us : List Token) → turn inner p f us ≡ Err TooDeep → n ≤ span us
unfolding turn operand_at
turn_long inner n s p follow.Inverse us e = absurd (no_ok (inverted p, us) e)
turn_long inner n s p (follow.Operator op) us e = one_long n (span us) (operand_at inner op us) (joins op p) by_operand (λ x i j. absurd (no_ok _ j)) e
  where
    last : Part × List Token → Reading
    last x = after_closing (closing_sign op) x.1 >>= λ vs. reading x.0 vs

    by_operand : operand_at inner op us ≡ Err TooDeep → n ≤ span us
    by_operand e = one_long n (span us) (inner (right_of (group_of op)) us) (λ x. cond (takes (group_of op) (x.0).level) (last x) (Err Syntax)) (s (right_of (group_of op)) us)
        (λ x i j. absurd (never_bind (after_closing (closing_sign op) x.1) (λ vs. reading x.0 vs) (never_closing (closing_sign op) x.1) (λ vs h. no_ok _) (guard_deep (takes (group_of op) (x.0).level) (last x) j))) e

turn_height : (inner : Reader) (p : Part) (f : Follow) (us : List Token) (z : Part × List Token) → turn inner p f us ≡ Ok z → p.height < (z.0).height
unfolding turn
turn_height inner p follow.Inverse us z e = let s = ok_inj (inverted p, us) z e in omega (arith, ap (λ y. (y.0).height) s)
turn_height inner p (follow.Operator op) us z e =
    let w = bind_ok (operand_at inner op us) (joins op p) z e in
    let s = ok_inj (joined op p (w.0).0, (w.0).1) z w.2 in
    omega (arith, ap (λ y. (y.0).height) s)

abbrev LongClimb : (Part → List Token → Reading) → ℕ → ℕ → ℕ → Type 0
LongClimb go n k m = (front ts : List Token) (p : Part) → Derives front p → k ≤ p.level → p.height ≤ n → n ≤ m + p.height → go p ts ≡ Err TooDeep → suc n ≤ span (front ++ ts)

full_long : (n : ℕ) (front ts : List Token) (p : Part) → Derives front p → n ≤ p.height → suc n ≤ span (front ++ ts)
full_long n front ts p d h = omega (arith, height_below d, inside d ts)

resume_long : (n k m : ℕ) (go : Part → List Token → Reading) → LongClimb go n k m → (front ts : List Token) (p : Part) → n ≤ suc m + p.height
    → (r : Reading) → ((z : Part × List Token) → r ≡ Ok z → Found (suc n) k (front ++ ts) z) → ((z : Part × List Token) → r ≡ Ok z → p.height < (z.0).height) → (r ≡ Err TooDeep → suc n ≤ span (front ++ ts))
    → resume go p ts r ≡ Err TooDeep → suc n ≤ span (front ++ ts)
resume_long n k m go c front ts p h (Ok x) v w d e =
    let f = v x refl in
    let l = c f.front x.1 x.0 f.derived f.high (omega (arith, f.low)) (omega (arith, w x refl)) e in
    omega (arith, l, ap span f.whole)
resume_long n k m go c front ts p h (Err Syntax) v w d e = absurd cc
resume_long n k m go c front ts p h (Err TooDeep) v w d e = d refl

go_on_long : (inner : Reader) (n : ℕ) → Long inner n → Sound inner n → (k m : ℕ) (go : Part → List Token → Reading) → LongClimb go n k m
    → (front ts : List Token) (p : Part) → Derives front p → n ≤ suc m + p.height
    → (o : Option Follow) → next_follow k p (head_follow ts) ≡ o → go_on go inner n p ts o ≡ Err TooDeep → suc n ≤ span (front ++ ts)
go_on_long inner n s v k m go c front ts p d h None q e = absurd cc
go_on_long inner n s v k m go c front ts p d h (Some f) q e = by_test (nat_lt p.height n) refl e
  where
    g : GoesOn k p ts f
    g = next_some k p ts f q

    behind : span (front ++ ts) ≡ length front + suc (span (after_first ts))
    behind = omega (arith, inside d ts, ap span g.is, span_next g.token (after_first ts) (follow_inside g.token f g.sign))

    by_test : (x : Bool) → nat_lt p.height n ≡ x → cond x (resume go p ts (turn inner p f (after_first ts))) (Err TooDeep) ≡ Err TooDeep → suc n ≤ span (front ++ ts)
    by_test false i e = full_long n front ts p d (grind (arith, nat_tests))
    by_test true i e = resume_long n k m go c front ts p h (turn inner p f (after_first ts))
        (λ z j. turn_sound inner n v k front p d (grind (arith, nat_tests)) ts f g z j)
        (λ z j. turn_height inner p f (after_first ts) z j)
        (λ j. omega (arith, turn_long inner n s p f (after_first ts) j, behind)) e

climb_long : (inner : Reader) (n : ℕ) → Long inner n → Sound inner n → (k m : ℕ) → LongClimb (climb inner n k m) n k m
unfolding climb
climb_long inner n s v k zero front ts p d l h i e = full_long n front ts p d (omega arith)
climb_long inner n s v k (suc m) front ts p d l h i e = go_on_long inner n s v k m (climb inner n k m) (climb_long inner n s v k m) front ts p d i (next_follow k p (head_follow ts)) refl e

pub read_long : (n : ℕ) → Long (read n) n
unfolding read
read_long zero k ts e = omega arith
read_long (suc n) k ts e = one_long (suc n) (span ts) (primary (read n) k ts) (λ x. climb (read n) n k n x.0 x.1) (primary_long (read n) n (read_long n) (read_sound n) k ts)
    (λ x i j. let f = primary_sound (read n) n (read_sound n) k ts x i in
    let l = climb_long (read n) n (read_long n) (read_sound n) k n f.front x.1 x.0 f.derived f.high (omega (arith, f.low)) (omega arith) j in
    omega (arith, l, ap span f.whole)) e
