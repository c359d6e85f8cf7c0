-- What is read is a formula.
use Rattle.std.proofs.Common.{◌≡◌, ◌∙◌, ◌≤◌, ◌<◌, ℕ, zero, suc, max, Bool, true, false, cond, List, [], ◌∷◌, ◌++◌, length, refl, sym, ap, subst, arith, IsTrue, append_assoc}
use Rattle.std.specs.Prelude.{Option, Some, None, Result, Ok, Err, nat_le, nat_lt}
use Rattle.std.proofs.lemmas.Bool.Decides.{nat_tests}
use Rattle.eb_signs.specs.declared.sign.Sign.{Sign}
use Rattle.eb_signs.specs.declared.sign.Sign.TheVariants as sign
use Rattle.eb_lexer.specs.declared.token.Token.{Token}
use Rattle.eb_lexer.specs.declared.token.TokenKind.{TokenKind}
use Rattle.eb_lexer.specs.declared.token.TokenKind.TheVariants as kind
use Rattle.eb_syntax.specs.declared.ast.Ast.{Ast}
use Rattle.eb_syntax.specs.declared.ast.Prefix.{Prefix}
use Rattle.eb_syntax.specs.declared.ast.Call.{Call}
use Rattle.eb_syntax.specs.declared.ast.Quantifier.{Quantifier}
use Rattle.eb_syntax.specs.declared.ast.Binder.{Binder}
use Rattle.eb_syntax.specs.declared.ast.Identifier.{Identifier}
use Rattle.eb_syntax.specs.Asts as tree
use Rattle.eb_parser.specs.declared.part.Part.{Part}
use Rattle.eb_parser.specs.declared.fault.Fault.{Fault}
use Rattle.eb_parser.specs.declared.fault.Fault.TheVariants.{Syntax, TooDeep}
use Rattle.eb_parser.specs.declared.table.Start.{Start}
use Rattle.eb_parser.specs.declared.table.Start.TheVariants as start
use Rattle.eb_parser.specs.declared.table.Follow.{Follow}
use Rattle.eb_parser.specs.declared.table.Follow.TheVariants as follow
use Rattle.eb_signs.specs.Levels as level
use Rattle.eb_signs.specs.Levels.{is_pred, is_expr, group_of, right_of, takes, constant_level, prefix_level, prefix_takes, call_level, call_takes}
use Rattle.eb_parser.specs.Signs.{IsSign, prefix_sign, call_sign, quantifier_sign, binder_sign, closing_sign}
use Rattle.eb_parser.specs.Grammar.{Derives, Exprs, Names, d_number, d_identifier, d_primed, d_constant, d_prefix, d_quantifier, d_call, d_partition, d_parentheses, d_binder, d_empty, d_extension, d_comprehension, d_builder, d_inverse, d_operator, e_last, e_more, leaf, bracketed, joined, empty_braces}
use Rattle.eb_parser.specs.steps.Tables.{start_of, head_follow}
use Rattle.eb_parser.specs.steps.Climbing.{◌>>=◌, Reader, Reading, Listing, begins, after_first, after_sign, after_closing, names, binding, leaf_at, prefix_at, predicate, quantifier_at, call_least, call_at, parentheses_at, row_on, row, row_after, partition_at, body, binder_at, comprehension_at, builder_at, extension_at, members_at, brace_by, brace_at, begun_by, primary_by, primary, next_follow, operand_at, reading, joins, turn, resume, stop, go_on, climb, read}
use Rattle.eb_parser.proofs.SignLaws.{start_means}
use Rattle.eb_parser.proofs.Steps.{ok_inj, bind_ok, guard_ok, begins_means, after_sign_means, closing_means, GoesOn, next_some}
use Rattle.eb_parser.proofs.NameLaws.{names_sound, binding_sound}

pub record Found (n k : ℕ) (ts : List Token) (y : Part × List Token) : Type 0 where
  pub front : List Token
  pub derived : Derives front y.0
  pub high : k ≤ (y.0).level
  pub low : (y.0).height < n
  pub whole : ts ≡ front ++ y.1

abbrev pub Sound : Reader → ℕ → Type 0
Sound inner n = (k : ℕ) (ts : List Token) (y : Part × List Token) → inner k ts ≡ Ok y → Found n k ts y

le_means : (a c : ℕ) → nat_le a c ≡ true → a ≤ c
le_means a c e = grind (arith, nat_tests)

leaf_sound : (n k : ℕ) (p : Part) (t : Token) (ts : List Token) (y : Part × List Token) → Derives (t ∷ []) p → p.height ≡ 0 → leaf_at k p ts ≡ Ok y → Found (suc n) k (t ∷ ts) y
unfolding leaf_at
leaf_sound n k p t ts y d z e =
    let g = guard_ok (nat_le k p.level) (reading p ts) Syntax y e in
    subst (Found (suc n) k (t ∷ ts)) (ok_inj _ _ g.1) (record { front = t ∷ []; derived = d; high = le_means _ _ g.0; low = omega arith; whole = refl })

prefix_sound : (inner : Reader) (n : ℕ) → Sound inner n → (k : ℕ) (t : Token) (op : Prefix) → IsSign t (prefix_sign op) → (ts : List Token) (y : Part × List Token) → prefix_at inner k t op ts ≡ Ok y → Found (suc n) k (t ∷ ts) y
unfolding prefix_at
prefix_sound inner n s k t op i ts y e =
    let g = guard_ok (nat_le k (prefix_level op)) _ _ y e in
    let w = bind_ok (inner (prefix_level op) ts) _ y g.1 in
    let g2 = guard_ok (prefix_takes op (w.0.0).level) _ _ y w.2 in
    let v = s (prefix_level op) ts w.0 w.1 in
    subst (Found (suc n) k (t ∷ ts)) (ok_inj _ _ g2.1) (record { front = t ∷ v.front; derived = d_prefix t op i v.derived g2.0; high = le_means _ _ g.0; low = omega (arith, v.low); whole = ap (λ x. t ∷ x) v.whole })

pub record FoundPredicate (n : ℕ) (ts : List Token) (y : Part × List Token) : Type 0 where
  pub front : List Token
  pub derived : Derives front y.0
  pub pred : IsTrue (is_pred (y.0).level)
  pub low : (y.0).height < n
  pub whole : ts ≡ front ++ y.1

abbrev pub done : Part × List Token → Reading
done x = Ok x

pub predicate_sound : (inner : Reader) (n : ℕ) → Sound inner n → (ts : List Token) (y : Part × List Token) → predicate inner ts ≡ Ok y → FoundPredicate n ts y
unfolding predicate
predicate_sound inner n s ts y e =
    let w = bind_ok (inner level.pred ts) (λ x. cond (is_pred (x.0).level) (done x) (Err Syntax)) y e in
    let g = guard_ok (is_pred (w.0.0).level) (done w.0) Syntax y w.2 in
    let v = s level.pred ts w.0 w.1 in
    subst (FoundPredicate n ts) (ok_inj _ _ g.1) (record { front = v.front; derived = v.derived; pred = g.0; low = v.low; whole = v.whole })

quantifier_sound : (inner : Reader) (n : ℕ) → Sound inner n → (k : ℕ) (t : Token) (q : Quantifier) → IsSign t (quantifier_sign q) → (ts : List Token) (y : Part × List Token) → quantifier_at inner k t q ts ≡ Ok y → Found (suc n) k (t ∷ ts) y
unfolding quantifier_at
quantifier_sound inner n s k t q i ts y e =
    let g = guard_ok (nat_le k level.lit) _ _ y e in
    let j = bind_ok (names (length ts) ts) _ y g.1 in
    let w = bind_ok (predicate inner j.0.1) _ y j.2 in
    let a = names_sound (length ts) ts j.0 j.1 in
    let v = predicate_sound inner n s j.0.1 w.0 w.1 in
    let all : t ∷ ts ≡ (t ∷ (a.front ++ (a.dot ∷ v.front))) ++ w.0.1 =
    ap (λ x. t ∷ x) (a.whole ∙ (ap (λ x. a.front ++ (a.dot ∷ x)) v.whole ∙ sym (append_assoc a.front (a.dot ∷ v.front) w.0.1))) in
    subst (Found (suc n) k (t ∷ ts)) (ok_inj _ _ w.2) (record { front = t ∷ (a.front ++ (a.dot ∷ v.front)); derived = d_quantifier t a.dot q i a.named a.sign v.derived v.pred; high = le_means _ _ g.0; low = omega (arith, v.low); whole = all })

call_sound : (inner : Reader) (n : ℕ) → Sound inner n → (k : ℕ) (t : Token) (op : Call) → IsSign t (call_sign op) → (ts : List Token) (y : Part × List Token) → call_at inner k t op ts ≡ Ok y → Found (suc n) k (t ∷ ts) y
unfolding call_at
call_sound inner n s k t op i ts y e =
    let g = guard_ok (nat_le k (call_level op)) _ _ y e in
    let j = bind_ok (after_sign sign.LeftParenthesis ts) _ y g.1 in
    let w = bind_ok (inner (call_least op) j.0) _ y j.2 in
    let g2 = guard_ok (call_takes op (w.0.0).level) _ _ y w.2 in
    let l = bind_ok (after_sign sign.RightParenthesis w.0.1) _ y g2.1 in
    let a = after_sign_means sign.LeftParenthesis ts j.0 j.1 in
    let v = s (call_least op) j.0 w.0 w.1 in
    let b = after_sign_means sign.RightParenthesis w.0.1 l.0 l.1 in
    let all : t ∷ ts ≡ (t ∷ a.token ∷ (v.front ++ (b.token ∷ []))) ++ l.0 =
    ap (λ x. t ∷ x) (a.is ∙ ap (λ x. a.token ∷ x) (v.whole ∙ (ap (λ x. v.front ++ x) b.is ∙ sym (append_assoc v.front (b.token ∷ []) l.0)))) in
    subst (Found (suc n) k (t ∷ ts)) (ok_inj _ _ l.2) (record { front = t ∷ a.token ∷ (v.front ++ (b.token ∷ [])); derived = d_call t a.token b.token op i a.sign v.derived g2.0 b.sign; high = le_means _ _ g.0; low = omega (arith, v.low); whole = all })

parentheses_sound : (inner : Reader) (n : ℕ) → Sound inner n → (k : ℕ) (t : Token) → IsSign t sign.LeftParenthesis → (ts : List Token) (y : Part × List Token) → parentheses_at inner k t ts ≡ Ok y → Found (suc n) k (t ∷ ts) y
unfolding parentheses_at
parentheses_sound inner n s k t i ts y e =
    let w = bind_ok (inner level.pred ts) _ y e in
    let l = bind_ok (after_sign sign.RightParenthesis w.0.1) _ y w.2 in
    let g = guard_ok (nat_le k (bracketed t w.0.0).level) _ _ y l.2 in
    let v = s level.pred ts w.0 w.1 in
    let b = after_sign_means sign.RightParenthesis w.0.1 l.0 l.1 in
    let all : t ∷ ts ≡ (t ∷ (v.front ++ (b.token ∷ []))) ++ l.0 = ap (λ x. t ∷ x) (v.whole ∙ (ap (λ x. v.front ++ x) b.is ∙ sym (append_assoc v.front (b.token ∷ []) l.0))) in
    subst (Found (suc n) k (t ∷ ts)) (ok_inj _ _ g.1) (record { front = t ∷ (v.front ++ (b.token ∷ [])); derived = d_parentheses t b.token i v.derived b.sign; high = le_means _ _ g.0; low = omega (arith, v.low); whole = all })

-- a row of expressions
pub record FoundRow (n : ℕ) (ts : List Token) (y : List Ast × ℕ × List Token) : Type 0 where
  pub front : List Token
  pub derived : Exprs front y.0 y.1
  pub low : y.1 < n
  pub whole : ts ≡ front ++ y.2

abbrev pub listed : List Ast → ℕ → List Token → Listing
listed es h us = Ok (es, h, us)

row_on_sound : (n : ℕ) (go : List Token → Listing) → ((us : List Token) (z : List Ast × ℕ × List Token) → go us ≡ Ok z → FoundRow n us z)
    → (front : List Token) (p : Part) → Derives front p → IsTrue (is_expr p.level) → p.height < n
    → (ts : List Token) (y : List Ast × ℕ × List Token) → row_on go p ts ≡ Ok y → FoundRow n (front ++ ts) y
unfolding row_on
row_on_sound n go v front p d l h ts y e = by_comma (begins sign.Comma ts) refl e
  where
    by_comma : (c : Bool) → begins sign.Comma ts ≡ c → cond c (go (after_first ts) >>= λ x. listed (p.tree ∷ x.0) (max p.height x.1) x.2) (listed (p.tree ∷ []) p.height ts) ≡ Ok y → FoundRow n (front ++ ts) y
    by_comma false i e = subst (FoundRow n (front ++ ts)) (ok_inj _ _ e) (record { front = front; derived = e_last d l; low = h; whole = refl })
    by_comma true i e =
        let w = bind_ok (go (after_first ts)) (λ x. listed (p.tree ∷ x.0) (max p.height x.1) x.2) y e in
        let a = begins_means sign.Comma ts i in
        let f = v (after_first ts) w.0 w.1 in
        let all : front ++ ts ≡ (front ++ (a.token ∷ f.front)) ++ (w.0).2 =
        ap (λ x. front ++ x) (a.is ∙ ap (λ x. a.token ∷ x) f.whole) ∙ sym (append_assoc front (a.token ∷ f.front) (w.0).2) in
        subst (FoundRow n (front ++ ts)) (ok_inj _ _ w.2) (record { front = front ++ (a.token ∷ f.front); derived = e_more a.token d l a.sign f.derived; low = omega (arith, f.low); whole = all })

pub expr_true : (l : ℕ) → level.expr ≤ l → IsTrue (is_expr l)
expr_true l h = grind (arith, nat_tests)

row_sound : (inner : Reader) (n : ℕ) → Sound inner n → (m : ℕ) (ts : List Token) (y : List Ast × ℕ × List Token) → row inner m ts ≡ Ok y → FoundRow n ts y
unfolding row
row_sound inner n s zero ts y e = absurd cc
row_sound inner n s (suc m) ts y e =
    let w = bind_ok (inner level.expr ts) (λ x. row_on (row inner m) x.0 x.1) y e in
    let v = s level.expr ts w.0 w.1 in
    let r = row_on_sound n (row inner m) (row_sound inner n s m) v.front (w.0).0 v.derived (expr_true _ v.high) v.low (w.0).1 y w.2 in
    subst (λ x. FoundRow n x y) (sym v.whole) r

row_after_sound : (inner : Reader) (n : ℕ) → Sound inner n → (m : ℕ) (front : List Token) (p : Part) → Derives front p → level.expr ≤ p.level → p.height < n
    → (ts : List Token) (y : List Ast × ℕ × List Token) → row_after inner m p ts ≡ Ok y → FoundRow n (front ++ ts) y
unfolding row_after
row_after_sound inner n s m front p d l h ts y e = row_on_sound n (row inner m) (row_sound inner n s m) front p d (expr_true _ l) h ts y e

partition_sound : (inner : Reader) (n : ℕ) → Sound inner n → (k : ℕ) (t : Token) → IsSign t sign.Partition → (ts : List Token) (y : Part × List Token) → partition_at inner k t ts ≡ Ok y → Found (suc n) k (t ∷ ts) y
unfolding partition_at
partition_sound inner n s k t i ts y e =
    let g = guard_ok (nat_le k level.lit) _ _ y e in
    let j = bind_ok (after_sign sign.LeftParenthesis ts) _ y g.1 in
    let w = bind_ok (inner level.expr j.0) _ y j.2 in
    let r = bind_ok (row_after inner (length w.0.1) w.0.0 w.0.1) _ y w.2 in
    let l = bind_ok (after_sign sign.RightParenthesis r.0.2) _ y r.2 in
    let a = after_sign_means sign.LeftParenthesis ts j.0 j.1 in
    let v = s level.expr j.0 w.0 w.1 in
    let f = row_after_sound inner n s (length w.0.1) v.front w.0.0 v.derived v.high v.low w.0.1 r.0 r.1 in
    let b = after_sign_means sign.RightParenthesis r.0.2 l.0 l.1 in
    let all : t ∷ ts ≡ (t ∷ a.token ∷ (f.front ++ (b.token ∷ []))) ++ l.0 =
    ap (λ x. t ∷ x) (a.is ∙ ap (λ x. a.token ∷ x) (v.whole ∙ (f.whole ∙ (ap (λ x. f.front ++ x) b.is ∙ sym (append_assoc f.front (b.token ∷ []) l.0))))) in
    subst (Found (suc n) k (t ∷ ts)) (ok_inj _ _ l.2) (record { front = t ∷ a.token ∷ (f.front ++ (b.token ∷ [])); derived = d_partition t a.token b.token i a.sign f.derived b.sign; high = le_means _ _ g.0; low = omega (arith, f.low); whole = all })

pub record FoundBody (n : ℕ) (ts : List Token) (y : Part × Part × List Token) : Type 0 where
  pub condition : List Token
  pub holds : Derives condition y.0
  pub pred : IsTrue (is_pred (y.0).level)
  pub bar : Token
  pub sign : IsSign bar sign.Bar
  pub value : List Token
  pub derived : Derives value y.1
  pub expr : IsTrue (is_expr (y.1).level)
  pub high : (y.0).height < n
  pub low : (y.1).height < n
  pub whole : ts ≡ condition ++ (bar ∷ (value ++ y.2))

abbrev pub bodied : Part → Part → List Token → Result (Part × Part × List Token) Fault
bodied p q us = Ok (p, q, us)

body_sound : (inner : Reader) (n : ℕ) → Sound inner n → (ts : List Token) (y : Part × Part × List Token) → body inner ts ≡ Ok y → FoundBody n ts y
unfolding body
body_sound inner n s ts y e =
    let w = bind_ok (predicate inner ts) (λ x. after_sign sign.Bar x.1 >>= λ us. inner level.expr us >>= λ z. bodied x.0 z.0 z.1) y e in
    let j = bind_ok (after_sign sign.Bar (w.0).1) (λ us. inner level.expr us >>= λ z. bodied (w.0).0 z.0 z.1) y w.2 in
    let r = bind_ok (inner level.expr j.0) (λ z. bodied (w.0).0 z.0 z.1) y j.2 in
    let v = predicate_sound inner n s ts w.0 w.1 in
    let a = after_sign_means sign.Bar (w.0).1 j.0 j.1 in
    let f = s level.expr j.0 r.0 r.1 in
    let all : ts ≡ v.front ++ (a.token ∷ (f.front ++ (r.0).1)) = v.whole ∙ ap (λ x. v.front ++ x) (a.is ∙ ap (λ x. a.token ∷ x) f.whole) in
    subst (FoundBody n ts) (ok_inj _ _ r.2) (record { condition = v.front; holds = v.derived; pred = v.pred; bar = a.token; sign = a.sign; value = f.front; derived = f.derived; expr = expr_true _ f.high; high = v.low; low = f.low; whole = all })

-- tokens in a row of parts
pub three : (is ts us end : List Token) (d b : Token) → is ++ (d ∷ (ts ++ (b ∷ (us ++ end)))) ≡ (is ++ (d ∷ (ts ++ (b ∷ us)))) ++ end
three is ts us end d b = simp append_assoc refl

binder_sound : (inner : Reader) (n : ℕ) → Sound inner n → (k : ℕ) (t : Token) (op : Binder) → IsSign t (binder_sign op) → (ts : List Token) (y : Part × List Token) → binder_at inner k t op ts ≡ Ok y → Found (suc n) k (t ∷ ts) y
unfolding binder_at
binder_sound inner n s k t op i ts y e =
    let g = guard_ok (nat_le k level.expr) _ _ y e in
    let j = bind_ok (binding op ts) _ y g.1 in
    let w = bind_ok (body inner j.0.1) _ y j.2 in
    let a = binding_sound op ts j.0 j.1 in
    let v = body_sound inner n s j.0.1 w.0 w.1 in
    let all : t ∷ ts ≡ (t ∷ (a.front ++ (a.dot ∷ (v.condition ++ (v.bar ∷ v.value))))) ++ w.0.2 =
    ap (λ x. t ∷ x) (a.whole ∙ (ap (λ x. a.front ++ (a.dot ∷ x)) v.whole ∙ three a.front v.condition v.value w.0.2 a.dot v.bar)) in
    subst (Found (suc n) k (t ∷ ts)) (ok_inj _ _ w.2) (record { front = t ∷ (a.front ++ (a.dot ∷ (v.condition ++ (v.bar ∷ v.value)))); derived = d_binder t a.dot v.bar op i a.bound a.sign v.holds v.pred v.sign v.derived v.expr; high = le_means _ _ g.0; low = omega (arith, v.low, v.high); whole = all })

pub four : (is ts us end : List Token) (d b c : Token) → is ++ (d ∷ (ts ++ (b ∷ (us ++ (c ∷ end))))) ≡ (is ++ (d ∷ (ts ++ (b ∷ (us ++ (c ∷ [])))))) ++ end
four is ts us end d b c = simp append_assoc refl

comprehension_sound : (inner : Reader) (n : ℕ) → Sound inner n → (k : ℕ) → k ≤ level.prim → (t : Token) → IsSign t sign.LeftBrace → (is : List Token) (xs : List Identifier) → Names is xs → (dot : Token) → IsSign dot sign.Dot
    → (ts : List Token) (y : Part × List Token) → comprehension_at inner t xs ts ≡ Ok y → Found (suc n) k (t ∷ (is ++ (dot ∷ ts))) y
unfolding comprehension_at
comprehension_sound inner n s k h t i is xs d dot o ts y e =
    let w = bind_ok (body inner ts) _ y e in
    let l = bind_ok (after_sign sign.RightBrace w.0.2) _ y w.2 in
    let v = body_sound inner n s ts w.0 w.1 in
    let b = after_sign_means sign.RightBrace w.0.2 l.0 l.1 in
    let all : t ∷ (is ++ (dot ∷ ts)) ≡ (t ∷ (is ++ (dot ∷ (v.condition ++ (v.bar ∷ (v.value ++ (b.token ∷ []))))))) ++ l.0 =
    ap (λ x. t ∷ x) (ap (λ x. is ++ (dot ∷ x)) (v.whole ∙ ap (λ x. v.condition ++ (v.bar ∷ (v.value ++ x))) b.is) ∙ four is v.condition v.value l.0 dot v.bar b.token) in
    subst (Found (suc n) k (t ∷ (is ++ (dot ∷ ts)))) (ok_inj _ _ l.2) (record { front = t ∷ (is ++ (dot ∷ (v.condition ++ (v.bar ∷ (v.value ++ (b.token ∷ [])))))); derived = d_comprehension t dot v.bar b.token i d o v.holds v.pred v.sign v.derived v.expr b.sign; high = h; low = omega (arith, v.low, v.high); whole = all })

pub two : (ts us end : List Token) (b c : Token) → ts ++ (b ∷ (us ++ (c ∷ end))) ≡ (ts ++ (b ∷ (us ++ (c ∷ [])))) ++ end
two ts us end b c = simp append_assoc refl

builder_sound : (inner : Reader) (n : ℕ) → Sound inner n → (k : ℕ) → k ≤ level.prim → (t : Token) → IsSign t sign.LeftBrace → (front : List Token) (p : Part) → Derives front p → level.expr ≤ p.level → p.height < n → (bar : Token) → IsSign bar sign.Bar
    → (ts : List Token) (y : Part × List Token) → builder_at inner t p ts ≡ Ok y → Found (suc n) k (t ∷ (front ++ (bar ∷ ts))) y
unfolding builder_at
builder_sound inner n s k h t i front p d x z bar o ts y e =
    let w = bind_ok (predicate inner ts) _ y e in
    let l = bind_ok (after_sign sign.RightBrace w.0.1) _ y w.2 in
    let v = predicate_sound inner n s ts w.0 w.1 in
    let b = after_sign_means sign.RightBrace w.0.1 l.0 l.1 in
    let all : t ∷ (front ++ (bar ∷ ts)) ≡ (t ∷ (front ++ (bar ∷ (v.front ++ (b.token ∷ []))))) ++ l.0 =
    ap (λ x. t ∷ x) (ap (λ x. front ++ (bar ∷ x)) (v.whole ∙ ap (λ x. v.front ++ x) b.is) ∙ two front v.front l.0 bar b.token) in
    subst (Found (suc n) k (t ∷ (front ++ (bar ∷ ts)))) (ok_inj _ _ l.2) (record { front = t ∷ (front ++ (bar ∷ (v.front ++ (b.token ∷ [])))); derived = d_builder t bar b.token i d (expr_true _ x) o v.derived v.pred b.sign; high = h; low = omega (arith, v.low); whole = all })

extension_sound : (inner : Reader) (n : ℕ) → Sound inner n → (k : ℕ) → k ≤ level.prim → (t : Token) → IsSign t sign.LeftBrace → (front : List Token) (p : Part) → Derives front p → level.expr ≤ p.level → p.height < n
    → (ts : List Token) (y : Part × List Token) → extension_at inner t p ts ≡ Ok y → Found (suc n) k (t ∷ (front ++ ts)) y
unfolding extension_at
extension_sound inner n s k h t i front p d x z ts y e =
    let w = bind_ok (row_after inner (length ts) p ts) _ y e in
    let l = bind_ok (after_sign sign.RightBrace w.0.2) _ y w.2 in
    let f = row_after_sound inner n s (length ts) front p d x z ts w.0 w.1 in
    let b = after_sign_means sign.RightBrace w.0.2 l.0 l.1 in
    let all : t ∷ (front ++ ts) ≡ (t ∷ (f.front ++ (b.token ∷ []))) ++ l.0 = ap (λ x. t ∷ x) (f.whole ∙ (ap (λ x. f.front ++ x) b.is ∙ sym (append_assoc f.front (b.token ∷ []) l.0))) in
    subst (Found (suc n) k (t ∷ (front ++ ts))) (ok_inj _ _ l.2) (record { front = t ∷ (f.front ++ (b.token ∷ [])); derived = d_extension t b.token i f.derived b.sign; high = h; low = omega (arith, f.low); whole = all })

members_sound : (inner : Reader) (n : ℕ) → Sound inner n → (k : ℕ) → k ≤ level.prim → (t : Token) → IsSign t sign.LeftBrace → (ts : List Token) (y : Part × List Token) → members_at inner t ts ≡ Ok y → Found (suc n) k (t ∷ ts) y
unfolding members_at
members_sound inner n s k h t i ts y e = by_first (bind_ok (inner level.expr ts) (λ x. cond (begins sign.Bar x.1) (builder_at inner t x.0 (after_first x.1)) (extension_at inner t x.0 x.1)) y e)
  where
    by_bar : (p : Part) (us front : List Token) → Derives front p → level.expr ≤ p.level → p.height < n → (c : Bool) → begins sign.Bar us ≡ c
        → cond c (builder_at inner t p (after_first us)) (extension_at inner t p us) ≡ Ok y → Found (suc n) k (t ∷ (front ++ us)) y
    by_bar p us front d l z true j e =
        let a = begins_means sign.Bar us j in
        subst (λ x. Found (suc n) k (t ∷ (front ++ x)) y) (sym a.is) (builder_sound inner n s k h t i front p d l z a.token a.sign (after_first us) y e)
    by_bar p us front d l z false j e = extension_sound inner n s k h t i front p d l z us y e

    by_first : (x : Part × List Token) × (inner level.expr ts ≡ Ok x) × (cond (begins sign.Bar x.1) (builder_at inner t x.0 (after_first x.1)) (extension_at inner t x.0 x.1) ≡ Ok y) → Found (suc n) k (t ∷ ts) y
    by_first w =
        let v = s level.expr ts w.0 w.1 in
        subst (λ x. Found (suc n) k (t ∷ x) y) (sym v.whole) (by_bar (w.0).0 (w.0).1 v.front v.derived v.high v.low (begins sign.Bar (w.0).1) refl w.2)

brace_by_sound : (inner : Reader) (n : ℕ) → Sound inner n → (k : ℕ) → k ≤ level.prim → (t : Token) → IsSign t sign.LeftBrace → (ts : List Token) (r : Result (List Identifier × List Token) Fault) → names (length ts) ts ≡ r
    → (y : Part × List Token) → brace_by inner t ts r ≡ Ok y → Found (suc n) k (t ∷ ts) y
brace_by_sound inner n s k h t i ts (Ok x) j y e =
    let a = names_sound (length ts) ts x j in
    subst (λ z. Found (suc n) k (t ∷ z) y) (sym a.whole) (comprehension_sound inner n s k h t i a.front x.0 a.named a.dot a.sign x.1 y e)
brace_by_sound inner n s k h t i ts (Err f) j y e = by_end (begins sign.RightBrace ts) refl e
  where
    by_end : (c : Bool) → begins sign.RightBrace ts ≡ c → cond c (reading (empty_braces t) (after_first ts)) (members_at inner t ts) ≡ Ok y → Found (suc n) k (t ∷ ts) y
    by_end true q e =
        let a = begins_means sign.RightBrace ts q in
        subst (Found (suc n) k (t ∷ ts)) (ok_inj _ _ e) (record { front = t ∷ a.token ∷ []; derived = d_empty t a.token i a.sign; high = h; low = omega arith; whole = ap (λ x. t ∷ x) a.is })
    by_end false q e = members_sound inner n s k h t i ts y e

brace_sound : (inner : Reader) (n : ℕ) → Sound inner n → (k : ℕ) (t : Token) → IsSign t sign.LeftBrace → (ts : List Token) (y : Part × List Token) → brace_at inner k t ts ≡ Ok y → Found (suc n) k (t ∷ ts) y
unfolding brace_at
brace_sound inner n s k t i ts y e =
    let g = guard_ok (nat_le k level.prim) (brace_by inner t ts (names (length ts) ts)) Syntax y e in
    brace_by_sound inner n s k (le_means _ _ g.0) t i ts (names (length ts) ts) refl y g.1

begun_sound : (inner : Reader) (n : ℕ) → Sound inner n → (k : ℕ) (t : Token) (sg : Sign) → IsSign t sg → (ts : List Token) (x : Start) → start_of sg ≡ x → (y : Part × List Token) → begun_by inner k t ts x ≡ Ok y → Found (suc n) k (t ∷ ts) y
begun_sound inner n s k t sg i ts (start.Constant c) m y e = leaf_sound n k (leaf (constant_level c) (tree.constant t.start c)) t ts y (d_constant t c (i ∙ ap kind.Sign (start_means sg (start.Constant c) m))) refl e
begun_sound inner n s k t sg i ts (start.Prefix op) m y e = prefix_sound inner n s k t op (i ∙ ap kind.Sign (start_means sg (start.Prefix op) m)) ts y e
begun_sound inner n s k t sg i ts (start.Quantifier q) m y e = quantifier_sound inner n s k t q (i ∙ ap kind.Sign (start_means sg (start.Quantifier q) m)) ts y e
begun_sound inner n s k t sg i ts (start.Binder op) m y e = binder_sound inner n s k t op (i ∙ ap kind.Sign (start_means sg (start.Binder op) m)) ts y e
begun_sound inner n s k t sg i ts (start.Call op) m y e = call_sound inner n s k t op (i ∙ ap kind.Sign (start_means sg (start.Call op) m)) ts y e
begun_sound inner n s k t sg i ts start.Partition m y e = partition_sound inner n s k t (i ∙ ap kind.Sign (start_means sg start.Partition m)) ts y e
begun_sound inner n s k t sg i ts start.Parenthesis m y e = parentheses_sound inner n s k t (i ∙ ap kind.Sign (start_means sg start.Parenthesis m)) ts y e
begun_sound inner n s k t sg i ts start.Brace m y e = brace_sound inner n s k t (i ∙ ap kind.Sign (start_means sg start.Brace m)) ts y e
begun_sound inner n s k t sg i ts start.Other m y e = absurd cc

primary_by_sound : (inner : Reader) (n : ℕ) → Sound inner n → (k : ℕ) (t : Token) (ts : List Token) (x : TokenKind) → t.kind ≡ x → (y : Part × List Token) → primary_by inner k t ts x ≡ Ok y → Found (suc n) k (t ∷ ts) y
primary_by_sound inner n s k t ts (kind.Word x) i y e = leaf_sound n k (leaf level.prim (tree.identifier t.start x)) t ts y (d_identifier t x i) refl e
primary_by_sound inner n s k t ts (kind.Primed x) i y e = leaf_sound n k (leaf level.prim (tree.primed t.start x)) t ts y (d_primed t x i) refl e
primary_by_sound inner n s k t ts (kind.Label x) i y e = absurd cc
primary_by_sound inner n s k t ts (kind.Number x) i y e = leaf_sound n k (leaf level.prim (tree.number t.start x)) t ts y (d_number t x i) refl e
primary_by_sound inner n s k t ts (kind.Sign x) i y e = begun_sound inner n s k t x i ts (start_of x) refl y e

pub primary_sound : (inner : Reader) (n : ℕ) → Sound inner n → (k : ℕ) (ts : List Token) (y : Part × List Token) → primary inner k ts ≡ Ok y → Found (suc n) k ts y
primary_sound inner n s k [] y e = absurd cc
primary_sound inner n s k (t ∷ ts) y e = primary_by_sound inner n s k t ts t.kind refl y e

regrouped : (front ts rest us after c end : List Token) (t : Token) → ts ≡ t ∷ rest → rest ≡ us ++ after → after ≡ c ++ end → front ++ ts ≡ (front ++ (t ∷ (us ++ c))) ++ end
regrouped front ts rest us after c end t e1 e2 e3 =
    ap (λ x. front ++ x) (e1 ∙ ap (λ x. t ∷ x) (e2 ∙ ap (λ x. us ++ x) e3)) ∙ simp append_assoc refl

-- what goes on with a formula
pub turn_sound : (inner : Reader) (n : ℕ) → Sound inner n → (k : ℕ) (front : List Token) (p : Part) → Derives front p → p.height < n
    → (ts : List Token) (f : Follow) → GoesOn k p ts f → (z : Part × List Token) → turn inner p f (after_first ts) ≡ Ok z → Found (suc n) k (front ++ ts) z
unfolding turn operand_at
turn_sound inner n s k front p d h ts follow.Inverse g z e =
    let all : front ++ ts ≡ (front ++ (g.token ∷ [])) ++ after_first ts = ap (λ x. front ++ x) g.is ∙ sym (append_assoc front (g.token ∷ []) (after_first ts)) in
    subst (Found (suc n) k (front ++ ts)) (ok_inj _ _ e) (record { front = front ++ (g.token ∷ []); derived = d_inverse g.token d g.fits g.closed g.sign; high = g.high; low = omega arith; whole = all })
turn_sound inner n s k front p d h ts (follow.Operator op) g z e =
    let q = bind_ok (operand_at inner op (after_first ts)) (joins op p) z e in
    let w = bind_ok (inner (right_of (group_of op)) (after_first ts)) _ q.0 q.1 in
    let g2 = guard_ok (takes (group_of op) (w.0.0).level) _ _ q.0 w.2 in
    let j = bind_ok (after_closing (closing_sign op) w.0.1) (λ us. reading w.0.0 us) q.0 g2.1 in
    let v = s (right_of (group_of op)) (after_first ts) w.0 w.1 in
    let c = closing_means (closing_sign op) w.0.1 j.0 j.1 in
    let all = regrouped front ts (after_first ts) v.front w.0.1 c.signs j.0 g.token g.is v.whole c.is in
    let same : (w.0.0, j.0) ≡ q.0 = ok_inj _ _ j.2 in
    let r : Found (suc n) k (front ++ ts) (joined op p w.0.0, j.0) = record { front = front ++ (g.token ∷ (v.front ++ c.signs)); derived = d_operator g.token op c.signs d g.fits g.closed g.sign v.derived g2.0 c.closes; high = g.high; low = omega (arith, v.low); whole = all } in
    subst (Found (suc n) k (front ++ ts)) (ap (λ x. (joined op p x.0, x.1)) same ∙ ok_inj _ _ q.2) r

abbrev Climbs : (Part → List Token → Reading) → ℕ → ℕ → Type 0
Climbs go n k = (front ts : List Token) (p : Part) → Derives front p → k ≤ p.level → p.height ≤ n → (y : Part × List Token) → go p ts ≡ Ok y → Found (suc n) k (front ++ ts) y

stays : (n k : ℕ) (front ts : List Token) (p : Part) → Derives front p → k ≤ p.level → p.height ≤ n → (y : Part × List Token) → (p, ts) ≡ y → Found (suc n) k (front ++ ts) y
stays n k front ts p d l h y e = subst (Found (suc n) k (front ++ ts)) e (record { front = front; derived = d; high = l; low = omega arith; whole = refl })

resume_sound : (n k : ℕ) (go : Part → List Token → Reading) → Climbs go n k → (front ts : List Token) (p : Part) → Derives front p → k ≤ p.level → p.height ≤ n
    → (r : Reading) → ((z : Part × List Token) → r ≡ Ok z → Found (suc n) k (front ++ ts) z)
    → (y : Part × List Token) → resume go p ts r ≡ Ok y → Found (suc n) k (front ++ ts) y
resume_sound n k go s front ts p d l h (Ok x) v y e =
    let w = v x refl in
    let q = s w.front x.1 x.0 w.derived w.high (omega (arith, w.low)) y e in
    subst (λ z. Found (suc n) k z y) (sym w.whole) q
resume_sound n k go s front ts p d l h (Err Syntax) v y e = stays n k front ts p d l h y (ok_inj _ _ e)
resume_sound n k go s front ts p d l h (Err TooDeep) v y e = absurd cc

go_on_sound : (inner : Reader) (n : ℕ) → Sound inner n → (k : ℕ) (go : Part → List Token → Reading) → Climbs go n k
    → (front ts : List Token) (p : Part) → Derives front p → k ≤ p.level → p.height ≤ n
    → (o : Option Follow) → next_follow k p (head_follow ts) ≡ o
    → (y : Part × List Token) → go_on go inner n p ts o ≡ Ok y → Found (suc n) k (front ++ ts) y
go_on_sound inner n s k go c front ts p d l h None q y e = stays n k front ts p d l h y (ok_inj _ _ e)
go_on_sound inner n s k go c front ts p d l h (Some f) q y e =
    let g = next_some k p ts f q in
    let w = guard_ok (nat_lt p.height n) (resume go p ts (turn inner p f (after_first ts))) TooDeep y e in
    let low : p.height < n = grind (arith, nat_tests) in
    resume_sound n k go c front ts p d l h (turn inner p f (after_first ts)) (λ z i. turn_sound inner n s k front p d low ts f g z i) y w.1

stop_sound : (n k : ℕ) (front ts : List Token) (p : Part) → Derives front p → k ≤ p.level → p.height ≤ n
    → (o : Option Follow) → (y : Part × List Token) → stop p ts o ≡ Ok y → Found (suc n) k (front ++ ts) y
stop_sound n k front ts p d l h None y e = stays n k front ts p d l h y (ok_inj _ _ e)
stop_sound n k front ts p d l h (Some f) y e = absurd cc

climb_sound : (inner : Reader) (n : ℕ) → Sound inner n → (k m : ℕ) → Climbs (climb inner n k m) n k
unfolding climb
climb_sound inner n s k zero front ts p d l h y e = stop_sound n k front ts p d l h (next_follow k p (head_follow ts)) y e
climb_sound inner n s k (suc m) front ts p d l h y e =
    go_on_sound inner n s k (climb inner n k m) (climb_sound inner n s k m) front ts p d l h (next_follow k p (head_follow ts)) refl y e

pub read_sound : (n : ℕ) → Sound (read n) n
unfolding read
read_sound zero k ts y e = absurd cc
read_sound (suc n) k ts y e =
    let w = bind_ok (primary (read n) k ts) (λ x. climb (read n) n k n x.0 x.1) y e in
    let v = primary_sound (read n) n (read_sound n) k ts w.0 w.1 in
    let r = climb_sound (read n) n (read_sound n) k n v.front (w.0).1 (w.0).0 v.derived v.high (omega (arith, v.low)) y w.2 in
    subst (λ z. Found (suc n) k z y) (sym v.whole) r
