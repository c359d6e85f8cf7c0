-- What is a formula is read.
use Rattle.std.proofs.Common.{◌≡◌, ◌∙◌, ◌⊎◌, inl, inr, ◌≤◌, ◌<◌, ◌+◌, ℕ, zero, suc, max, min, Bool, true, false, List, [], ◌∷◌, ◌++◌, length, refl, sym, ap, subst, arith, IsTrue, append_assoc, length-append}
use Rattle.std.specs.Prelude.{Option, Some, None, Result, Ok, Err, nat_le, nat_lt}
use Rattle.std.proofs.lemmas.Bool.Decides.{nat_tests}
use Rattle.eb_signs.specs.declared.sign.Sign.{Sign}
use Rattle.eb_signs.specs.declared.sign.Sign.TheVariants as sign
use Rattle.eb_lexer.specs.declared.token.Token.{Token}
use Rattle.eb_syntax.specs.declared.ast.Ast.{Ast}
use Rattle.eb_syntax.specs.declared.ast.Prefix.{Prefix}
use Rattle.eb_syntax.specs.declared.ast.Call.{Call}
use Rattle.eb_syntax.specs.declared.ast.Call.TheVariants as call
use Rattle.eb_syntax.specs.declared.ast.Operator.{Operator}
use Rattle.eb_syntax.specs.declared.ast.Operator.TheVariants as op
use Rattle.eb_syntax.specs.declared.ast.Quantifier.{Quantifier}
use Rattle.eb_syntax.specs.declared.ast.Binder.{Binder}
use Rattle.eb_syntax.specs.declared.ast.Bound.{Bound}
use Rattle.eb_syntax.specs.declared.ast.Identifier.{Identifier}
use Rattle.eb_syntax.specs.Asts as tree
use Rattle.eb_parser.specs.declared.part.Part.{Part}
use Rattle.eb_parser.specs.declared.fault.Fault.{Fault}
use Rattle.eb_parser.specs.declared.fault.Fault.TheVariants.{Syntax, TooDeep}
use Rattle.eb_signs.specs.declared.levels.Group.TheVariants as g
use Rattle.eb_parser.specs.declared.table.Start.{Start}
use Rattle.eb_parser.specs.declared.table.Start.TheVariants as start
use Rattle.eb_parser.specs.declared.table.Follow.{Follow}
use Rattle.eb_parser.specs.declared.table.Follow.TheVariants as follow
use Rattle.eb_signs.specs.Levels as level
use Rattle.eb_signs.specs.Levels.{is_pred, is_expr, group_of, level_of, admits, right_of, takes, constant_level, prefix_level, prefix_takes, call_level, call_takes}
use Rattle.eb_parser.specs.Signs.{IsSign, is_sign, constant_sign, prefix_sign, call_sign, quantifier_sign, binder_sign, closing_sign}
use Rattle.eb_signs.specs.Signs.{same_sign}
use Rattle.eb_parser.specs.Grammar.{Derives, Exprs, Names, Binding, d_number, d_identifier, d_primed, d_constant, d_prefix, d_quantifier, d_call, d_partition, d_parentheses, d_binder, d_empty, d_extension, d_comprehension, d_builder, d_inverse, d_operator, e_last, e_more, Closes, leaf, prefixed, called, bracketed, inverted, joined, quantified, bound_by, comprehended, built, empty_braces, extended, partitioned}
use Rattle.eb_parser.specs.steps.Tables.{start_of, follow_of, follow_kind, head_follow, row_of}
use Rattle.eb_parser.specs.steps.Climbing.{Reader, begins, after_sign, after_closing, separator, names, leaf_at, prefix_at, predicate, quantifier_at, call_least, call_at, parentheses_at, row_on, row, row_after, partition_at, body, binder_at, comprehension_at, builder_at, extension_at, members_at, brace_by, brace_at, begun_by, primary_by, primary, goes_on, next_follow, operand_at, turn, resume, climb, read}
use Rattle.eb_parser.proofs.SignLaws.{sign_is, sign_other, follow_sign, follows_sign, constant_starts, prefix_starts, quantifier_starts, binder_starts, call_starts}
use Rattle.eb_parser.proofs.Steps.{ok, after_sign_ok}
use Rattle.eb_parser.proofs.NameLaws.{names_ok, binding_ok}
use Rattle.eb_parser.proofs.Edges.{edge_after, edge, Stops, firm, takes_high, prefix_high, expr_high, admitted, stops_less, follow_stops, sign_stops}
use Rattle.eb_parser.proofs.Openings.{opens, no_names, apart_names, row_no_names, not_closed, row_not_closed}
use Rattle.eb_parser.proofs.Equations.{climb_turn, climb_full, climb_stops}

pub le_true : (a c : ℕ) → a ≤ c → nat_le a c ≡ true
le_true a c h = grind (arith, nat_tests)

not_on : (k : ℕ) (p : Part) (f : Follow) → level_of (row_of f) < k → goes_on k p f ≡ false
not_on k p f h = grind (arith, nat_tests)

stops_next : (k : ℕ) (p : Part) (o : Option Follow) → ((f : Follow) → o ≡ Some f → level_of (row_of f) < k) → next_follow k p o ≡ None
stops_next k p None s = refl
stops_next k p (Some f) s = rw (not_on k p f (s f refl)) refl

climb_end : (inner : Reader) (n k m : ℕ) (p : Part) (rest : List Token) → Stops k rest → climb inner n k m p rest ≡ Ok (p, rest)
climb_end inner n k m p rest s = climb_stops inner n k m p rest (stops_next k p (head_follow rest) s)

-- After the tokens of a formula the reader stands in its loop, with the formula as it is; or it is too high.
pub record Goes (n k : ℕ) (ts rest : List Token) (p : Part) : Type 0 where
  pub turns : ℕ
  pub enough : n ≤ turns + p.height
  pub low : p.height ≤ n
  pub is : read (suc n) k ts ≡ climb (read n) n k turns p rest

pub record Deep (n k : ℕ) (ts : List Token) (p : Part) : Type 0 where
  pub high : n ≤ p.height
  pub is : read n k ts ≡ Err TooDeep

abbrev pub Exact : ℕ → ℕ → List Token → List Token → Part → Type 0
Exact zero k ts rest p = Unit {0}
Exact (suc n) k ts rest p = Goes n k ts rest p ⊎ Deep (suc n) k ts p

pub record Whole (n k : ℕ) (ts rest : List Token) (p : Part) : Type 0 where
  pub low : p.height < n
  pub is : read n k ts ≡ Ok (p, rest)

abbrev pub Operand : ℕ → ℕ → List Token → List Token → Part → Type 0
Operand n k ts rest p = Whole n k ts rest p ⊎ Deep n k ts p

pub operand : (n k : ℕ) (ts rest : List Token) (p : Part) → Stops k rest → Exact n k ts rest p → Operand n k ts rest p
unfolding read
operand zero k ts rest p s x = inr (record { high = omega arith; is = refl })
operand (suc n) k ts rest p s (inl g) = inl (record { low = omega (arith, g.low); is = g.is ∙ climb_end (read n) n k g.turns p rest s })
operand (suc n) k ts rest p s (inr d) = inr d

by_room : (n k : ℕ) (ts rest : List Token) (p : Part) → ((m : ℕ) → Exact (suc m) k ts rest p) → Exact n k ts rest p
by_room zero k ts rest p x = tt
by_room (suc n) k ts rest p x = x n

-- what the reader makes of a formula without what goes on with it
pub record Made (n k : ℕ) (ts rest : List Token) (p : Part) : Type 0 where
  pub low : p.height ≤ n
  pub is : primary (read n) k ts ≡ Ok (p, rest)

pub record Sunk (n k : ℕ) (ts : List Token) (p : Part) : Type 0 where
  pub high : n < p.height
  pub is : primary (read n) k ts ≡ Err TooDeep

abbrev pub Primary : ℕ → ℕ → List Token → List Token → Part → Type 0
Primary n k ts rest p = Made n k ts rest p ⊎ Sunk n k ts p

begun : (n k : ℕ) (ts rest : List Token) (p : Part) → Primary n k ts rest p → Exact (suc n) k ts rest p
unfolding read
begun n k ts rest p (inl m) = inl (record { turns = n; enough = omega arith; low = m.low; is = rw m.is refl })
begun n k ts rest p (inr m) = inr (record { high = omega (arith, m.high); is = rw m.is refl })

abbrev pub ExactAll : List Token → Part → ℕ → Type 0
ExactAll ts p e = (n k : ℕ) (rest : List Token) → k ≤ p.level → Stops e rest → Exact n k (ts ++ rest) rest p

-- the same for what no operator is taken inside of
abbrev pub PrimaryAll : List Token → Part → ℕ → Type 0
PrimaryAll ts p e = (n k : ℕ) (rest : List Token) → k ≤ p.level → Stops e rest → Primary n k (ts ++ rest) rest p

exact_all : (ts : List Token) (p : Part) (e : ℕ) → PrimaryAll ts p e → ExactAll ts p e
exact_all ts p e x n k rest h s = by_room n k _ rest _ (λ m. begun m k (ts ++ rest) rest p (x m k rest h s))

-- an operand before what stops it
pub operand_of : (ts : List Token) (p : Part) (e : ℕ) → ExactAll ts p e → (n k : ℕ) (rest : List Token) → k ≤ p.level → Stops k rest → Stops e rest → Operand n k (ts ++ rest) rest p
operand_of ts p e x n k rest h s i = operand n k (ts ++ rest) rest p s (x n k rest h i)

after_operand : (n k j : ℕ) (ts rest us after : List Token) (p q : Part) → q.height ≡ p.height + 1 → Operand n j us after p
    → (read n j us ≡ Ok (p, after) → primary (read n) k ts ≡ Ok (q, rest))
    → (read n j us ≡ Err TooDeep → primary (read n) k ts ≡ Err TooDeep)
    → Primary n k ts rest q
after_operand n k j ts rest us after p q h (inl w) f g = inl (record { low = omega (arith, w.low); is = f w.is })
after_operand n k j ts rest us after p q h (inr w) f g = inr (record { high = omega (arith, w.high); is = g w.is })

same_tokens : (n k : ℕ) (us vs rest : List Token) (p : Part) → us ≡ vs → Primary n k vs rest p → Primary n k us rest p
same_tokens n k us vs rest p e x = subst (λ z. Primary n k z rest p) (sym e) x

-- a sign begins so
pub begins_so : (inner : Reader) (k : ℕ) (t : Token) (sg : Sign) (us : List Token) (x : Start) → IsSign t sg → start_of sg ≡ x → primary inner k (t ∷ us) ≡ begun_by inner k t us x
begins_so inner k t sg us x i h = ap (primary_by inner k t us) i ∙ ap (begun_by inner k t us) h

-- signs that close: nothing goes on with a formula before them
pub record Shut (rest : List Token) : Type 0 where
  pub stops : (e : ℕ) → Stops e rest
  pub comma : begins sign.Comma rest ≡ false
  pub bar : begins sign.Bar rest ≡ false
  pub names : separator rest ≡ Err Syntax

pub parenthesis_shuts : (t : Token) (rest : List Token) → IsSign t sign.RightParenthesis → Shut (t ∷ rest)
unfolding same_sign separator
parenthesis_shuts t rest i =
    let a = sign_other sign.RightParenthesis sign.Comma t i refl in
    let b = sign_other sign.RightParenthesis sign.Dot t i refl in
    record { stops = λ e. sign_stops sign.RightParenthesis t e rest i refl; comma = a; bar = sign_other sign.RightParenthesis sign.Bar t i refl; names = rw (a, b) refl }

pub brace_shuts : (t : Token) (rest : List Token) → IsSign t sign.RightBrace → Shut (t ∷ rest)
unfolding same_sign separator
brace_shuts t rest i =
    let a = sign_other sign.RightBrace sign.Comma t i refl in
    let b = sign_other sign.RightBrace sign.Dot t i refl in
    record { stops = λ e. sign_stops sign.RightBrace t e rest i refl; comma = a; bar = sign_other sign.RightBrace sign.Bar t i refl; names = rw (a, b) refl }

bar_apart : (t : Token) (rest : List Token) → IsSign t sign.Bar → separator (t ∷ rest) ≡ Err Syntax
unfolding same_sign separator
bar_apart t rest i = rw (sign_other sign.Bar sign.Comma t i refl, sign_other sign.Bar sign.Dot t i refl) refl

comma_bar : (t : Token) → IsSign t sign.Comma → is_sign sign.Bar t ≡ false
unfolding same_sign
comma_bar t i = sign_other sign.Comma sign.Bar t i refl

leaf_ok : (k : ℕ) (p : Part) (ts : List Token) → k ≤ p.level → leaf_at k p ts ≡ Ok (p, ts)
unfolding leaf_at
leaf_ok k p ts h = rw (le_true k p.level h) refl

leaf_made : (n k : ℕ) (t : Token) (rest : List Token) (p : Part) → p.height ≡ 0 → k ≤ p.level → primary (read n) k (t ∷ rest) ≡ leaf_at k p rest → Primary n k (t ∷ rest) rest p
leaf_made n k t rest p z h e = inl (record { low = omega arith; is = e ∙ leaf_ok k p rest h })

-- "-" and "not"
pub prefix_ok : (inner : Reader) (k : ℕ) (t : Token) (op : Prefix) (us rest : List Token) (p : Part) → k ≤ prefix_level op → IsTrue (prefix_takes op p.level) → inner (prefix_level op) us ≡ Ok (p, rest)
    → prefix_at inner k t op us ≡ Ok (prefixed t op p, rest)
unfolding prefix_at
prefix_ok inner k t op us rest p h l e = rw (le_true k (prefix_level op) h) (rw e (rw l refl))

pub prefix_deep : (inner : Reader) (k : ℕ) (t : Token) (op : Prefix) (us : List Token) → k ≤ prefix_level op → inner (prefix_level op) us ≡ Err TooDeep → prefix_at inner k t op us ≡ Err TooDeep
unfolding prefix_at
prefix_deep inner k t op us h e = rw (le_true k (prefix_level op) h) (rw e refl)

pub prefix_exact : (ts : List Token) (p : Part) (e : ℕ) (t : Token) (op : Prefix) → IsSign t (prefix_sign op) → ExactAll ts p e → IsTrue (prefix_takes op p.level) → PrimaryAll (t ∷ ts) (prefixed t op p) (min (prefix_level op) e)
prefix_exact ts p e t op i x l n k rest h s =
    let b = begins_so (read n) k t (prefix_sign op) (ts ++ rest) (start.Prefix op) i (prefix_starts op) in
    after_operand n k (prefix_level op) (t ∷ (ts ++ rest)) rest (ts ++ rest) rest p (prefixed t op p) refl
    (operand_of ts p e x n (prefix_level op) rest (prefix_high op p.level l) (stops_less _ _ rest (omega arith) s) (stops_less _ e rest (omega arith) s))
    (λ w. b ∙ prefix_ok (read n) k t op (ts ++ rest) rest p h l w)
    (λ w. b ∙ prefix_deep (read n) k t op (ts ++ rest) h w)

-- predicates
pub predicate_ok : (inner : Reader) (us rest : List Token) (p : Part) → IsTrue (is_pred p.level) → inner level.pred us ≡ Ok (p, rest) → predicate inner us ≡ Ok (p, rest)
unfolding predicate
predicate_ok inner us rest p l e = rw e (rw l refl)

pub predicate_deep : (inner : Reader) (us : List Token) → inner level.pred us ≡ Err TooDeep → predicate inner us ≡ Err TooDeep
unfolding predicate
predicate_deep inner us e = rw e refl

-- quantifiers
names_read : (is rest : List Token) (xs : List Identifier) (dot : Token) → Names is xs → IsSign dot sign.Dot → names (length (is ++ (dot ∷ rest))) (is ++ (dot ∷ rest)) ≡ Ok (xs, rest)
names_read is rest xs dot d j = names_ok d (length (is ++ (dot ∷ rest))) dot rest j (omega (arith, length-append is (dot ∷ rest)))

pub quantifier_ok : (inner : Reader) (k : ℕ) (t : Token) (q : Quantifier) (is us rest : List Token) (xs : List Identifier) (dot : Token) (p : Part) → k ≤ level.lit → Names is xs → IsSign dot sign.Dot → predicate inner us ≡ Ok (p, rest)
    → quantifier_at inner k t q (is ++ (dot ∷ us)) ≡ Ok (quantified t q xs p, rest)
unfolding quantifier_at
quantifier_ok inner k t q is us rest xs dot p h d j e = rw (le_true k level.lit h) (rw (names_read is us xs dot d j) (rw e refl))

pub quantifier_deep : (inner : Reader) (k : ℕ) (t : Token) (q : Quantifier) (is us : List Token) (xs : List Identifier) (dot : Token) → k ≤ level.lit → Names is xs → IsSign dot sign.Dot → predicate inner us ≡ Err TooDeep
    → quantifier_at inner k t q (is ++ (dot ∷ us)) ≡ Err TooDeep
unfolding quantifier_at
quantifier_deep inner k t q is us xs dot h d j e = rw (le_true k level.lit h) (rw (names_read is us xs dot d j) (rw e refl))

pub quantifier_exact : (is ts : List Token) (xs : List Identifier) (p : Part) (e : ℕ) (t dot : Token) (q : Quantifier) → IsSign t (quantifier_sign q) → Names is xs → IsSign dot sign.Dot → ExactAll ts p e → IsTrue (is_pred p.level)
    → PrimaryAll (t ∷ (is ++ (dot ∷ ts))) (quantified t q xs p) 0
quantifier_exact is ts xs p e t dot q i d j x l n k rest h s =
    let b = begins_so (read n) k t (quantifier_sign q) (is ++ (dot ∷ (ts ++ rest))) (start.Quantifier q) i (quantifier_starts q) in
    same_tokens n k (t ∷ ((is ++ (dot ∷ ts)) ++ rest)) (t ∷ (is ++ (dot ∷ (ts ++ rest)))) rest (quantified t q xs p) (ap (λ z. t ∷ z) (append_assoc is (dot ∷ ts) rest))
    (after_operand n k level.pred (t ∷ (is ++ (dot ∷ (ts ++ rest)))) rest (ts ++ rest) rest p (quantified t q xs p) refl
    (operand_of ts p e x n level.pred rest (omega arith) s (stops_less 0 e rest (omega arith) s))
    (λ w. b ∙ quantifier_ok (read n) k t q is (ts ++ rest) rest xs dot p h d j (predicate_ok (read n) (ts ++ rest) rest p l w))
    (λ w. b ∙ quantifier_deep (read n) k t q is (ts ++ rest) xs dot h d j (predicate_deep (read n) (ts ++ rest) w)))

-- calls
call_high : (op : Call) (l : ℕ) → IsTrue (call_takes op l) → call_least op ≤ l
call_high call.BoolOf l h = omega arith
call_high _ l h = expr_high l h

call_ok : (inner : Reader) (k : ℕ) (t o c : Token) (op : Call) (us rest : List Token) (p : Part) → k ≤ call_level op → IsSign o sign.LeftParenthesis → IsTrue (call_takes op p.level) → IsSign c sign.RightParenthesis
    → inner (call_least op) us ≡ Ok (p, c ∷ rest) → call_at inner k t op (o ∷ us) ≡ Ok (called t op p, rest)
unfolding call_at
call_ok inner k t o c op us rest p h i l j e = rw (le_true k (call_level op) h) (rw (after_sign_ok sign.LeftParenthesis o us i) (rw e (rw l (rw (after_sign_ok sign.RightParenthesis c rest j) refl))))

call_deep : (inner : Reader) (k : ℕ) (t o : Token) (op : Call) (us : List Token) → k ≤ call_level op → IsSign o sign.LeftParenthesis → inner (call_least op) us ≡ Err TooDeep → call_at inner k t op (o ∷ us) ≡ Err TooDeep
unfolding call_at
call_deep inner k t o op us h i e = rw (le_true k (call_level op) h) (rw (after_sign_ok sign.LeftParenthesis o us i) (rw e refl))

call_exact : (ts : List Token) (p : Part) (e : ℕ) (t o c : Token) (op : Call) → IsSign t (call_sign op) → IsSign o sign.LeftParenthesis → ExactAll ts p e → IsTrue (call_takes op p.level) → IsSign c sign.RightParenthesis
    → PrimaryAll (t ∷ o ∷ (ts ++ (c ∷ []))) (called t op p) 15
call_exact ts p e t o c op i j x l q n k rest h s =
    let b = begins_so (read n) k t (call_sign op) (o ∷ (ts ++ (c ∷ rest))) (start.Call op) i (call_starts op) in
    let z = parenthesis_shuts c rest q in
    same_tokens n k (t ∷ o ∷ ((ts ++ (c ∷ [])) ++ rest)) (t ∷ o ∷ (ts ++ (c ∷ rest))) rest (called t op p) (ap (λ v. t ∷ o ∷ v) (append_assoc ts (c ∷ []) rest))
    (after_operand n k (call_least op) (t ∷ o ∷ (ts ++ (c ∷ rest))) rest (ts ++ (c ∷ rest)) (c ∷ rest) p (called t op p) refl
    (operand_of ts p e x n (call_least op) (c ∷ rest) (call_high op p.level l) (z.stops _) (z.stops e))
    (λ w. b ∙ call_ok (read n) k t o c op (ts ++ (c ∷ rest)) rest p h j l q w)
    (λ w. b ∙ call_deep (read n) k t o op (ts ++ (c ∷ rest)) h j w))

-- parentheses
parentheses_ok : (inner : Reader) (k : ℕ) (t c : Token) (us rest : List Token) (p : Part) → k ≤ (bracketed t p).level → IsSign c sign.RightParenthesis → inner level.pred us ≡ Ok (p, c ∷ rest) → parentheses_at inner k t us ≡ Ok (bracketed t p, rest)
unfolding parentheses_at
parentheses_ok inner k t c us rest p h j e = rw e (rw (after_sign_ok sign.RightParenthesis c rest j) (rw (le_true k (bracketed t p).level h) refl))

parentheses_deep : (inner : Reader) (k : ℕ) (t : Token) (us : List Token) → inner level.pred us ≡ Err TooDeep → parentheses_at inner k t us ≡ Err TooDeep
unfolding parentheses_at
parentheses_deep inner k t us e = rw e refl

parentheses_exact : (ts : List Token) (p : Part) (e : ℕ) (t c : Token) → IsSign t sign.LeftParenthesis → ExactAll ts p e → IsSign c sign.RightParenthesis → PrimaryAll (t ∷ (ts ++ (c ∷ []))) (bracketed t p) 15
parentheses_exact ts p e t c i x q n k rest h s =
    let b = begins_so (read n) k t sign.LeftParenthesis (ts ++ (c ∷ rest)) start.Parenthesis i refl in
    let z = parenthesis_shuts c rest q in
    same_tokens n k (t ∷ ((ts ++ (c ∷ [])) ++ rest)) (t ∷ (ts ++ (c ∷ rest))) rest (bracketed t p) (ap (λ v. t ∷ v) (append_assoc ts (c ∷ []) rest))
    (after_operand n k level.pred (t ∷ (ts ++ (c ∷ rest))) rest (ts ++ (c ∷ rest)) (c ∷ rest) p (bracketed t p) refl
    (operand_of ts p e x n level.pred (c ∷ rest) (omega arith) (z.stops _) (z.stops e))
    (λ w. b ∙ parentheses_ok (read n) k t c (ts ++ (c ∷ rest)) rest p h q w)
    (λ w. b ∙ parentheses_deep (read n) k t (ts ++ (c ∷ rest)) w))

-- rows of expressions
pub record WholeRow (n m : ℕ) (ts rest : List Token) (es : List Ast) (h : ℕ) : Type 0 where
  pub low : h < n
  pub is : row (read n) m ts ≡ Ok (es, h, rest)

pub record DeepRow (n m : ℕ) (ts : List Token) (h : ℕ) : Type 0 where
  pub high : n ≤ h
  pub is : row (read n) m ts ≡ Err TooDeep

abbrev pub OperandRow : ℕ → ℕ → List Token → List Token → List Ast → ℕ → Type 0
OperandRow n m ts rest es h = WholeRow n m ts rest es h ⊎ DeepRow n m ts h

last_exact : (n m : ℕ) (ts rest : List Token) (p : Part) → begins sign.Comma rest ≡ false → Operand n level.expr ts rest p → OperandRow n (suc m) ts rest (p.tree ∷ []) p.height
unfolding row row_on
last_exact n m ts rest p c (inl w) = inl (record { low = w.low; is = rw (w.is) (rw c refl) })
last_exact n m ts rest p c (inr w) = inr (record { high = w.high; is = rw (w.is) refl })

more_exact : (n m : ℕ) (ts us rest : List Token) (comma : Token) (p : Part) (es : List Ast) (h : ℕ) → IsSign comma sign.Comma → Operand n level.expr ts (comma ∷ us) p → OperandRow n m us rest es h → OperandRow n (suc m) ts rest (p.tree ∷ es) (max p.height h)
unfolding row row_on
more_exact n m ts us rest comma p es h i (inr w) r = inr (record { high = omega (arith, w.high); is = rw (w.is) refl })
more_exact n m ts us rest comma p es h i (inl w) (inl r) = inl (record { low = omega (arith, w.low, r.low); is = rw (w.is) (rw (sign_is sign.Comma comma i) (rw (r.is) refl)) })
more_exact n m ts us rest comma p es h i (inl w) (inr r) = inr (record { high = omega (arith, r.high); is = rw (w.is) (rw (sign_is sign.Comma comma i) (rw (r.is) refl)) })

comma_stops : (t : Token) (e : ℕ) (rest : List Token) → IsSign t sign.Comma → Stops e (t ∷ rest)
comma_stops t e rest i = sign_stops sign.Comma t e rest i refl

pub bar_stops : (t : Token) (e : ℕ) (rest : List Token) → IsSign t sign.Bar → Stops e (t ∷ rest)
bar_stops t e rest i = sign_stops sign.Bar t e rest i refl

-- rows of a length
abbrev RowAll : List Token → List Ast → ℕ → Type 0
RowAll ts es h = (n m : ℕ) (rest : List Token) → Shut rest → length ts ≤ m → OperandRow n m (ts ++ rest) rest es h

none_long : {ts : List Token} {p : Part} → Derives ts p → 1 ≤ length ts
none_long {ts = []} d = absurd (opens d)
none_long {ts = t ∷ us} d = omega arith

last_row : (ts : List Token) (p : Part) (e : ℕ) → 1 ≤ length ts → ExactAll ts p e → level.expr ≤ p.level → RowAll ts (p.tree ∷ []) p.height
last_row ts p e y x i n zero rest z h = absurd (omega arith)
last_row ts p e y x i n (suc m) rest z h = last_exact n m (ts ++ rest) rest p z.comma (operand_of ts p e x n level.expr rest i (z.stops _) (z.stops e))

more_row : (ts us : List Token) (comma : Token) (p : Part) (es : List Ast) (g e : ℕ) → IsSign comma sign.Comma → ExactAll ts p e → level.expr ≤ p.level → RowAll us es g → RowAll (ts ++ (comma ∷ us)) (p.tree ∷ es) (max p.height g)
more_row ts us comma p es g e c x i r n zero rest z h = absurd (omega (arith, length-append ts (comma ∷ us)))
more_row ts us comma p es g e c x i r n (suc m) rest z h = subst (λ v. OperandRow n (suc m) v rest (p.tree ∷ es) (max p.height g)) (sym (append_assoc ts (comma ∷ us) rest))
    (more_exact n m (ts ++ (comma ∷ (us ++ rest))) (us ++ rest) rest comma p es g c (operand_of ts p e x n level.expr (comma ∷ (us ++ rest)) i (comma_stops comma _ (us ++ rest) c) (comma_stops comma e (us ++ rest) c))
    (r n m rest z (omega (arith, length-append ts (comma ∷ us)))))

-- the first of a row, and the others behind it
abbrev Others : ℕ → Part → List Token → List Token → List Ast → ℕ → Type 0
Others n p after rest es h = ((h < n) × (row_after (read n) (length after) p after ≡ Ok (es, h, rest))) ⊎ ((n ≤ h) × (row_after (read n) (length after) p after ≡ Err TooDeep))

record FirstRow (n : ℕ) (ts rest : List Token) (es : List Ast) (h : ℕ) : Type 0 where
  part : Part
  after : List Token
  first : Operand n level.expr ts after part
  below : part.height ≤ h
  bar : begins sign.Bar after ≡ false
  others : part.height < n → Others n part after rest es h

first_last : (n : ℕ) (ts rest : List Token) (p : Part) (e : ℕ) → ExactAll ts p e → level.expr ≤ p.level → Shut rest → FirstRow n (ts ++ rest) rest (p.tree ∷ []) p.height
unfolding row_after row_on
first_last n ts rest p e x i z = record { part = p; after = rest; first = operand_of ts p e x n level.expr rest i (z.stops _) (z.stops e); below = omega arith; bar = z.bar; others = λ l. inl (l, rw z.comma refl) }

first_more : (n : ℕ) (ts us rest : List Token) (comma : Token) (p : Part) (es : List Ast) (g e : ℕ) → IsSign comma sign.Comma → ExactAll ts p e → level.expr ≤ p.level → RowAll us es g → Shut rest
    → FirstRow n (ts ++ (comma ∷ (us ++ rest))) rest (p.tree ∷ es) (max p.height g)
unfolding row_after row_on
first_more n ts us rest comma p es g e c x i r z = record {
  part = p;
  after = comma ∷ (us ++ rest);
  first = operand_of ts p e x n level.expr (comma ∷ (us ++ rest)) i (comma_stops comma _ (us ++ rest) c) (comma_stops comma e (us ++ rest) c);
  below = omega arith;
  bar = comma_bar comma c;
  others = λ l. by_row l (r n (length (comma ∷ (us ++ rest))) rest z (omega (arith, length-append us rest)));
}
  where
    by_row : p.height < n → OperandRow n (length (comma ∷ (us ++ rest))) (us ++ rest) rest es g → Others n p (comma ∷ (us ++ rest)) rest (p.tree ∷ es) (max p.height g)
    by_row l (inl w) = inl (omega (arith, w.low), rw (sign_is sign.Comma comma c) (rw (w.is) refl))
    by_row l (inr w) = inr (omega (arith, w.high), rw (sign_is sign.Comma comma c) (rw (w.is) refl))

-- partition
partition_ok : (inner : Reader) (k : ℕ) (t o c : Token) (us after rest : List Token) (p : Part) (es : List Ast) (h : ℕ) → k ≤ level.lit → IsSign o sign.LeftParenthesis → IsSign c sign.RightParenthesis
    → inner level.expr us ≡ Ok (p, after) → row_after inner (length after) p after ≡ Ok (es, h, c ∷ rest) → partition_at inner k t (o ∷ us) ≡ Ok (partitioned t es h, rest)
unfolding partition_at
partition_ok inner k t o c us after rest p es h l i j e r = rw (le_true k level.lit l) (rw (after_sign_ok sign.LeftParenthesis o us i) (rw e (rw r (rw (after_sign_ok sign.RightParenthesis c rest j) refl))))

partition_deep : (inner : Reader) (k : ℕ) (t o : Token) (us : List Token) → k ≤ level.lit → IsSign o sign.LeftParenthesis → inner level.expr us ≡ Err TooDeep → partition_at inner k t (o ∷ us) ≡ Err TooDeep
unfolding partition_at
partition_deep inner k t o us l i e = rw (le_true k level.lit l) (rw (after_sign_ok sign.LeftParenthesis o us i) (rw e refl))

partition_sunk : (inner : Reader) (k : ℕ) (t o : Token) (us after : List Token) (p : Part) → k ≤ level.lit → IsSign o sign.LeftParenthesis
    → inner level.expr us ≡ Ok (p, after) → row_after inner (length after) p after ≡ Err TooDeep → partition_at inner k t (o ∷ us) ≡ Err TooDeep
unfolding partition_at
partition_sunk inner k t o us after p l i e r = rw (le_true k level.lit l) (rw (after_sign_ok sign.LeftParenthesis o us i) (rw e (rw r refl)))

partition_made : (n k : ℕ) (t o c : Token) (us rest : List Token) (es : List Ast) (h : ℕ) → k ≤ level.lit → IsSign t sign.Partition → IsSign o sign.LeftParenthesis → IsSign c sign.RightParenthesis
    → FirstRow n us (c ∷ rest) es h → Primary n k (t ∷ o ∷ us) rest (partitioned t es h)
partition_made n k t o c us rest es h l y i j f = by_first f.first
  where
    b : primary (read n) k (t ∷ o ∷ us) ≡ partition_at (read n) k t (o ∷ us)
    b = begins_so (read n) k t sign.Partition (o ∷ us) start.Partition y refl

    by_others : read n level.expr us ≡ Ok (f.part, f.after) → Others n f.part f.after (c ∷ rest) es h → Primary n k (t ∷ o ∷ us) rest (partitioned t es h)
    by_others e (inl w) = inl (record { low = omega (arith, w.0); is = b ∙ partition_ok (read n) k t o c us f.after rest f.part es h l i j e w.1 })
    by_others e (inr w) = inr (record { high = omega (arith, w.0); is = b ∙ partition_sunk (read n) k t o us f.after f.part l i e w.1 })

    by_first : Operand n level.expr us f.after f.part → Primary n k (t ∷ o ∷ us) rest (partitioned t es h)
    by_first (inl w) = by_others w.is (f.others w.low)
    by_first (inr w) = inr (record { high = omega (arith, w.high, f.below); is = b ∙ partition_deep (read n) k t o us l i w.is })

-- bodies of binders
record WholeBody (n : ℕ) (ts rest : List Token) (p q : Part) : Type 0 where
  low : max p.height q.height < n
  is : body (read n) ts ≡ Ok (p, q, rest)

record DeepBody (n : ℕ) (ts : List Token) (p q : Part) : Type 0 where
  high : n ≤ max p.height q.height
  is : body (read n) ts ≡ Err TooDeep

abbrev OperandBody : ℕ → List Token → List Token → Part → Part → Type 0
OperandBody n ts rest p q = WholeBody n ts rest p q ⊎ DeepBody n ts p q

body_read : (n : ℕ) (ts us rest : List Token) (bar : Token) (p q : Part) → IsTrue (is_pred p.level) → IsSign bar sign.Bar → Operand n level.pred ts (bar ∷ us) p → Operand n level.expr us rest q → OperandBody n ts rest p q
unfolding body
body_read n ts us rest bar p q l i (inr w) o = inr (record { high = omega (arith, w.high); is = rw (predicate_deep (read n) ts w.is) refl })
body_read n ts us rest bar p q l i (inl w) (inr o) = inr (record { high = omega (arith, o.high); is = rw (predicate_ok (read n) ts (bar ∷ us) p l w.is) (rw (after_sign_ok sign.Bar bar us i) (rw o.is refl)) })
body_read n ts us rest bar p q l i (inl w) (inl o) = inl (record { low = omega (arith, o.low, w.low); is = rw (predicate_ok (read n) ts (bar ∷ us) p l w.is) (rw (after_sign_ok sign.Bar bar us i) (rw o.is refl)) })

body_of : (ts us : List Token) (bar : Token) (p q : Part) (e d : ℕ) → ExactAll ts p e → IsTrue (is_pred p.level) → IsSign bar sign.Bar → ExactAll us q d → IsTrue (is_expr q.level)
    → (n : ℕ) (rest : List Token) → Stops level.expr rest → Stops d rest → OperandBody n (ts ++ (bar ∷ (us ++ rest))) rest p q
body_of ts us bar p q e d x l i y m n rest s o =
    body_read n (ts ++ (bar ∷ (us ++ rest))) (us ++ rest) rest bar p q l i
    (operand_of ts p e x n level.pred (bar ∷ (us ++ rest)) (omega arith) (bar_stops bar _ (us ++ rest) i) (bar_stops bar e (us ++ rest) i))
    (operand_of us q d y n level.expr rest (expr_high q.level m) s o)

after_body : (n k : ℕ) (ts rest us after : List Token) (p q w : Part) → w.height ≡ max p.height q.height + 1 → OperandBody n us after p q
    → (body (read n) us ≡ Ok (p, q, after) → primary (read n) k ts ≡ Ok (w, rest))
    → (body (read n) us ≡ Err TooDeep → primary (read n) k ts ≡ Err TooDeep)
    → Primary n k ts rest w
after_body n k ts rest us after p q w h (inl x) f g = inl (record { low = omega (arith, x.low); is = f x.is })
after_body n k ts rest us after p q w h (inr x) f g = inr (record { high = omega (arith, x.high); is = g x.is })

-- "%", "UNION" and "INTER"
pub binder_ok : (inner : Reader) (k : ℕ) (t dot : Token) (op : Binder) (is us rest : List Token) (b : Bound) (p q : Part) → k ≤ level.expr → Binding op is b → IsSign dot sign.Dot → body inner us ≡ Ok (p, q, rest)
    → binder_at inner k t op (is ++ (dot ∷ us)) ≡ Ok (bound_by t op b p q, rest)
unfolding binder_at
binder_ok inner k t dot op is us rest b p q h d j e = rw (le_true k level.expr h) (rw (binding_ok d dot us j) (rw e refl))

pub binder_deep : (inner : Reader) (k : ℕ) (t dot : Token) (op : Binder) (is us : List Token) (b : Bound) → k ≤ level.expr → Binding op is b → IsSign dot sign.Dot → body inner us ≡ Err TooDeep
    → binder_at inner k t op (is ++ (dot ∷ us)) ≡ Err TooDeep
unfolding binder_at
binder_deep inner k t dot op is us b h d j e = rw (le_true k level.expr h) (rw (binding_ok d dot us j) (rw e refl))

pub in_binder : (is ts us rest : List Token) (d b : Token) → (is ++ (d ∷ (ts ++ (b ∷ us)))) ++ rest ≡ is ++ (d ∷ (ts ++ (b ∷ (us ++ rest))))
in_binder is ts us rest d b = simp append_assoc refl

binder_exact : (is ts us : List Token) (b : Bound) (p q : Part) (e d : ℕ) (t dot bar : Token) (op : Binder) → IsSign t (binder_sign op) → Binding op is b → IsSign dot sign.Dot
    → ExactAll ts p e → IsTrue (is_pred p.level) → IsSign bar sign.Bar → ExactAll us q d → IsTrue (is_expr q.level)
    → PrimaryAll (t ∷ (is ++ (dot ∷ (ts ++ (bar ∷ us))))) (bound_by t op b p q) (min level.expr d)
binder_exact is ts us b p q e d t dot bar op i o j x l m y r n k rest h s =
    let z = begins_so (read n) k t (binder_sign op) (is ++ (dot ∷ (ts ++ (bar ∷ (us ++ rest))))) (start.Binder op) i (binder_starts op) in
    same_tokens n k (t ∷ ((is ++ (dot ∷ (ts ++ (bar ∷ us)))) ++ rest)) (t ∷ (is ++ (dot ∷ (ts ++ (bar ∷ (us ++ rest)))))) rest (bound_by t op b p q) (ap (λ v. t ∷ v) (in_binder is ts us rest dot bar))
    (after_body n k (t ∷ (is ++ (dot ∷ (ts ++ (bar ∷ (us ++ rest)))))) rest (ts ++ (bar ∷ (us ++ rest))) rest p q (bound_by t op b p q) refl
    (body_of ts us bar p q e d x l m y r n rest (stops_less _ _ rest (omega arith) s) (stops_less _ d rest (omega arith) s))
    (λ w. z ∙ binder_ok (read n) k t dot op is (ts ++ (bar ∷ (us ++ rest))) rest b p q h o j w)
    (λ w. z ∙ binder_deep (read n) k t dot op is (ts ++ (bar ∷ (us ++ rest))) b h o j w))

-- braces
brace_made : (inner : Reader) (k : ℕ) (t : Token) (us : List Token) (r : Result (List Identifier × List Token) Fault) → IsSign t sign.LeftBrace → k ≤ level.prim → names (length us) us ≡ r → primary inner k (t ∷ us) ≡ brace_by inner t us r
unfolding brace_at
brace_made inner k t us r i h e = begins_so inner k t sign.LeftBrace us start.Brace i refl ∙ rw (le_true k level.prim h) (ap (brace_by inner t us) e)

comprehension_ok : (inner : Reader) (t c : Token) (xs : List Identifier) (us rest : List Token) (p q : Part) → IsSign c sign.RightBrace → body inner us ≡ Ok (p, q, c ∷ rest) → comprehension_at inner t xs us ≡ Ok (comprehended t xs p q, rest)
unfolding comprehension_at
comprehension_ok inner t c xs us rest p q j e = rw e (rw (after_sign_ok sign.RightBrace c rest j) refl)

comprehension_deep : (inner : Reader) (t : Token) (xs : List Identifier) (us : List Token) → body inner us ≡ Err TooDeep → comprehension_at inner t xs us ≡ Err TooDeep
unfolding comprehension_at
comprehension_deep inner t xs us e = rw e refl

pub in_comprehension : (is ts us rest : List Token) (d b c : Token) → (is ++ (d ∷ (ts ++ (b ∷ (us ++ (c ∷ [])))))) ++ rest ≡ is ++ (d ∷ (ts ++ (b ∷ (us ++ (c ∷ rest)))))
in_comprehension is ts us rest d b c = simp append_assoc refl

comprehension_exact : (is ts us : List Token) (xs : List Identifier) (p q : Part) (e d : ℕ) (t dot bar c : Token) → IsSign t sign.LeftBrace → Names is xs → IsSign dot sign.Dot
    → ExactAll ts p e → IsTrue (is_pred p.level) → IsSign bar sign.Bar → ExactAll us q d → IsTrue (is_expr q.level) → IsSign c sign.RightBrace
    → PrimaryAll (t ∷ (is ++ (dot ∷ (ts ++ (bar ∷ (us ++ (c ∷ []))))))) (comprehended t xs p q) 15
comprehension_exact is ts us xs p q e d t dot bar c i o j x l m y r v n k rest h s =
    let f = brace_made (read n) k t (is ++ (dot ∷ (ts ++ (bar ∷ (us ++ (c ∷ rest)))))) (Ok (xs, ts ++ (bar ∷ (us ++ (c ∷ rest))))) i h (names_read is (ts ++ (bar ∷ (us ++ (c ∷ rest)))) xs dot o j) in
    let z = brace_shuts c rest v in
    same_tokens n k (t ∷ ((is ++ (dot ∷ (ts ++ (bar ∷ (us ++ (c ∷ [])))))) ++ rest)) (t ∷ (is ++ (dot ∷ (ts ++ (bar ∷ (us ++ (c ∷ rest))))))) rest (comprehended t xs p q) (ap (λ v. t ∷ v) (in_comprehension is ts us rest dot bar c))
    (after_body n k (t ∷ (is ++ (dot ∷ (ts ++ (bar ∷ (us ++ (c ∷ rest))))))) rest (ts ++ (bar ∷ (us ++ (c ∷ rest)))) (c ∷ rest) p q (comprehended t xs p q) refl
    (body_of ts us bar p q e d x l m y r n (c ∷ rest) (z.stops _) (z.stops d))
    (λ w. f ∙ comprehension_ok (read n) t c xs (ts ++ (bar ∷ (us ++ (c ∷ rest)))) rest p q v w)
    (λ w. f ∙ comprehension_deep (read n) t xs (ts ++ (bar ∷ (us ++ (c ∷ rest)))) w))

members_begin : (inner : Reader) (k : ℕ) (t : Token) (us : List Token) → IsSign t sign.LeftBrace → k ≤ level.prim → names (length us) us ≡ Err Syntax → begins sign.RightBrace us ≡ false → primary inner k (t ∷ us) ≡ members_at inner t us
members_begin inner k t us i h e b = brace_made inner k t us (Err Syntax) i h e ∙ rw b refl

no_name : (c : Token) (rest : List Token) (m : ℕ) → IsSign c sign.RightBrace → names m (c ∷ rest) ≡ Err Syntax
unfolding names
no_name c rest zero j = refl
no_name c rest (suc m) j = rw j refl

empty_exact : (t c : Token) → IsSign t sign.LeftBrace → IsSign c sign.RightBrace → PrimaryAll (t ∷ c ∷ []) (empty_braces t) 15
empty_exact t c i j n k rest h s =
    let e : names (length (c ∷ rest)) (c ∷ rest) ≡ Err Syntax = no_name c rest (length (c ∷ rest)) j in
    inl (record { low = omega arith; is = brace_made (read n) k t (c ∷ rest) (Err Syntax) i h e ∙ rw (sign_is sign.RightBrace c j) refl })

members_deep : (inner : Reader) (t : Token) (us : List Token) → inner level.expr us ≡ Err TooDeep → members_at inner t us ≡ Err TooDeep
unfolding members_at
members_deep inner t us e = rw e refl

builder_ok : (inner : Reader) (t bar c : Token) (us vs rest : List Token) (p q : Part) → IsSign bar sign.Bar → IsSign c sign.RightBrace → inner level.expr us ≡ Ok (p, bar ∷ vs) → predicate inner vs ≡ Ok (q, c ∷ rest) → members_at inner t us ≡ Ok (built t p q, rest)
unfolding members_at builder_at
builder_ok inner t bar c us vs rest p q i j e w = rw e (rw (sign_is sign.Bar bar i) (rw w (rw (after_sign_ok sign.RightBrace c rest j) refl)))

builder_deep : (inner : Reader) (t bar : Token) (us vs : List Token) (p : Part) → IsSign bar sign.Bar → inner level.expr us ≡ Ok (p, bar ∷ vs) → predicate inner vs ≡ Err TooDeep → members_at inner t us ≡ Err TooDeep
unfolding members_at builder_at
builder_deep inner t bar us vs p i e w = rw e (rw (sign_is sign.Bar bar i) (rw w refl))

builder_made : (n k : ℕ) (t bar c : Token) (us vs rest : List Token) (p q : Part) → IsSign bar sign.Bar → IsSign c sign.RightBrace → IsTrue (is_pred q.level) → primary (read n) k (t ∷ us) ≡ members_at (read n) t us
    → Operand n level.expr us (bar ∷ vs) p → Operand n level.pred vs (c ∷ rest) q → Primary n k (t ∷ us) rest (built t p q)
builder_made n k t bar c us vs rest p q i j l b (inr w) o = inr (record { high = omega (arith, w.high); is = b ∙ members_deep (read n) t us w.is })
builder_made n k t bar c us vs rest p q i j l b (inl w) (inr o) = inr (record { high = omega (arith, o.high); is = b ∙ builder_deep (read n) t bar us vs p i w.is (predicate_deep (read n) vs o.is) })
builder_made n k t bar c us vs rest p q i j l b (inl w) (inl o) = inl (record { low = omega (arith, o.low, w.low); is = b ∙ builder_ok (read n) t bar c us vs rest p q i j w.is (predicate_ok (read n) vs (c ∷ rest) q l o.is) })

pub in_builder : (ts us rest : List Token) (b c : Token) → (ts ++ (b ∷ (us ++ (c ∷ [])))) ++ rest ≡ ts ++ (b ∷ (us ++ (c ∷ rest)))
in_builder ts us rest b c = simp append_assoc refl

builder_exact : (ts us : List Token) (p q : Part) (e d : ℕ) (t bar c : Token) → IsSign t sign.LeftBrace → Derives ts p → ExactAll ts p e → IsTrue (is_expr p.level) → IsSign bar sign.Bar
    → ExactAll us q d → IsTrue (is_pred q.level) → IsSign c sign.RightBrace → PrimaryAll (t ∷ (ts ++ (bar ∷ (us ++ (c ∷ []))))) (built t p q) 15
builder_exact ts us p q e d t bar c i a x l m y r v n k rest h s =
    let z = brace_shuts c rest v in
    let f = members_begin (read n) k t (ts ++ (bar ∷ (us ++ (c ∷ rest)))) i h (no_names ts (bar ∷ (us ++ (c ∷ rest))) (opens a) (apart_names (bar ∷ (us ++ (c ∷ rest))) (bar_apart bar (us ++ (c ∷ rest)) m)) _) (not_closed ts (bar ∷ (us ++ (c ∷ rest))) (opens a)) in
    same_tokens n k (t ∷ ((ts ++ (bar ∷ (us ++ (c ∷ [])))) ++ rest)) (t ∷ (ts ++ (bar ∷ (us ++ (c ∷ rest))))) rest (built t p q) (ap (λ v. t ∷ v) (in_builder ts us rest bar c))
    (builder_made n k t bar c (ts ++ (bar ∷ (us ++ (c ∷ rest)))) (us ++ (c ∷ rest)) rest p q m v r f
    (operand_of ts p e x n level.expr (bar ∷ (us ++ (c ∷ rest))) (expr_high p.level l) (bar_stops bar _ (us ++ (c ∷ rest)) m) (bar_stops bar e (us ++ (c ∷ rest)) m))
    (operand_of us q d y n level.pred (c ∷ rest) (omega arith) (z.stops _) (z.stops d)))

extension_ok : (inner : Reader) (t c : Token) (us after rest : List Token) (p : Part) (es : List Ast) (h : ℕ) → begins sign.Bar after ≡ false → IsSign c sign.RightBrace
    → inner level.expr us ≡ Ok (p, after) → row_after inner (length after) p after ≡ Ok (es, h, c ∷ rest) → members_at inner t us ≡ Ok (extended t es h, rest)
unfolding members_at extension_at
extension_ok inner t c us after rest p es h b j e r = rw e (rw b (rw r (rw (after_sign_ok sign.RightBrace c rest j) refl)))

extension_deep : (inner : Reader) (t : Token) (us after : List Token) (p : Part) → begins sign.Bar after ≡ false → inner level.expr us ≡ Ok (p, after) → row_after inner (length after) p after ≡ Err TooDeep → members_at inner t us ≡ Err TooDeep
unfolding members_at extension_at
extension_deep inner t us after p b e r = rw e (rw b (rw r refl))

extension_made : (n k : ℕ) (t c : Token) (us rest : List Token) (es : List Ast) (h : ℕ) → IsSign c sign.RightBrace → primary (read n) k (t ∷ us) ≡ members_at (read n) t us → FirstRow n us (c ∷ rest) es h → Primary n k (t ∷ us) rest (extended t es h)
extension_made n k t c us rest es h j b f = by_first f.first
  where
    by_others : read n level.expr us ≡ Ok (f.part, f.after) → Others n f.part f.after (c ∷ rest) es h → Primary n k (t ∷ us) rest (extended t es h)
    by_others e (inl w) = inl (record { low = omega (arith, w.0); is = b ∙ extension_ok (read n) t c us f.after rest f.part es h f.bar j e w.1 })
    by_others e (inr w) = inr (record { high = omega (arith, w.0); is = b ∙ extension_deep (read n) t us f.after f.part f.bar e w.1 })

    by_first : Operand n level.expr us f.after f.part → Primary n k (t ∷ us) rest (extended t es h)
    by_first (inl w) = by_others w.is (f.others w.low)
    by_first (inr w) = inr (record { high = omega (arith, w.high, f.below); is = b ∙ members_deep (read n) t us w.is })

-- What goes on with a formula.
goes_true : (k : ℕ) (p : Part) (f : Follow) → k ≤ level_of (row_of f) → IsTrue (admits (row_of f) p.level) → p.loose ≡ false → goes_on k p f ≡ true
goes_true k p f h a c = grind (arith, nat_tests)

pub next_is : (k : ℕ) (p : Part) (f : Follow) (t : Token) (rest : List Token) → IsSign t (follow_sign f) → k ≤ level_of (row_of f) → IsTrue (admits (row_of f) p.level) → p.loose ≡ false → next_follow k p (head_follow (t ∷ rest)) ≡ Some f
next_is k p f t rest i h a c = rw (ap follow_kind i ∙ follows_sign f) (rw (goes_true k p f h a c) refl)

pub compare_room : (a n : ℕ) → (a < n) ⊎ (n ≤ a)
compare_room a n = by_test (nat_lt a n) refl
  where
    by_test : (c : Bool) → nat_lt a n ≡ c → (a < n) ⊎ (n ≤ a)
    by_test true e = inl (grind (arith, nat_tests))
    by_test false e = inr (grind (arith, nat_tests))

pub after_closing_ok : (o : Option Sign) (cs rest : List Token) → Closes o cs → after_closing o (cs ++ rest) ≡ Ok rest
after_closing_ok None cs rest c = ap (λ z. ok (z ++ rest)) c
after_closing_ok (Some sg) cs rest c = ap (λ z. after_sign sg (z ++ rest)) c.1 ∙ after_sign_ok sg c.0 rest c.2

-- An operator closes with a bracket, or takes what follows.
pub data Ends (op : Operator) : Type 0 where
  closes : (sg : Sign) → closing_sign op ≡ Some sg → follow_of sg ≡ None → ((e : ℕ) → edge_after (group_of op) e ≡ 15) → Ends op
  goes : closing_sign op ≡ None → ((e : ℕ) → edge_after (group_of op) e ≡ min (right_of (group_of op)) e) → Ends op

pub ends : (op : Operator) → Ends op
ends op.Apply = closes sign.RightParenthesis refl refl (λ e. refl)
ends op.Image = closes sign.RightBracket refl refl (λ e. refl)
ends _ = goes refl (λ e. refl)

-- the operand before a closing sign or before the rest
closing_stops : (op : Operator) (cs : List Token) (e : ℕ) (rest : List Token) → Closes (closing_sign op) cs → Stops (edge_after (group_of op) e) rest → Stops (min (right_of (group_of op)) e) (cs ++ rest)
closing_stops op cs e rest c s = by_end (ends op)
  where
    by_end : Ends op → Stops (min (right_of (group_of op)) e) (cs ++ rest)
    by_end (closes sg h i j) =
        let x : Closes (Some sg) cs = subst (λ z. Closes z cs) h c in
        subst (λ z. Stops (min (right_of (group_of op)) e) (z ++ rest)) (sym x.1) (sign_stops sg x.0 (min (right_of (group_of op)) e) rest x.2 i)
    by_end (goes h j) =
        let x : Closes None cs = subst (λ z. Closes z cs) h c in
        subst (λ z. Stops (min (right_of (group_of op)) e) (z ++ rest)) (sym x) (subst (λ z. Stops z rest) (j e) s)

-- a turn of the loop, where there is room for the formula
pub record Turns (n : ℕ) (p : Part) (f : Follow) (us rest : List Token) (q : Part) : Type 0 where
  pub low : q.height ≤ n
  pub is : turn (read n) p f us ≡ Ok (q, rest)

pub record Fails (n : ℕ) (p : Part) (f : Follow) (us : List Token) (q : Part) : Type 0 where
  pub high : n < q.height
  pub is : turn (read n) p f us ≡ Err TooDeep

turned_exact : (n k : ℕ) (f : Follow) (t : Token) (p q : Part) (whole us rest : List Token) → IsSign t (follow_sign f) → k ≤ level_of (row_of f) → IsTrue (admits (row_of f) p.level) → p.loose ≡ false → p.height < q.height
    → Exact (suc n) k whole (t ∷ us) p → (p.height < n → Turns n p f us rest q ⊎ Fails n p f us q) → Exact (suc n) k whole rest q
turned_exact n k f t p q whole us rest i h a c y (inr d) o = inr (record { high = omega (arith, d.high); is = d.is })
turned_exact n k f t p q whole us rest i h a c y (inl x) o = by_height (compare_room p.height n) x.turns x.enough x.is
  where
    e : next_follow k p (head_follow (t ∷ us)) ≡ Some f
    e = next_is k p f t us i h a c

    by_turn : (turns : ℕ) → n ≤ suc turns + p.height → p.height < n → read (suc n) k whole ≡ climb (read n) n k (suc turns) p (t ∷ us) → Turns n p f us rest q ⊎ Fails n p f us q → Exact (suc n) k whole rest q
    by_turn turns l z w (inl v) = inl (record {
      turns = turns;
      enough = omega arith;
      low = v.low;
      is = w ∙ (climb_turn (read n) n k turns p (t ∷ us) f e z ∙ ap (resume (climb (read n) n k turns) p (t ∷ us)) v.is);
    })
    by_turn turns l z w (inr v) = inr (record {
      high = omega (arith, v.high);
      is = w ∙ (climb_turn (read n) n k turns p (t ∷ us) f e z ∙ ap (resume (climb (read n) n k turns) p (t ∷ us)) v.is);
    })

    by_height : (p.height < n) ⊎ (n ≤ p.height) → (turns : ℕ) → n ≤ turns + p.height → read (suc n) k whole ≡ climb (read n) n k turns p (t ∷ us) → Exact (suc n) k whole rest q
    by_height (inr z) turns l w = inr (record { high = omega arith; is = w ∙ climb_full (read n) n k turns p (t ∷ us) f e z })
    by_height (inl z) zero l w = absurd (omega arith)
    by_height (inl z) (suc turns) l w = by_turn turns l z w (o z)

operand_ok : (inner : Reader) (op : Operator) (cs us rest : List Token) (q : Part) → IsTrue (takes (group_of op) q.level) → Closes (closing_sign op) cs → inner (right_of (group_of op)) us ≡ Ok (q, cs ++ rest) → operand_at inner op us ≡ Ok (q, rest)
unfolding operand_at
operand_ok inner op cs us rest q h c e = rw e (rw h (rw (after_closing_ok (closing_sign op) cs rest c) refl))

pub turn_ok : (inner : Reader) (p q : Part) (op : Operator) (cs us rest : List Token) → IsTrue (takes (group_of op) q.level) → Closes (closing_sign op) cs → inner (right_of (group_of op)) us ≡ Ok (q, cs ++ rest) → turn inner p (follow.Operator op) us ≡ Ok (joined op p q, rest)
unfolding turn
turn_ok inner p q op cs us rest h c e = rw (operand_ok inner op cs us rest q h c e) refl

pub turn_deep : (inner : Reader) (p : Part) (op : Operator) (us : List Token) → inner (right_of (group_of op)) us ≡ Err TooDeep → turn inner p (follow.Operator op) us ≡ Err TooDeep
unfolding turn operand_at
turn_deep inner p op us e = rw e refl

operator_turns : (n : ℕ) (op : Operator) (p q : Part) (cs us rest : List Token) → IsTrue (takes (group_of op) q.level) → Closes (closing_sign op) cs → Operand n (right_of (group_of op)) us (cs ++ rest) q → p.height < n
    → Turns n p (follow.Operator op) us rest (joined op p q) ⊎ Fails n p (follow.Operator op) us (joined op p q)
operator_turns n op p q cs us rest h c (inl w) l = inl (record { low = omega (arith, w.low); is = turn_ok (read n) p q op cs us rest h c w.is })
operator_turns n op p q cs us rest h c (inr w) l = inr (record { high = omega (arith, w.high); is = turn_deep (read n) p op us w.is })

inverse_turns : (n : ℕ) (p : Part) (us : List Token) → p.height < n → Turns n p follow.Inverse us us (inverted p) ⊎ Fails n p follow.Inverse us (inverted p)
unfolding turn
inverse_turns n p us l = inl (record { low = omega arith; is = refl })

pub spread : (ts us c rest : List Token) (t : Token) → (ts ++ (t ∷ (us ++ c))) ++ rest ≡ ts ++ (t ∷ (us ++ (c ++ rest)))
spread ts us c rest t = simp append_assoc refl

mutual
  unfolding edge

  pub exact : {ts : List Token} {p : Part} (d : Derives ts p) → ExactAll ts p (edge d)
  exact (d_number t m e) n k rest h s = by_room n k _ rest _ (λ n. begun n k (t ∷ rest) rest _ (leaf_made n k t rest (leaf level.prim (tree.number t.start m)) refl h (ap (primary_by (read n) k t rest) e)))
  exact (d_identifier t x e) n k rest h s = by_room n k _ rest _ (λ n. begun n k (t ∷ rest) rest _ (leaf_made n k t rest (leaf level.prim (tree.identifier t.start x)) refl h (ap (primary_by (read n) k t rest) e)))
  exact (d_primed t x e) n k rest h s = by_room n k _ rest _ (λ n. begun n k (t ∷ rest) rest _ (leaf_made n k t rest (leaf level.prim (tree.primed t.start x)) refl h (ap (primary_by (read n) k t rest) e)))
  exact (d_constant t c e) n k rest h s = by_room n k _ rest _ (λ n. begun n k (t ∷ rest) rest _ (leaf_made n k t rest (leaf (constant_level c) (tree.constant t.start c)) refl h (begins_so (read n) k t (constant_sign c) rest (start.Constant c) e (constant_starts c))))
  exact (d_prefix {ts = us} {p = p} t op i d l) n k rest h s = exact_all (t ∷ us) (prefixed t op p) _ (prefix_exact us p (edge d) t op i (exact d) l) n k rest h s
  exact (d_quantifier {is = is} {ts = us} {xs = xs} {p = p} t dot q i j o d l) n k rest h s = exact_all (t ∷ (is ++ (dot ∷ us))) (quantified t q xs p) 0 (quantifier_exact is us xs p (edge d) t dot q i j o (exact d) l) n k rest h s
  exact (d_call {ts = us} {p = p} t o c op i j d l m) n k rest h s = exact_all (t ∷ o ∷ (us ++ (c ∷ []))) (called t op p) 15 (call_exact us p (edge d) t o c op i j (exact d) l m) n k rest h s
  exact (d_partition {ts = us} {es = es} {h = g} t o c i j r m) n k rest h s = by_room n k _ rest _ (λ n. begun n k (t ∷ o ∷ ((us ++ (c ∷ [])) ++ rest)) rest _
      (same_tokens n k (t ∷ o ∷ ((us ++ (c ∷ [])) ++ rest)) (t ∷ o ∷ (us ++ (c ∷ rest))) rest (partitioned t es g) (ap (λ v. t ∷ o ∷ v) (append_assoc us (c ∷ []) rest))
      (partition_made n k t o c (us ++ (c ∷ rest)) rest es g h i j m (first_exact r n (c ∷ rest) (parenthesis_shuts c rest m)))))
  exact (d_parentheses {ts = us} {p = p} o c i d j) n k rest h s = exact_all (o ∷ (us ++ (c ∷ []))) (bracketed o p) 15 (parentheses_exact us p (edge d) o c i (exact d) j) n k rest h s
  exact (d_binder {is = is} {ts = ts} {us = us} {b = b} {p = p} {e = q} t dot bar op i o j d l m e r) n k rest h s =
      exact_all (t ∷ (is ++ (dot ∷ (ts ++ (bar ∷ us))))) (bound_by t op b p q) _ (binder_exact is ts us b p q (edge d) (edge e) t dot bar op i o j (exact d) l m (exact e) r) n k rest h s
  exact (d_empty o c i j) n k rest h s = exact_all (o ∷ c ∷ []) (empty_braces o) 15 (empty_exact o c i j) n k rest h s
  exact (d_extension {ts = us} {es = es} {h = g} o c i r j) n k rest h s = by_room n k _ rest _ (λ n. begun n k (o ∷ ((us ++ (c ∷ [])) ++ rest)) rest _
      (same_tokens n k (o ∷ ((us ++ (c ∷ [])) ++ rest)) (o ∷ (us ++ (c ∷ rest))) rest (extended o es g) (ap (λ v. o ∷ v) (append_assoc us (c ∷ []) rest))
      (extension_made n k o c (us ++ (c ∷ rest)) rest es g j (members_begin (read n) k o (us ++ (c ∷ rest)) i h (row_no_names r (c ∷ rest) (brace_shuts c rest j).names _) (row_not_closed r (c ∷ rest)))
      (first_exact r n (c ∷ rest) (brace_shuts c rest j)))))
  exact (d_comprehension {is = is} {ts = ts} {us = us} {xs = xs} {p = p} {e = q} o dot bar c i x j d l m e r v) n k rest h s =
      exact_all (o ∷ (is ++ (dot ∷ (ts ++ (bar ∷ (us ++ (c ∷ []))))))) (comprehended o xs p q) 15 (comprehension_exact is ts us xs p q (edge d) (edge e) o dot bar c i x j (exact d) l m (exact e) r v) n k rest h s
  exact (d_builder {ts = ts} {us = us} {e = q} {p = p} o bar c i d l m e r v) n k rest h s =
      exact_all (o ∷ (ts ++ (bar ∷ (us ++ (c ∷ []))))) (built o q p) 15 (builder_exact ts us q p (edge d) (edge e) o bar c i d (exact d) l m (exact e) r v) n k rest h s
  exact (d_inverse {ts = ts} {p = p} t d a z i) n k rest h s =
      let g = admitted g.Post p.level (edge d) a (firm d z) in
      by_room n k _ rest _ (λ n. subst (λ v. Exact (suc n) k v rest (inverted p)) (sym (append_assoc ts (t ∷ []) rest))
      (turned_exact n k follow.Inverse t p (inverted p) (ts ++ (t ∷ rest)) rest rest i h a z (omega arith)
      (exact d (suc n) k (t ∷ rest) (omega (arith, g.1)) (follow_stops follow.Inverse t (edge d) rest i g.0))
      (inverse_turns n p rest)))
  exact (d_operator {ts = ts} {us = us} {p = p} {q = q} t op cs d a c i e l m) n k rest h s =
      let g = admitted (group_of op) p.level (edge d) a (firm d c) in
      let st = closing_stops op cs (edge e) rest m s in
      by_room n k _ rest _ (λ n. subst (λ z. Exact (suc n) k z rest (joined op p q)) (sym (spread ts us cs rest t))
      (turned_exact n k (follow.Operator op) t p (joined op p q) (ts ++ (t ∷ (us ++ (cs ++ rest)))) (us ++ (cs ++ rest)) rest i h a c (omega arith)
      (exact d (suc n) k (t ∷ (us ++ (cs ++ rest))) (omega (arith, g.1)) (follow_stops (follow.Operator op) t (edge d) (us ++ (cs ++ rest)) i g.0))
      (operator_turns n op p q cs (us ++ (cs ++ rest)) rest l m
      (operand_of us q (edge e) (exact e) n (right_of (group_of op)) (cs ++ rest) (takes_high (group_of op) q.level l) (stops_less _ _ (cs ++ rest) (omega arith) st) (stops_less _ _ (cs ++ rest) (omega arith) st)))))

  first_exact : {ts : List Token} {es : List Ast} {h : ℕ} → Exprs ts es h → (n : ℕ) (rest : List Token) → Shut rest → FirstRow n (ts ++ rest) rest es h
  first_exact (e_last {ts = ts} {p = p} d l) n rest z = first_last n ts rest p (edge d) (exact d) (expr_high p.level l) z
  first_exact (e_more {ts = ts} {us = us} {p = p} {es = es} {h = g} comma d l i r) n rest z =
      subst (λ v. FirstRow n v rest (p.tree ∷ es) (max p.height g)) (sym (append_assoc ts (comma ∷ us) rest)) (first_more n ts us rest comma p es g (edge d) i (exact d) (expr_high p.level l) (row_exact r) z)

  row_exact : {ts : List Token} {es : List Ast} {h : ℕ} → Exprs ts es h → RowAll ts es h
  row_exact (e_last {ts = ts} {p = p} d l) n m rest z h = last_row ts p (edge d) (none_long d) (exact d) (expr_high p.level l) n m rest z h
  row_exact (e_more {ts = ts} {us = us} {p = p} {es = es} {h = g} comma d l i r) n m rest z h = more_row ts us comma p es g (edge d) i (exact d) (expr_high p.level l) (row_exact r) n m rest z h

none_stops : (e : ℕ) (rest : List Token) → head_follow rest ≡ None → Stops e rest
none_stops e rest h f i = absurd cc

pub formula_read : (n k : ℕ) (ts rest : List Token) (p : Part) → Derives ts p → k ≤ p.level → p.height < n → head_follow rest ≡ None → read n k (ts ++ rest) ≡ Ok (p, rest)
formula_read n k ts rest p d h l s = whole (operand_of ts p (edge d) (exact d) n k rest h (none_stops k rest s) (none_stops (edge d) rest s))
  where
    whole : Operand n k (ts ++ rest) rest p → read n k (ts ++ rest) ≡ Ok (p, rest)
    whole (inl w) = w.is
    whole (inr w) = absurd (omega (arith, w.high))
