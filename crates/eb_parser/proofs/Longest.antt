-- A reading of tokens is the only one, and what is read is the longest formula.
use Rattle.std.proofs.Common.{◌≡◌, ◌∙◌, ◌⊎◌, inl, inr, ◌≤◌, ◌<◌, ◌+◌, ℕ, zero, suc, max, Bool, true, false, cond, List, [], ◌∷◌, ◌++◌, length, refl, sym, ap, subst, arith, IsTrue, append_assoc, length-append}
use Rattle.std.proofs.Math.Seq.{take-append_seam}
use Rattle.std.specs.Prelude.{take, Option, Some, None, Ok, Err, nat_lt}
use Rattle.std.proofs.lemmas.Bool.Decides.{nat_tests}
use Rattle.eb_signs.specs.declared.sign.Sign.TheVariants as sign
use Rattle.eb_lexer.specs.declared.token.Token.{Token}
use Rattle.eb_syntax.specs.declared.ast.Prefix.{Prefix}
use Rattle.eb_syntax.specs.declared.ast.Prefix.TheVariants as prefix
use Rattle.eb_syntax.specs.declared.ast.Operator.{Operator}
use Rattle.eb_syntax.specs.declared.ast.Quantifier.{Quantifier}
use Rattle.eb_syntax.specs.declared.ast.Binder.{Binder}
use Rattle.eb_syntax.specs.declared.ast.Bound.{Bound}
use Rattle.eb_syntax.specs.declared.ast.Identifier.{Identifier}
use Rattle.eb_syntax.specs.Asts as tree
use Rattle.eb_parser.specs.declared.part.Part.{Part}
use Rattle.eb_parser.specs.declared.fault.Fault.TheVariants.{Syntax, TooDeep}
use Rattle.eb_signs.specs.declared.levels.Group.{Group}
use Rattle.eb_signs.specs.declared.levels.Group.TheVariants as g
use Rattle.eb_parser.specs.declared.table.Start.TheVariants as start
use Rattle.eb_parser.specs.declared.table.Follow.{Follow}
use Rattle.eb_parser.specs.declared.table.Follow.TheVariants as follow
use Rattle.eb_signs.specs.Levels as level
use Rattle.eb_signs.specs.Levels.{is_pred, is_expr, group_of, level_of, admits, right_of, takes, joins_predicates, constant_level, prefix_level, prefix_takes}
use Rattle.eb_parser.specs.Signs.{IsSign, prefix_sign, quantifier_sign, binder_sign, operator_sign, closing_sign}
use Rattle.eb_parser.specs.Grammar.{Derives, Names, Binding, d_number, d_identifier, d_primed, d_constant, d_prefix, d_quantifier, d_call, d_partition, d_parentheses, d_binder, d_empty, d_extension, d_comprehension, d_builder, d_inverse, d_operator, Closes, leaf, prefixed, called, bracketed, inverted, joined, quantified, bound_by, comprehended, built, empty_braces, extended, partitioned}
use Rattle.eb_parser.specs.steps.Tables.{head_follow, row_of}
use Rattle.eb_parser.specs.steps.Climbing.{Reader, Reading, after_first, after_closing, operand_at, reading, joins, primary, predicate, body, binder_at, turn, resume, stop, go_on, climb, next_follow, read}
use Rattle.eb_parser.proofs.SignLaws.{prefix_starts, quantifier_starts, binder_starts}
use Rattle.eb_parser.proofs.Steps.{ok_inj, bind_ok, guard_ok, next_some, after_sign_ok, closing_means}
use Rattle.eb_parser.proofs.Equations.{climb_turn, climb_full}
use Rattle.eb_parser.proofs.Edges.{edge, firm, takes_high, prefix_high, expr_high, admitted, follow_stops}
use Rattle.eb_parser.proofs.Soundness.{read_sound}
use Rattle.eb_parser.proofs.Completeness.{exact, Exact, Operand, operand_of, ExactAll, formula_read, spread, compare_room, next_is, turn_ok, turn_deep, prefix_ok, prefix_deep, predicate_ok, predicate_deep, quantifier_ok, quantifier_deep, binder_ok, binder_deep, in_binder, bar_stops, begins_so, Ends, closes, goes, ends}

pub unique : (ts : List Token) (p q : Part) → Derives ts p → Derives ts q → p ≡ q
unique ts p q d e =
    let n = max p.height q.height + 1 in
    let a = formula_read n 0 ts [] p d (omega arith) (omega arith) refl in
    let c = formula_read n 0 ts [] q e (omega arith) (omega arith) refl in
    ap (λ z. z.0) (ok_inj (p, []) (q, []) (sym a ∙ c))

-- At the tokens of a formula the reader gets at least as far, with the same kind; or it is too deep.
pub data Reaches (r : Reading) (rest : List Token) (p : Part) : Type 0 where
  deep : r ≡ Err TooDeep → Reaches r rest p
  far : (q : Part) (end : List Token) → r ≡ Ok (q, end) → length end ≤ length rest → (p.level ≤ 3 → q.level ≤ 3) → Reaches r rest p

farther : (r : Reading) (near rest : List Token) (q p : Part) → length near ≤ length rest → (p.level ≤ 3 → q.level ≤ 3) → Reaches r near q → Reaches r rest p
farther r near rest q p h k (deep e) = deep e
farther r near rest q p h k (far x end e l i) = far x end e (omega arith) (λ z. i (k z))

same_reading : (r s : Reading) (rest : List Token) (p : Part) → r ≡ s → Reaches s rest p → Reaches r rest p
same_reading r s rest p e x = subst (λ z. Reaches z rest p) (sym e) x

Shrinks : Reader → Type 0
Shrinks inner = (k : ℕ) (ts : List Token) (y : Part × List Token) → inner k ts ≡ Ok y → length y.1 ≤ length ts

read_shrinks : (n : ℕ) → Shrinks (read n)
unfolding Shrinks
read_shrinks n k ts y e = let v = read_sound n k ts y e in omega (arith, ap length v.whole, length-append v.front y.1)

joined_kind : (op : Group) (l : ℕ) → IsTrue (admits op l) → l ≤ 3 → level_of op ≤ 3
joined_kind g.Implication l a h = omega arith
joined_kind g.Disjunction l a h = omega arith
joined_kind g.Conjunction l a h = omega arith
joined_kind g.Comparison l a h = omega arith
joined_kind g.Maplet l a h = grind (arith, nat_tests)
joined_kind g.Arrow l a h = grind (arith, nat_tests)
joined_kind g.Set l a h = grind (arith, nat_tests)
joined_kind g.Interval l a h = grind (arith, nat_tests)
joined_kind g.Sum l a h = grind (arith, nat_tests)
joined_kind g.Multiplication l a h = grind (arith, nat_tests)
joined_kind g.Exponentiation l a h = grind (arith, nat_tests)
joined_kind g.Post l a h = grind (arith, nat_tests)

-- a turn leaves no more tokens, and keeps the kind
record Turned (p : Part) (us : List Token) (z : Part × List Token) : Type 0 where
  less : length z.1 ≤ length us
  kind : p.level ≤ 3 → (z.0).level ≤ 3

turned : (inner : Reader) → Shrinks inner → (p : Part) (f : Follow) → IsTrue (admits (row_of f) p.level) → (us : List Token) (z : Part × List Token) → turn inner p f us ≡ Ok z → Turned p us z
unfolding turn operand_at Shrinks
turned inner s p follow.Inverse a us z e = subst (Turned p us) (ok_inj _ _ e) (record { less = omega arith; kind = joined_kind g.Post p.level a })
turned inner s p (follow.Operator op) a us z e =
    let q = bind_ok (operand_at inner op us) (joins op p) z e in
    let w = bind_ok (inner (right_of (group_of op)) us) _ q.0 q.1 in
    let g2 = guard_ok (takes (group_of op) (w.0.0).level) _ _ q.0 w.2 in
    let j = bind_ok (after_closing (closing_sign op) w.0.1) (λ us. reading w.0.0 us) q.0 g2.1 in
    let c = closing_means (closing_sign op) w.0.1 j.0 j.1 in
    let same : (w.0.0, j.0) ≡ q.0 = ok_inj _ _ j.2 in
    let r : Turned p us (joined op p w.0.0, j.0) = record { less = omega (arith, s (right_of (group_of op)) us w.0 w.1, ap length c.is, length-append c.signs j.0); kind = joined_kind (group_of op) p.level a } in
    subst (Turned p us) (ap (λ x. (joined op p x.0, x.1)) same ∙ ok_inj _ _ q.2) r

stays : (p : Part) (ts : List Token) → Reaches (Ok (p, ts)) ts p
stays p ts = far p ts refl (omega arith) (λ z. z)

resume_reaches : (go : Part → List Token → Reading) → ((p : Part) (ts : List Token) → Reaches (go p ts) ts p) → (p : Part) (ts us : List Token) → length us ≤ length ts
    → (r : Reading) → ((z : Part × List Token) → r ≡ Ok z → Turned p us z) → Reaches (resume go p ts r) ts p
resume_reaches go g p ts us h (Ok x) v = let w = v x refl in farther (go x.0 x.1) x.1 ts x.0 p (omega (arith, w.less)) w.kind (g x.0 x.1)
resume_reaches go g p ts us h (Err Syntax) v = stays p ts
resume_reaches go g p ts us h (Err TooDeep) v = deep refl

tail_less : (ts : List Token) → length (after_first ts) ≤ length ts
tail_less [] = omega arith
tail_less (t ∷ ts) = omega arith

go_on_reaches : (inner : Reader) (n k : ℕ) → Shrinks inner → (go : Part → List Token → Reading) → ((p : Part) (ts : List Token) → Reaches (go p ts) ts p)
    → (p : Part) (ts : List Token) (o : Option Follow) → next_follow k p (head_follow ts) ≡ o → Reaches (go_on go inner n p ts o) ts p
go_on_reaches inner n k s go g p ts None e = stays p ts
go_on_reaches inner n k s go g p ts (Some f) e = by_test (nat_lt p.height n)
  where
    by_test : (c : Bool) → Reaches (cond c (resume go p ts (turn inner p f (after_first ts))) (Err TooDeep)) ts p
    by_test true = resume_reaches go g p ts (after_first ts) (tail_less ts) (turn inner p f (after_first ts)) (turned inner s p f (next_some k p ts f e).fits (after_first ts))
    by_test false = deep refl

stop_reaches : (p : Part) (ts : List Token) (o : Option Follow) → Reaches (stop p ts o) ts p
stop_reaches p ts None = stays p ts
stop_reaches p ts (Some f) = deep refl

climb_reaches : (inner : Reader) (n k : ℕ) → Shrinks inner → (m : ℕ) (p : Part) (ts : List Token) → Reaches (climb inner n k m p ts) ts p
unfolding climb
climb_reaches inner n k s zero p ts = stop_reaches p ts (next_follow k p (head_follow ts))
climb_reaches inner n k s (suc m) p ts = go_on_reaches inner n k s (climb inner n k m) (climb_reaches inner n k s m) p ts (next_follow k p (head_follow ts)) refl

-- what begins with a formula of any kind
abbrev pub ReachesAll : List Token → Part → Type 0
ReachesAll ts p = (n k : ℕ) (rest : List Token) → k ≤ p.level → Reaches (read n k (ts ++ rest)) rest p

zero_reaches : (k : ℕ) (ts rest : List Token) (p : Part) → Reaches (read zero k ts) rest p
unfolding read
zero_reaches k ts rest p = deep refl

below_top : (op : Group) → level_of op < 15
below_top g.Implication = omega arith
below_top g.Disjunction = omega arith
below_top g.Conjunction = omega arith
below_top g.Comparison = omega arith
below_top g.Maplet = omega arith
below_top g.Arrow = omega arith
below_top g.Set = omega arith
below_top g.Interval = omega arith
below_top g.Sum = omega arith
below_top g.Multiplication = omega arith
below_top g.Exponentiation = omega arith
below_top g.Post = omega arith

-- what no operator can be taken inside of
closed_reaches : (ts : List Token) (p : Part) → ExactAll ts p 15 → ReachesAll ts p
closed_reaches ts p x zero k rest h = zero_reaches k (ts ++ rest) rest p
closed_reaches ts p x (suc n) k rest h = either (x (suc n) k rest h (λ f e. below_top (row_of f)))
  where
    either : Exact (suc n) k (ts ++ rest) rest p → Reaches (read (suc n) k (ts ++ rest)) rest p
    either (inl g) = same_reading _ _ rest p g.is (climb_reaches (read n) n k (read_shrinks n) g.turns p rest)
    either (inr g) = deep g.is

-- one operand, and then the loop
operand_reaches : (n k j : ℕ) (ts us rest : List Token) (p p' : Part) (make : Part → Part)
    → ((q : Part) → (make q).level ≡ p'.level)
    → Reaches (read n j us) rest p
    → ((q : Part) (end : List Token) → (p.level ≤ 3 → q.level ≤ 3) → j ≤ q.level → read n j us ≡ Ok (q, end) → primary (read n) k ts ≡ Ok (make q, end))
    → (read n j us ≡ Err TooDeep → primary (read n) k ts ≡ Err TooDeep)
    → Reaches (read (suc n) k ts) rest p'
unfolding read
operand_reaches n k j ts us rest p p' make lv (deep e) f g = deep (rw (g e) refl)
operand_reaches n k j ts us rest p p' make lv (far q end e l i) f g =
    same_reading _ (climb (read n) n k n (make q) end) rest p' (rw (f q end i (read_sound n j us (q, end) e).high e) refl)
    (farther _ end rest (make q) p' l (λ z. omega (arith, lv q)) (climb_reaches (read n) n k (read_shrinks n) n (make q) end))

prefix_kind : (op : Prefix) (a c : ℕ) → IsTrue (prefix_takes op a) → prefix_level op ≤ c → (a ≤ 3 → c ≤ 3) → IsTrue (prefix_takes op c)
prefix_kind prefix.Not a c h l i = let x : a ≤ 3 = grind (arith, nat_tests) in let y = i x in grind (arith, nat_tests)
prefix_kind prefix.Minus a c h l i = grind (arith, nat_tests)

pred_kind : (a c : ℕ) → IsTrue (is_pred a) → (a ≤ 3 → c ≤ 3) → IsTrue (is_pred c)
pred_kind a c h i = let x : a ≤ 3 = grind (arith, nat_tests) in let y = i x in grind (arith, nat_tests)

prefix_reaches : (ts : List Token) (p : Part) (t : Token) (op : Prefix) → IsSign t (prefix_sign op) → ReachesAll ts p → IsTrue (prefix_takes op p.level) → ReachesAll (t ∷ ts) (prefixed t op p)
prefix_reaches ts p t op i x l zero k rest h = zero_reaches k _ rest _
prefix_reaches ts p t op i x l (suc n) k rest h =
    let b = begins_so (read n) k t (prefix_sign op) (ts ++ rest) (start.Prefix op) i (prefix_starts op) in
    operand_reaches n k (prefix_level op) (t ∷ (ts ++ rest)) (ts ++ rest) rest p (prefixed t op p) (prefixed t op) (λ q. refl) (x n (prefix_level op) rest (prefix_high op p.level l))
    (λ q end z y e. b ∙ prefix_ok (read n) k t op (ts ++ rest) end q h (prefix_kind op p.level q.level l y z) e)
    (λ e. b ∙ prefix_deep (read n) k t op (ts ++ rest) h e)

quantifier_reaches : (is ts : List Token) (xs : List Identifier) (p : Part) (t dot : Token) (q : Quantifier) → IsSign t (quantifier_sign q) → Names is xs → IsSign dot sign.Dot → ReachesAll ts p → IsTrue (is_pred p.level)
    → ReachesAll (t ∷ (is ++ (dot ∷ ts))) (quantified t q xs p)
quantifier_reaches is ts xs p t dot q i d j x l zero k rest h = zero_reaches k _ rest _
quantifier_reaches is ts xs p t dot q i d j x l (suc n) k rest h =
    let b = begins_so (read n) k t (quantifier_sign q) (is ++ (dot ∷ (ts ++ rest))) (start.Quantifier q) i (quantifier_starts q) in
    let same : t ∷ ((is ++ (dot ∷ ts)) ++ rest) ≡ t ∷ (is ++ (dot ∷ (ts ++ rest))) = ap (λ z. t ∷ z) (append_assoc is (dot ∷ ts) rest) in
    subst (λ v. Reaches (read (suc n) k v) rest (quantified t q xs p)) (sym same)
    (operand_reaches n k level.pred (t ∷ (is ++ (dot ∷ (ts ++ rest)))) (ts ++ rest) rest p (quantified t q xs p) (quantified t q xs) (λ r. refl) (x n level.pred rest (omega arith))
    (λ r end z y e. b ∙ quantifier_ok (read n) k t q is (ts ++ rest) end xs dot r h d j (predicate_ok (read n) (ts ++ rest) end r (pred_kind p.level r.level l z) e))
    (λ e. b ∙ quantifier_deep (read n) k t q is (ts ++ rest) xs dot h d j (predicate_deep (read n) (ts ++ rest) e)))

body_far : (inner : Reader) (ts us end : List Token) (bar : Token) (p q : Part) → IsSign bar sign.Bar → predicate inner ts ≡ Ok (p, bar ∷ us) → inner level.expr us ≡ Ok (q, end) → body inner ts ≡ Ok (p, q, end)
unfolding body
body_far inner ts us end bar p q i w e = rw w (rw (after_sign_ok sign.Bar bar us i) (rw e refl))

body_sunk : (inner : Reader) (ts us : List Token) (bar : Token) (p : Part) → IsSign bar sign.Bar → predicate inner ts ≡ Ok (p, bar ∷ us) → inner level.expr us ≡ Err TooDeep → body inner ts ≡ Err TooDeep
unfolding body
body_sunk inner ts us bar p i w e = rw w (rw (after_sign_ok sign.Bar bar us i) (rw e refl))

body_lost : (inner : Reader) (ts : List Token) → predicate inner ts ≡ Err TooDeep → body inner ts ≡ Err TooDeep
unfolding body
body_lost inner ts w = rw w refl

sunk_reaches : (n k : ℕ) (ts rest : List Token) (p : Part) → primary (read n) k ts ≡ Err TooDeep → Reaches (read (suc n) k ts) rest p
unfolding read
sunk_reaches n k ts rest p e = deep (rw e refl)

binder_reaches : (is ts us : List Token) (b : Bound) (p q : Part) (e : ℕ) (t dot bar : Token) (op : Binder) → IsSign t (binder_sign op) → Binding op is b → IsSign dot sign.Dot
    → ExactAll ts p e → IsTrue (is_pred p.level) → IsSign bar sign.Bar → ReachesAll us q → IsTrue (is_expr q.level)
    → ReachesAll (t ∷ (is ++ (dot ∷ (ts ++ (bar ∷ us))))) (bound_by t op b p q)
binder_reaches is ts us b p q e t dot bar op i o j x l m y r zero k rest h = zero_reaches k _ rest _
binder_reaches is ts us b p q e t dot bar op i o j x l m y r (suc n) k rest h =
    subst (λ v. Reaches (read (suc n) k v) rest (bound_by t op b p q)) (sym same)
    (by_pred (operand_of ts p e x n level.pred (bar ∷ (us ++ rest)) (omega arith) (bar_stops bar _ (us ++ rest) m) (bar_stops bar e (us ++ rest) m)))
  where
    same : t ∷ ((is ++ (dot ∷ (ts ++ (bar ∷ us)))) ++ rest) ≡ t ∷ (is ++ (dot ∷ (ts ++ (bar ∷ (us ++ rest)))))
    same = ap (λ v. t ∷ v) (in_binder is ts us rest dot bar)

    z : primary (read n) k (t ∷ (is ++ (dot ∷ (ts ++ (bar ∷ (us ++ rest)))))) ≡ binder_at (read n) k t op (is ++ (dot ∷ (ts ++ (bar ∷ (us ++ rest)))))
    z = begins_so (read n) k t (binder_sign op) (is ++ (dot ∷ (ts ++ (bar ∷ (us ++ rest))))) (start.Binder op) i (binder_starts op)

    by_pred : Operand n level.pred (ts ++ (bar ∷ (us ++ rest))) (bar ∷ (us ++ rest)) p → Reaches (read (suc n) k (t ∷ (is ++ (dot ∷ (ts ++ (bar ∷ (us ++ rest))))))) rest (bound_by t op b p q)
    by_pred (inr w) = sunk_reaches n k _ rest _ (z ∙ binder_deep (read n) k t dot op is (ts ++ (bar ∷ (us ++ rest))) b h o j (body_lost (read n) (ts ++ (bar ∷ (us ++ rest))) (predicate_deep (read n) (ts ++ (bar ∷ (us ++ rest))) w.is)))
    by_pred (inl w) =
        let a = predicate_ok (read n) (ts ++ (bar ∷ (us ++ rest))) (bar ∷ (us ++ rest)) p l w.is in
        operand_reaches n k level.expr (t ∷ (is ++ (dot ∷ (ts ++ (bar ∷ (us ++ rest)))))) (us ++ rest) rest q (bound_by t op b p q) (bound_by t op b p) (λ v. refl) (y n level.expr rest (expr_high q.level r))
        (λ v end c d f. z ∙ binder_ok (read n) k t dot op is (ts ++ (bar ∷ (us ++ rest))) end b p v h o j (body_far (read n) (ts ++ (bar ∷ (us ++ rest))) (us ++ rest) end bar p v m a f))
        (λ f. z ∙ binder_deep (read n) k t dot op is (ts ++ (bar ∷ (us ++ rest))) b h o j (body_sunk (read n) (ts ++ (bar ∷ (us ++ rest))) (us ++ rest) bar p m a f))

takes_kind : (op : Group) (a c : ℕ) → IsTrue (takes op a) → right_of op ≤ c → (a ≤ 3 → c ≤ 3) → IsTrue (takes op c)
takes_kind op a c h l i = by_test (joins_predicates op) refl
  where
    by_test : (x : Bool) → joins_predicates op ≡ x → IsTrue (takes op c)
    by_test true e = let y : a ≤ 3 = grind (arith, nat_tests) in let z = i y in grind (arith, nat_tests)
    by_test false e = grind (arith, nat_tests)

no_signs : (op : Operator) → closing_sign op ≡ None → Closes (closing_sign op) []
no_signs op h = subst (λ z. Closes z []) (sym h) refl

joined_reaches : (n k : ℕ) (op : Operator) (t : Token) (p q : Part) (whole us rest : List Token) → IsSign t (operator_sign op) → k ≤ level_of (group_of op) → IsTrue (admits (group_of op) p.level) → p.loose ≡ false → IsTrue (takes (group_of op) q.level)
    → closing_sign op ≡ None
    → Exact (suc n) k whole (t ∷ us) p → Reaches (read n (right_of (group_of op)) us) rest q → Reaches (read (suc n) k whole) rest (joined op p q)
joined_reaches n k op t p q whole us rest s h a c i z (inr d) o = deep d.is
joined_reaches n k op t p q whole us rest s h a c i z (inl g) o = by_height (compare_room p.height n) o g.turns g.enough g.is
  where
    e : next_follow k p (head_follow (t ∷ us)) ≡ Some (follow.Operator op)
    e = next_is k p (follow.Operator op) t us s h a c

    by_height : (p.height < n) ⊎ (n ≤ p.height) → Reaches (read n (right_of (group_of op)) us) rest q → (turns : ℕ) → n ≤ turns + p.height
        → read (suc n) k whole ≡ climb (read n) n k turns p (t ∷ us) → Reaches (read (suc n) k whole) rest (joined op p q)
    by_height (inr x) o turns y w = deep (w ∙ climb_full (read n) n k turns p (t ∷ us) (follow.Operator op) e x)
    by_height (inl x) o zero y w = absurd (omega arith)
    by_height (inl x) (deep v) (suc turns) y w = deep (w ∙ (climb_turn (read n) n k turns p (t ∷ us) (follow.Operator op) e x ∙ ap (resume (climb (read n) n k turns) p (t ∷ us)) (turn_deep (read n) p op us v)))
    by_height (inl x) (far q' end v l j) (suc turns) y w =
        let high = (read_sound n (right_of (group_of op)) us (q', end) v).high in
        let fits = takes_kind (group_of op) q.level q'.level i high j in
        let step = turn_ok (read n) p q' op [] us end fits (no_signs op z) v in
        same_reading _ (climb (read n) n k turns (joined op p q') end) rest (joined op p q)
        (w ∙ (climb_turn (read n) n k turns p (t ∷ us) (follow.Operator op) e x ∙ ap (resume (climb (read n) n k turns) p (t ∷ us)) step))
        (farther _ end rest (joined op p q') (joined op p q) l (λ m. m) (climb_reaches (read n) n k (read_shrinks n) turns (joined op p q') end))

operator_reaches : (op : Operator) (t : Token) (cs ts us : List Token) (p q : Part) (d : Derives ts p) → IsTrue (admits (group_of op) p.level) → p.loose ≡ false → IsSign t (operator_sign op) → (e : Derives us q) → IsTrue (takes (group_of op) q.level) → Closes (closing_sign op) cs
    → ReachesAll us q → Ends op → ReachesAll (ts ++ (t ∷ (us ++ cs))) (joined op p q)
unfolding edge
operator_reaches op t cs ts us p q d a c s e i m x (closes sg y w z) n k rest h = closed_reaches (ts ++ (t ∷ (us ++ cs))) (joined op p q) (subst (ExactAll (ts ++ (t ∷ (us ++ cs))) (joined op p q)) (z (edge e)) (exact (d_operator t op cs d a c s e i m))) n k rest h
operator_reaches op t cs ts us p q d a c s e i m x (goes y z) zero k rest h = zero_reaches k _ rest _
operator_reaches op t cs ts us p q d a c s e i m x (goes y z) (suc n) k rest h =
    let g = admitted (group_of op) p.level (edge d) a (firm d c) in
    let none : cs ≡ [] = subst (λ v. Closes v cs) y m in
    let same : (ts ++ (t ∷ (us ++ cs))) ++ rest ≡ ts ++ (t ∷ (us ++ rest)) = spread ts us cs rest t ∙ ap (λ v. ts ++ (t ∷ (us ++ (v ++ rest)))) none in
    subst (λ v. Reaches (read (suc n) k v) rest (joined op p q)) (sym same)
    (joined_reaches n k op t p q (ts ++ (t ∷ (us ++ rest))) (us ++ rest) rest s h a c i y
    (exact d (suc n) k (t ∷ (us ++ rest)) (omega (arith, g.1)) (follow_stops (follow.Operator op) t (edge d) (us ++ rest) s g.0))
    (x n (right_of (group_of op)) rest (takes_high (group_of op) q.level i)))

pub reaches : {ts : List Token} {p : Part} → Derives ts p → ReachesAll ts p
unfolding edge
reaches (d_number t m e) n k rest h = closed_reaches (t ∷ []) (leaf level.prim (tree.number t.start m)) (exact (d_number t m e)) n k rest h
reaches (d_identifier t x e) n k rest h = closed_reaches (t ∷ []) (leaf level.prim (tree.identifier t.start x)) (exact (d_identifier t x e)) n k rest h
reaches (d_primed t x e) n k rest h = closed_reaches (t ∷ []) (leaf level.prim (tree.primed t.start x)) (exact (d_primed t x e)) n k rest h
reaches (d_constant t c e) n k rest h = closed_reaches (t ∷ []) (leaf (constant_level c) (tree.constant t.start c)) (exact (d_constant t c e)) n k rest h
reaches (d_prefix {ts = us} {p = p} t op i d l) n k rest h = prefix_reaches us p t op i (reaches d) l n k rest h
reaches (d_quantifier {is = is} {ts = us} {xs = xs} {p = p} t dot q i j o d l) n k rest h = quantifier_reaches is us xs p t dot q i j o (reaches d) l n k rest h
reaches (d_call {ts = us} {p = p} t o c op i j d l m) n k rest h = closed_reaches (t ∷ o ∷ (us ++ (c ∷ []))) (called t op p) (exact (d_call t o c op i j d l m)) n k rest h
reaches (d_partition {ts = us} {es = es} {h = g} t o c i j r m) n k rest h = closed_reaches (t ∷ o ∷ (us ++ (c ∷ []))) (partitioned t es g) (exact (d_partition t o c i j r m)) n k rest h
reaches (d_parentheses {ts = us} {p = p} o c i d j) n k rest h = closed_reaches (o ∷ (us ++ (c ∷ []))) (bracketed o p) (exact (d_parentheses o c i d j)) n k rest h
reaches (d_binder {is = is} {ts = ts} {us = us} {b = b} {p = p} {e = q} t dot bar op i o j d l m e r) n k rest h = binder_reaches is ts us b p q (edge d) t dot bar op i o j (exact d) l m (reaches e) r n k rest h
reaches (d_empty o c i j) n k rest h = closed_reaches (o ∷ c ∷ []) (empty_braces o) (exact (d_empty o c i j)) n k rest h
reaches (d_extension {ts = us} {es = es} {h = g} o c i r j) n k rest h = closed_reaches (o ∷ (us ++ (c ∷ []))) (extended o es g) (exact (d_extension o c i r j)) n k rest h
reaches (d_comprehension {is = is} {ts = ts} {us = us} {xs = xs} {p = p} {e = q} o dot bar c i x j d l m e r v) n k rest h =
    closed_reaches (o ∷ (is ++ (dot ∷ (ts ++ (bar ∷ (us ++ (c ∷ []))))))) (comprehended o xs p q) (exact (d_comprehension o dot bar c i x j d l m e r v)) n k rest h
reaches (d_builder {ts = ts} {us = us} {e = q} {p = p} o bar c i d l m e r v) n k rest h = closed_reaches (o ∷ (ts ++ (bar ∷ (us ++ (c ∷ []))))) (built o q p) (exact (d_builder o bar c i d l m e r v)) n k rest h
reaches (d_inverse {ts = ts} {p = p} t d a z i) n k rest h = closed_reaches (ts ++ (t ∷ [])) (inverted p) (exact (d_inverse t d a z i)) n k rest h
reaches (d_operator {ts = ts} {us = us} {p = p} {q = q} t op cs d a c i e l m) n k rest h = operator_reaches op t cs ts us p q d a c i e l m (reaches e) (ends op) n k rest h

-- the laws
reached : (r : Reading) (rest : List Token) (p q : Part) (end : List Token) → r ≡ Ok (q, end) → Reaches r rest p → length end ≤ length rest
reached r rest p q end e (deep x) = absurd cc
reached r rest p q end e (far y z x l i) = let s = ok_inj (y, z) (q, end) (sym x ∙ e) in omega (arith, ap (λ v. length v.1) s)

pub longest : (n k : ℕ) (us more end : List Token) (p q : Part) → Derives us p → k ≤ p.level → read n k (us ++ more) ≡ Ok (q, end) → length end ≤ length more
longest n k us more end p q d h e = reached _ more p q end e (reaches d n k more h)

pub refused : (n k : ℕ) (us more : List Token) (p : Part) → Derives us p → k ≤ p.level → read n k (us ++ more) ≡ Err Syntax → ⊥
refused n k us more p d h e = by_case (reaches d n k more h)
  where
    by_case : Reaches (read n k (us ++ more)) more p → ⊥
    by_case (deep x) = cc
    by_case (far y z x l i) = cc

same_front : (us vs more rest : List Token) → vs ++ rest ≡ us ++ more → length vs ≡ length us → vs ≡ us
same_front us vs more rest e h = sym (take-append_seam vs rest) ∙ (ap (take (length vs)) e ∙ (ap (λ n. take n (us ++ more)) h ∙ take-append_seam us more))

-- a formula as high as the depth, and the longest at its place, is too deep
pub too_high : (n k : ℕ) (us more : List Token) (p : Part) → Derives us p → k ≤ p.level → n ≤ p.height
    → ((vs rest : List Token) (q : Part) → Derives vs q → k ≤ q.level → (p.level ≤ 3 → q.level ≤ 3) → vs ++ rest ≡ us ++ more → length more ≤ length rest)
    → read n k (us ++ more) ≡ Err TooDeep
too_high n k us more p d h i l = by_case (read n k (us ++ more)) refl (reaches d n k more h)
  where
    by_case : (r : Reading) → read n k (us ++ more) ≡ r → Reaches r more p → r ≡ Err TooDeep
    by_case r e (deep x) = x
    by_case r e (far q rest x y z) =
        let v = read_sound n k (us ++ more) (q, rest) (e ∙ x) in
        let c = l v.front rest q v.derived v.high z (sym v.whole) in
        let s : v.front ≡ us = same_front us v.front more rest (sym v.whole) (omega (arith, ap length v.whole, length-append us more, length-append v.front rest)) in
        let same = unique us q p (subst (λ z. Derives z q) s v.derived) d in
        absurd (omega (arith, v.low, ap (λ z. z.height) same))

kept_kind : (r : Reading) (rest : List Token) (p q : Part) (end : List Token) → r ≡ Ok (q, end) → p.level ≤ 3 → Reaches r rest p → q.level ≤ 3
kept_kind r rest p q end e h (deep x) = absurd cc
kept_kind r rest p q end e h (far y z x l i) = let s = ok_inj (y, z) (q, end) (sym x ∙ e) in omega (arith, i h, ap (λ v. (v.0).level) s)

pub kept : (n k : ℕ) (us more end : List Token) (p q : Part) → Derives us p → k ≤ p.level → p.level ≤ 3 → read n k (us ++ more) ≡ Ok (q, end) → q.level ≤ 3
kept n k us more end p q d h i e = kept_kind _ more p q end e i (reaches d n k more h)
