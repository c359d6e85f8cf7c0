-- Equations of the reader, for its code.
use Rattle.std.proofs.Common.{◌≡◌, ◌∙◌, ◌≤◌, ◌<◌, ◌-◌, ℕ, zero, suc, refl, sym, ap, arith, append_assoc}
use Rattle.std.specs.Prelude.{Option, Some, None, if◌then◌else◌, Result, Ok, Err, Bool, true, false, cond, max, List, [], ◌∷◌, ◌++◌, length, nat_lt, nat_le}
use Rattle.std.proofs.lemmas.Bool.Decides.{nat_tests}
use Rattle.eb_lexer.specs.declared.token.Token.{Token}
use Rattle.eb_signs.specs.declared.sign.Sign.TheVariants as s
use Rattle.eb_syntax.specs.declared.ast.Ast.{Ast}
use Rattle.eb_syntax.specs.declared.ast.Mark.{Mark}
use Rattle.eb_syntax.specs.declared.ast.Identifier.{Identifier}
use Rattle.eb_parser.specs.declared.part.Part.{Part}
use Rattle.eb_parser.specs.declared.fault.Fault.{Fault}
use Rattle.eb_parser.specs.declared.fault.Fault.TheVariants.{Syntax, TooDeep}
use Rattle.eb_parser.specs.declared.fault.Stop.{Stop}
use Rattle.eb_parser.specs.declared.fault.Stop.TheVariants as stopped
use Rattle.eb_parser.specs.declared.table.Follow.{Follow}
use Rattle.eb_syntax.specs.declared.ast.Prefix.{Prefix}
use Rattle.eb_syntax.specs.declared.ast.Call.{Call}
use Rattle.eb_syntax.specs.declared.ast.Operator.{Operator}
use Rattle.eb_signs.specs.declared.sign.Sign.{Sign}
use Rattle.eb_signs.specs.Levels as level
use Rattle.eb_signs.specs.Levels.{is_pred, group_of, right_of, takes, prefix_level, prefix_takes, call_level, call_takes}
use Rattle.eb_parser.specs.Signs.{closing_sign}
use Rattle.eb_parser.specs.Grammar.{prefixed, called, bracketed, comprehended, built, extended, partitioned}
use Rattle.eb_parser.specs.steps.Tables.{head_follow}
use Rattle.eb_parser.specs.steps.Climbing.{◌>>=◌, Reader, Reading, Listing, Naming, Marking, primary, climb, read, names, name_at, separator, pattern, mark_at, state_after, ends_pattern, marks_on, row, row_on, row_after, begins, after_first, turn, tried, next_follow, resume, Fails, reading, after_sign, after_closing, behind, closed, leaf_at, prefix_at, predicate, call_at, call_least, parentheses_at, partition_at, body, comprehension_at, builder_at, extension_at, operand_at}

pub read_zero : (k : ℕ) (ts : List Token) → read 0 k ts ≡ Err TooDeep
unfolding read
read_zero k ts = refl

pub read_below : (n k : ℕ) (ts : List Token) → 0 < n → read n k ts ≡ (primary (read (n - 1)) k ts >>= λ x. climb (read (n - 1)) (n - 1) k (n - 1) x.0 x.1)
unfolding read
read_below zero k ts h = absurd (omega arith)
read_below (suc n) k ts h = let e : suc n - 1 ≡ n = omega arith in rw e refl

err : {A : Type 0} → Fault → Result A Fault
err f = Err f

-- What fails in a step fails in what the step is of.
pub failing : {A B : Type 0} (e : Stop) (r : Result A Fault) (whole x : Result B Fault) → ((f : Fault) → r ≡ Err f → whole ≡ Err f) → Fails e r → whole ≡ x → Fails e x
failing stopped.Memory r whole x g h i = tt
failing (stopped.Fault f) r whole x g h i = sym i ∙ g f h

-- what stands before names that are still to be read
abbrev pub names_with : List Identifier → Naming → Naming
names_with xs r = r >>= λ z. Ok (xs ++ z.0, z.1)

names_moved : (xs : List Identifier) (x : Identifier) (r : Naming) → names_with xs (r >>= λ z. Ok (x ∷ z.0, z.1)) ≡ names_with (xs ++ x ∷ []) r
names_moved xs x (Ok z) = rw (append_assoc xs (x ∷ []) z.0) refl
names_moved xs x (Err f) = refl

pub names_turn : (m : ℕ) (xs : List Identifier) (ts us vs : List Token) (x : Identifier) → 0 < m → name_at ts ≡ Ok (x, us) → separator us ≡ Ok (true, vs)
    → names_with xs (names m ts) ≡ names_with (xs ++ x ∷ []) (names (m - 1) vs)
unfolding names
names_turn zero xs ts us vs x l e i = absurd (omega arith)
names_turn (suc m) xs ts us vs x l e i = let k : suc m - 1 ≡ m = omega arith in rw (k, e) (rw i (names_moved xs x (names m vs)))

pub names_end : (m : ℕ) (xs : List Identifier) (ts us vs : List Token) (x : Identifier) → 0 < m → name_at ts ≡ Ok (x, us) → separator us ≡ Ok (false, vs)
    → names_with xs (names m ts) ≡ Ok (xs ++ x ∷ [], vs)
unfolding names
names_end zero xs ts us vs x l e i = absurd (omega arith)
names_end (suc m) xs ts us vs x l e i = rw e (rw i refl)

names_bad : (m : ℕ) (xs : List Identifier) (ts : List Token) → 0 < m → (f : Fault) → name_at ts ≡ Err f → names_with xs (names m ts) ≡ Err f
unfolding names
names_bad zero xs ts l f e = absurd (omega arith)
names_bad (suc m) xs ts l f e = rw e refl

names_apart : (m : ℕ) (xs : List Identifier) (ts us : List Token) (x : Identifier) → 0 < m → name_at ts ≡ Ok (x, us) → (f : Fault) → separator us ≡ Err f → names_with xs (names m ts) ≡ Err f
unfolding names
names_apart zero xs ts us x l e f i = absurd (omega arith)
names_apart (suc m) xs ts us x l e f i = rw e (rw i refl)

pub names_fails : (m : ℕ) (xs : List Identifier) (ts : List Token) (e : Stop) (y : Naming) → 0 < m → Fails e (name_at ts) → names_with xs (names m ts) ≡ y → Fails e y
names_fails m xs ts e y l h i = failing e (name_at ts) (names_with xs (names m ts)) y (names_bad m xs ts l) h i

pub names_parts : (m : ℕ) (xs : List Identifier) (ts us : List Token) (x : Identifier) (e : Stop) (y : Naming) → 0 < m → name_at ts ≡ Ok (x, us) → Fails e (separator us) → names_with xs (names m ts) ≡ y → Fails e y
names_parts m xs ts us x e y l o h i = failing e (separator us) (names_with xs (names m ts)) y (names_apart m xs ts us x l o) h i

pub names_none : (m : ℕ) (xs : List Identifier) (ts : List Token) → m ≡ 0 → names_with xs (names m ts) ≡ Err Syntax
unfolding names
names_none zero xs ts e = refl
names_none (suc m) xs ts e = absurd (omega arith)

-- what stands before a pattern that is still to be read
abbrev pub marks_with : List Mark → Marking → Marking
marks_with xs r = r >>= λ z. Ok (xs ++ z.0, z.1)

marks_moved : (xs : List Mark) (x : Mark) (r : Marking) → marks_with xs (marks_on x r) ≡ marks_with (xs ++ x ∷ []) r
marks_moved xs x (Ok z) = rw (append_assoc xs (x ∷ []) z.0) refl
marks_moved xs x (Err f) = refl

pub pattern_turn : (m : ℕ) (xs : List Mark) (due : Bool) (depth : ℕ) (ts : List Token) (x : Mark) (next : Bool) (more : ℕ) → 0 < m → ends_pattern due depth ts ≡ false → mark_at ts ≡ Ok x
    → state_after due depth x ≡ Ok (next, more) → marks_with xs (pattern m due depth ts) ≡ marks_with (xs ++ x ∷ []) (pattern (m - 1) next more (after_first ts))
unfolding pattern
pattern_turn zero xs due depth ts x next more l n e i = absurd (omega arith)
pattern_turn (suc m) xs due depth ts x next more l n e i = let k : suc m - 1 ≡ m = omega arith in rw (k, n, e) (rw i (marks_moved xs x (pattern m next more (after_first ts))))

append_none : (xs : List Mark) → xs ++ [] ≡ xs
append_none [] = refl
append_none (x ∷ xs) = ap (λ z. x ∷ z) (append_none xs)

pub pattern_end : (m : ℕ) (xs : List Mark) (due : Bool) (depth : ℕ) (ts : List Token) → 0 < m → ends_pattern due depth ts ≡ true → marks_with xs (pattern m due depth ts) ≡ Ok (xs, after_first ts)
unfolding pattern
pattern_end zero xs due depth ts l n = absurd (omega arith)
pattern_end (suc m) xs due depth ts l n = rw (n, append_none xs) refl

pattern_bad : (m : ℕ) (xs : List Mark) (due : Bool) (depth : ℕ) (ts : List Token) → 0 < m → ends_pattern due depth ts ≡ false → (f : Fault) → mark_at ts ≡ Err f → marks_with xs (pattern m due depth ts) ≡ Err f
unfolding pattern
pattern_bad zero xs due depth ts l n f e = absurd (omega arith)
pattern_bad (suc m) xs due depth ts l n f e = rw (n, e) refl

pattern_apart : (m : ℕ) (xs : List Mark) (due : Bool) (depth : ℕ) (ts : List Token) (x : Mark) → 0 < m → ends_pattern due depth ts ≡ false → mark_at ts ≡ Ok x → (f : Fault) → state_after due depth x ≡ Err f
    → marks_with xs (pattern m due depth ts) ≡ Err f
unfolding pattern
pattern_apart zero xs due depth ts x l n e f i = absurd (omega arith)
pattern_apart (suc m) xs due depth ts x l n e f i = rw (n, e) (rw i refl)

pub pattern_fails : (m : ℕ) (xs : List Mark) (due : Bool) (depth : ℕ) (ts : List Token) (e : Stop) (y : Marking) → 0 < m → ends_pattern due depth ts ≡ false → Fails e (mark_at ts)
    → marks_with xs (pattern m due depth ts) ≡ y → Fails e y
pattern_fails m xs due depth ts e y l n h i = failing e (mark_at ts) (marks_with xs (pattern m due depth ts)) y (pattern_bad m xs due depth ts l n) h i

pub pattern_parts : (m : ℕ) (xs : List Mark) (due : Bool) (depth : ℕ) (ts : List Token) (x : Mark) (e : Stop) (y : Marking) → 0 < m → ends_pattern due depth ts ≡ false → mark_at ts ≡ Ok x
    → Fails e (state_after due depth x) → marks_with xs (pattern m due depth ts) ≡ y → Fails e y
pattern_parts m xs due depth ts x e y l n o h i = failing e (state_after due depth x) (marks_with xs (pattern m due depth ts)) y (pattern_apart m xs due depth ts x l n o) h i

pub pattern_none : (m : ℕ) (xs : List Mark) (due : Bool) (depth : ℕ) (ts : List Token) → m ≡ 0 → marks_with xs (pattern m due depth ts) ≡ Err Syntax
unfolding pattern
pattern_none zero xs due depth ts e = refl
pattern_none (suc m) xs due depth ts e = absurd (omega arith)

-- what stands before expressions that are still to be read
abbrev pub row_with : List Ast → ℕ → Listing → Listing
row_with es h r = r >>= λ x. Ok (es ++ x.0, max h x.1, x.2)

abbrev pub row_state : Reader → ℕ → List Ast → ℕ → List Token → Listing
row_state inner m es h ts = if begins s.Comma ts then row_with es h (row inner m (after_first ts)) else Ok (es, h, ts)

pub row_start : (inner : Reader) (m : ℕ) (p : Part) (ts : List Token) → row_state inner m (p.tree ∷ []) p.height ts ≡ row_after inner m p ts
unfolding row_after row_on
row_start inner m p ts = refl

row_step : Part → List Ast × ℕ × List Token → Listing
row_step p x = Ok (p.tree ∷ x.0, max p.height x.1, x.2)

row_moved : (es : List Ast) (h : ℕ) (p : Part) (r : Listing) → row_with es h (r >>= row_step p) ≡ row_with (es ++ p.tree ∷ []) (max h p.height) r
unfolding row_step
row_moved es h p (Ok x) = let e : max h (max p.height x.1) ≡ max (max h p.height) x.1 = omega arith in rw (e, append_assoc es (p.tree ∷ []) x.0) refl
row_moved es h p (Err f) = refl

row_more : (inner : Reader) (m : ℕ) (es : List Ast) (h : ℕ) (p : Part) (ts : List Token) → row_with es h (row_on (row inner m) p ts) ≡ row_state inner m (es ++ p.tree ∷ []) (max h p.height) ts
unfolding row_on row_step
row_more inner m es h p ts = by_test (begins s.Comma ts)
  where
    by_test : (c : Bool) → row_with es h (cond c (row inner m (after_first ts) >>= row_step p) (Ok (p.tree ∷ [], p.height, ts)))
        ≡ cond c (row_with (es ++ p.tree ∷ []) (max h p.height) (row inner m (after_first ts))) (Ok (es ++ p.tree ∷ [], max h p.height, ts))
    by_test true = row_moved es h p (row inner m (after_first ts))
    by_test false = refl

pub row_turn : (inner : Reader) (m : ℕ) (es : List Ast) (h : ℕ) (ts us : List Token) (p : Part) → 0 < m → begins s.Comma ts ≡ true → inner level.expr (after_first ts) ≡ Ok (p, us)
    → row_state inner m es h ts ≡ row_state inner (m - 1) (es ++ p.tree ∷ []) (max h p.height) us
unfolding row
row_turn inner zero es h ts us p l c e = absurd (omega arith)
row_turn inner (suc m) es h ts us p l c e = let k : suc m - 1 ≡ m = omega arith in rw (k, c, e) (row_more inner m es h p us)

pub row_end : (inner : Reader) (m : ℕ) (es : List Ast) (h : ℕ) (ts : List Token) → begins s.Comma ts ≡ false → row_state inner m es h ts ≡ Ok (es, h, ts)
row_end inner m es h ts c = rw c refl

row_bad : (inner : Reader) (m : ℕ) (es : List Ast) (h : ℕ) (ts : List Token) → 0 < m → begins s.Comma ts ≡ true → (f : Fault) → inner level.expr (after_first ts) ≡ Err f → row_state inner m es h ts ≡ Err f
unfolding row
row_bad inner zero es h ts l c f e = absurd (omega arith)
row_bad inner (suc m) es h ts l c f e = rw (c, e) refl

pub row_fails : (inner : Reader) (m : ℕ) (es : List Ast) (h : ℕ) (ts : List Token) (e : Stop) (y : Listing) → 0 < m → begins s.Comma ts ≡ true → Fails e (inner level.expr (after_first ts))
    → row_state inner m es h ts ≡ y → Fails e y
row_fails inner m es h ts e y l c x i = failing e (inner level.expr (after_first ts)) (row_state inner m es h ts) y (row_bad inner m es h ts l c) x i

pub row_none : (inner : Reader) (m : ℕ) (es : List Ast) (h : ℕ) (ts : List Token) → m ≡ 0 → begins s.Comma ts ≡ true → row_state inner m es h ts ≡ Err Syntax
unfolding row
row_none inner zero es h ts e c = rw c refl
row_none inner (suc m) es h ts e c = absurd (omega arith)

-- turns of the loop
abbrev pub turned : (Part → List Token → Reading) → List Token → Part × Option (List Token) → Reading
turned go ts (p, None) = Ok (p, ts)
turned go ts (p, Some us) = go p us

resumed : (go : Part → List Token → Reading) (p : Part) (ts : List Token) (r : Reading) → resume go p ts r ≡ (tried p r >>= turned go ts)
resumed go p ts (Ok x) = refl
resumed go p ts (Err Syntax) = refl
resumed go p ts (Err TooDeep) = refl

pub climb_turn : (inner : Reader) (n k m : ℕ) (p : Part) (ts : List Token) (f : Follow) → next_follow k p (head_follow ts) ≡ Some f → p.height < n
    → climb inner n k (suc m) p ts ≡ resume (climb inner n k m) p ts (turn inner p f (after_first ts))
unfolding climb
climb_turn inner n k m p ts f e h = let g : nat_lt p.height n ≡ true = grind (arith, nat_tests) in rw (e, g) refl

pub climb_step : (inner : Reader) (n k m : ℕ) (p : Part) (ts : List Token) (f : Follow) → 0 < m → next_follow k p (head_follow ts) ≡ Some f → p.height < n
    → climb inner n k m p ts ≡ (tried p (turn inner p f (after_first ts)) >>= turned (climb inner n k (m - 1)) ts)
climb_step inner n k zero p ts f l e h = absurd (omega arith)
climb_step inner n k (suc m) p ts f l e h = let i : suc m - 1 ≡ m = omega arith in rw i (climb_turn inner n k m p ts f e h ∙ resumed (climb inner n k m) p ts (turn inner p f (after_first ts)))

pub climb_on : (inner : Reader) (n k m : ℕ) (p q : Part) (ts us : List Token) (f : Follow) → 0 < m → next_follow k p (head_follow ts) ≡ Some f → p.height < n
    → tried p (turn inner p f (after_first ts)) ≡ Ok (q, Some us) → climb inner n k m p ts ≡ climb inner n k (m - 1) q us
climb_on inner n k m p q ts us f l e h i = climb_step inner n k m p ts f l e h ∙ ap (λ r. r >>= turned (climb inner n k (m - 1)) ts) i

pub climb_off : (inner : Reader) (n k m : ℕ) (p q : Part) (ts : List Token) (f : Follow) → 0 < m → next_follow k p (head_follow ts) ≡ Some f → p.height < n
    → tried p (turn inner p f (after_first ts)) ≡ Ok (q, None) → climb inner n k m p ts ≡ Ok (q, ts)
climb_off inner n k m p q ts f l e h i = climb_step inner n k m p ts f l e h ∙ ap (λ r. r >>= turned (climb inner n k (m - 1)) ts) i

pub climb_fails : (inner : Reader) (n k m : ℕ) (p : Part) (ts : List Token) (f : Follow) (e : Stop) (y : Reading) → 0 < m → next_follow k p (head_follow ts) ≡ Some f → p.height < n
    → Fails e (tried p (turn inner p f (after_first ts))) → climb inner n k m p ts ≡ y → Fails e y
climb_fails inner n k m p ts f e y l o h x i = failing e (tried p (turn inner p f (after_first ts))) (climb inner n k m p ts) y
    (λ g w. climb_step inner n k m p ts f l o h ∙ ap (λ r. r >>= turned (climb inner n k (m - 1)) ts) w) x i

pub climb_stops : (inner : Reader) (n k m : ℕ) (p : Part) (ts : List Token) → next_follow k p (head_follow ts) ≡ None → climb inner n k m p ts ≡ Ok (p, ts)
unfolding climb
climb_stops inner n k zero p ts e = rw e refl
climb_stops inner n k (suc m) p ts e = rw e refl

pub climb_full : (inner : Reader) (n k m : ℕ) (p : Part) (ts : List Token) (f : Follow) → next_follow k p (head_follow ts) ≡ Some f → n ≤ p.height → climb inner n k m p ts ≡ Err TooDeep
unfolding climb
climb_full inner n k zero p ts f e h = rw e refl
climb_full inner n k (suc m) p ts f e h = let g : nat_lt p.height n ≡ false = grind (arith, nat_tests) in rw (e, g) refl

pub climb_last : (inner : Reader) (n k m : ℕ) (p : Part) (ts : List Token) (f : Follow) → next_follow k p (head_follow ts) ≡ Some f → m ≡ 0 → climb inner n k m p ts ≡ Err TooDeep
unfolding climb
climb_last inner n k zero p ts f e h = rw e refl
climb_last inner n k (suc m) p ts f e h = absurd (omega arith)

pub fails_at : {X : Type 0} (e : Stop) (f : Fault) (x : Result X Fault) → e ≡ stopped.Fault f → Fails e x → x ≡ Err f
fails_at stopped.Memory f x i h = absurd cc
fails_at (stopped.Fault g) f x i h = let s : g ≡ f = cc in h ∙ ap Err s

-- ---- formulas with the sign that closes them

bind_same : {A B : Type 0} (r : Result A Fault) (f g : A → Result B Fault) → ((x : A) → f x ≡ g x) → (r >>= f) ≡ (r >>= g)
bind_same (Ok x) f g h = h x
bind_same (Err e) f g h = refl

put_behind : (r : Result (List Token) Fault) (f : Part → Part) (p : Part) → (r >>= λ us. reading (f p) us) ≡ ((r >>= λ us. reading p us) >>= λ y. reading (f y.0) y.1)
put_behind (Ok us) f p = refl
put_behind (Err e) f p = refl

closed_then : (b : Bool) (sign : Option Sign) (f : Part → Part) (p : Part) (ts : List Token)
    → (if b then (after_closing sign ts >>= λ us. reading (f p) us) else Err Syntax) ≡ (closed b sign p ts >>= λ y. reading (f y.0) y.1)
unfolding closed behind
closed_then true sign f p ts = put_behind (after_closing sign ts) f p
closed_then false sign f p ts = refl

stands : (b : Bool) (sign : Option Sign) (p : Part) (ts : List Token) → (if b then (after_closing sign ts >>= λ us. reading p us) else Err Syntax) ≡ closed b sign p ts
unfolding closed behind
stands true sign p ts = refl
stands false sign p ts = refl

pub leaf_closed : (k : ℕ) (p : Part) (ts : List Token) → leaf_at k p ts ≡ closed (nat_le k p.level) None p ts
unfolding leaf_at
leaf_closed k p ts = stands (nat_le k p.level) None p ts

behind_any : {B : Type 0} (r : Result (List Token) Fault) (p : Part) (g : Part → List Token → Result B Fault)
    → (r >>= λ us. g p us) ≡ ((r >>= λ us. reading p us) >>= λ y. g y.0 y.1)
behind_any (Ok us) p g = refl
behind_any (Err e) p g = refl

guarded : {A : Type 0} (b : Bool) (r q : Result A Fault) → r ≡ q → (if b then r else Err Syntax) ≡ (if b then q else Err Syntax)
guarded b r q e = ap (λ z. if b then z else Err Syntax) e

pub prefix_closed : (inner : Reader) (k : ℕ) (t : Token) (op : Prefix) (ts : List Token)
    → prefix_at inner k t op ts ≡ (if nat_le k (prefix_level op) then (inner (prefix_level op) ts >>= λ x. closed (prefix_takes op (x.0).level) None x.0 x.1 >>= λ y. Ok (prefixed t op y.0, y.1)) else Err Syntax)
unfolding prefix_at
prefix_closed inner k t op ts = guarded (nat_le k (prefix_level op)) _ _
    (bind_same (inner (prefix_level op) ts) _ _ (λ x. closed_then (prefix_takes op (x.0).level) None (prefixed t op) x.0 x.1))

pub predicate_closed : (inner : Reader) (ts : List Token) → predicate inner ts ≡ (inner level.pred ts >>= λ x. closed (is_pred (x.0).level) None x.0 x.1)
unfolding predicate
predicate_closed inner ts = bind_same (inner level.pred ts) _ _ (λ x. stands (is_pred (x.0).level) None x.0 x.1)

pub call_closed : (inner : Reader) (k : ℕ) (t : Token) (op : Call) (ts : List Token)
    → call_at inner k t op ts ≡ (if nat_le k (call_level op) then
    (after_sign s.LeftParenthesis ts >>= λ us. inner (call_least op) us >>= λ x. closed (call_takes op (x.0).level) (Some s.RightParenthesis) x.0 x.1 >>= λ y. Ok (called t op y.0, y.1)) else Err Syntax)
unfolding call_at
call_closed inner k t op ts = guarded (nat_le k (call_level op)) _ _
    (bind_same (after_sign s.LeftParenthesis ts) _ _ (λ us. bind_same (inner (call_least op) us) _ _
    (λ x. closed_then (call_takes op (x.0).level) (Some s.RightParenthesis) (called t op) x.0 x.1)))

pub parentheses_closed : (inner : Reader) (k : ℕ) (t : Token) (ts : List Token)
    → parentheses_at inner k t ts ≡ (inner level.pred ts >>= λ x. closed true (Some s.RightParenthesis) x.0 x.1 >>= λ y. leaf_at k (bracketed t y.0) y.1)
unfolding parentheses_at closed behind leaf_at
parentheses_closed inner k t ts = bind_same (inner level.pred ts) _ _
    (λ x. behind_any (after_sign s.RightParenthesis x.1) x.0 (λ p us. leaf_at k (bracketed t p) us))

pub partition_closed : (inner : Reader) (k : ℕ) (t : Token) (ts : List Token)
    → partition_at inner k t ts ≡ (if nat_le k level.lit then
    (after_sign s.LeftParenthesis ts >>= λ us. inner level.expr us >>= λ x. row_after inner (length x.1) x.0 x.1 >>= λ y. closed true (Some s.RightParenthesis) (partitioned t y.0 y.1) y.2) else Err Syntax)
unfolding partition_at closed behind
partition_closed inner k t ts = refl

pub body_closed : (inner : Reader) (ts : List Token)
    → body inner ts ≡ (predicate inner ts >>= λ x. closed true (Some s.Bar) x.0 x.1 >>= λ z. inner level.expr z.1 >>= λ y. Ok (z.0, y.0, y.1))
unfolding body closed behind
body_closed inner ts = bind_same (predicate inner ts) _ _
    (λ x. behind_any (after_sign s.Bar x.1) x.0 (λ p us. inner level.expr us >>= λ y. Ok (p, y.0, y.1)))

pub comprehension_closed : (inner : Reader) (t : Token) (xs : List Identifier) (ts : List Token)
    → comprehension_at inner t xs ts ≡ (body inner ts >>= λ x. closed true (Some s.RightBrace) (comprehended t xs x.0 x.1) x.2)
unfolding comprehension_at closed behind
comprehension_closed inner t xs ts = refl

pub builder_closed : (inner : Reader) (t : Token) (p : Part) (ts : List Token)
    → builder_at inner t p ts ≡ (predicate inner ts >>= λ x. closed true (Some s.RightBrace) (built t p x.0) x.1)
unfolding builder_at closed behind
builder_closed inner t p ts = refl

pub extension_closed : (inner : Reader) (t : Token) (p : Part) (ts : List Token)
    → extension_at inner t p ts ≡ (row_after inner (length ts) p ts >>= λ x. closed true (Some s.RightBrace) (extended t x.0 x.1) x.2)
unfolding extension_at closed behind
extension_closed inner t p ts = refl

pub operand_closed : (inner : Reader) (op : Operator) (ts : List Token)
    → operand_at inner op ts ≡ (inner (right_of (group_of op)) ts >>= λ x. closed (takes (group_of op) (x.0).level) (closing_sign op) x.0 x.1)
unfolding operand_at
operand_closed inner op ts = bind_same (inner (right_of (group_of op)) ts) _ _ (λ x. stands (takes (group_of op) (x.0).level) (closing_sign op) x.0 x.1)
