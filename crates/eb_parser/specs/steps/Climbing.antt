-- Reading by one table of levels. This is how the code goes on, step by step; what it reads is said by Grammar.
use Rattle.std.specs.Prelude.{ℕ, zero, suc, ◌+◌, ◌-◌, max, Bool, true, false, not, ◌&&◌, if◌then◌else◌, ◌==◌, nat_le, nat_lt, ◌≡◌, List, [], ◌∷◌, length, Option, Some, None, Result, Ok, Err}
use Rattle.eb_signs.specs.declared.sign.Sign.{Sign}
use Rattle.eb_signs.specs.declared.sign.Sign.TheVariants as s
use Rattle.eb_lexer.specs.declared.token.Token.{Token}
use Rattle.eb_lexer.specs.declared.token.TokenKind.{TokenKind}
use Rattle.eb_lexer.specs.declared.token.TokenKind.TheVariants as kind
use Rattle.eb_syntax.specs.declared.ast.Ast.{Ast}
use Rattle.eb_syntax.specs.declared.ast.Prefix.{Prefix}
use Rattle.eb_syntax.specs.declared.ast.Call.{Call}
use Rattle.eb_syntax.specs.declared.ast.Call.TheVariants as call
use Rattle.eb_syntax.specs.declared.ast.Operator.{Operator}
use Rattle.eb_syntax.specs.declared.ast.Quantifier.{Quantifier}
use Rattle.eb_syntax.specs.declared.ast.Binder.{Binder}
use Rattle.eb_syntax.specs.declared.ast.Binder.TheVariants as binder
use Rattle.eb_syntax.specs.declared.ast.Bound.{Bound}
use Rattle.eb_syntax.specs.declared.ast.Bound.TheVariants as bound
use Rattle.eb_syntax.specs.declared.ast.Mark.{Mark}
use Rattle.eb_syntax.specs.declared.ast.Mark.TheVariants as mark
use Rattle.eb_syntax.specs.declared.ast.Identifier.{Identifier}
use Rattle.eb_syntax.specs.Asts as tree
use Rattle.eb_parser.specs.declared.part.Part.{Part}
use Rattle.eb_parser.specs.declared.fault.Fault.{Fault}
use Rattle.eb_parser.specs.declared.fault.Fault.TheVariants.{Syntax, TooDeep}
use Rattle.eb_parser.specs.declared.fault.Stop.{Stop}
use Rattle.eb_parser.specs.declared.fault.Stop.TheVariants as stopped
use Rattle.eb_parser.specs.declared.table.Start.{Start}
use Rattle.eb_parser.specs.declared.table.Start.TheVariants as start
use Rattle.eb_parser.specs.declared.table.Follow.{Follow}
use Rattle.eb_parser.specs.declared.table.Follow.TheVariants as follow
use Rattle.eb_signs.specs.Levels as level
use Rattle.eb_signs.specs.Levels.{is_pred, group_of, level_of, admits, right_of, takes, constant_level, prefix_level, prefix_takes, call_level, call_takes}
use Rattle.eb_parser.specs.Signs.{is_sign, closing_sign}
use Rattle.eb_parser.specs.Grammar.{leaf, prefixed, called, bracketed, inverted, joined, quantified, bound_by, comprehended, built, empty_braces, extended, partitioned, bound_at}
use Rattle.eb_parser.specs.steps.Tables.{start_of, head_follow, row_of}

infixl 10 ◌>>=◌
abbrev pub ◌>>=◌ : {A B : Type 0} → Result A Fault → (A → Result B Fault) → Result B Fault
(Ok x) >>= g = g x
(Err e) >>= g = Err e

-- a formula, and the tokens behind it
abbrev pub Reading : Type 0
Reading = Result (Part × List Token) Fault

-- a reader of formulas at a level or above
abbrev pub Reader : Type 0
Reader = ℕ → List Token → Reading

-- expressions, the greatest of their heights, and the tokens behind them
abbrev pub Listing : Type 0
Listing = Result (List Ast × ℕ × List Token) Fault

abbrev pub after_first : List Token → List Token
after_first [] = []
after_first (t ∷ ts) = ts

abbrev pub begins : Sign → List Token → Bool
begins sign [] = false
begins sign (t ∷ ts) = is_sign sign t

-- the tokens behind this sign
unfoldable pub after_sign : Sign → List Token → Result (List Token) Fault
after_sign sign ts = if begins sign ts then Ok (after_first ts) else Err Syntax

-- the tokens behind this sign, where there is to be one
abbrev pub after_closing : Option Sign → List Token → Result (List Token) Fault
after_closing None ts = Ok ts
after_closing (Some sign) ts = after_sign sign ts

abbrev pub name_of : Token → TokenKind → Result Identifier Fault
name_of t (kind.Word x) = Ok (bound_at t x)
name_of t _ = Err Syntax

-- an identifier, and the tokens behind it
abbrev pub name_at : List Token → Result (Identifier × List Token) Fault
name_at [] = Err Syntax
name_at (t ∷ ts) = name_of t t.kind >>= λ x. Ok (x, ts)

-- whether a comma stands here, or the dot; and the tokens behind it
unfoldable pub separator : List Token → Result (Bool × List Token) Fault
separator ts = if begins s.Comma ts then Ok (true, after_first ts) else (if begins s.Dot ts then Ok (false, after_first ts) else Err Syntax)

abbrev pub Naming : Type 0
Naming = Result (List Identifier × List Token) Fault

abbrev pub names_on : (List Token → Naming) → Identifier → Bool × List Token → Naming
names_on go x y = if y.0 then (go y.1 >>= λ z. Ok (x ∷ z.0, z.1)) else Ok (x ∷ [], y.1)

-- names, the dot, and the tokens behind it. The number is at least that of the names.
unfoldable pub names : ℕ → List Token → Naming
names zero ts = Err Syntax
names (suc m) ts = name_at ts >>= λ x. separator x.1 >>= names_on (names m) x.0

abbrev pub sign_mark : Sign → Result Mark Fault
sign_mark s.LeftParenthesis = Ok mark.Open
sign_mark s.RightParenthesis = Ok mark.Close
sign_mark s.MapsTo = Ok mark.MapsTo
sign_mark _ = Err Syntax

-- a token of a pattern
abbrev pub mark_of : Token → TokenKind → Result Mark Fault
mark_of t (kind.Word x) = Ok (mark.Identifier (bound_at t x))
mark_of t (kind.Sign sign) = sign_mark sign
mark_of t _ = Err Syntax

abbrev pub mark_at : List Token → Result Mark Fault
mark_at [] = Err Syntax
mark_at (t ∷ ts) = mark_of t t.kind

-- Whether an atom is due next in the pattern, and within how many parentheses it stands.
abbrev pub state_after : Bool → ℕ → Mark → Result (Bool × ℕ) Fault
state_after true depth (mark.Identifier x) = Ok (false, depth)
state_after true depth mark.Open = Ok (true, depth + 1)
state_after true depth _ = Err Syntax
state_after false depth mark.Close = if depth == 0 then Err Syntax else Ok (false, depth - 1)
state_after false depth mark.MapsTo = Ok (true, depth)
state_after false depth _ = Err Syntax

abbrev pub ends_pattern : Bool → ℕ → List Token → Bool
ends_pattern due depth ts = not due && ((depth == 0) && begins s.Dot ts)

abbrev pub Marking : Type 0
Marking = Result (List Mark × List Token) Fault

abbrev pub marks_on : Mark → Marking → Marking
marks_on x r = r >>= λ z. Ok (x ∷ z.0, z.1)

-- a pattern, the dot, and the tokens behind it. The number is more than that of its tokens.
unfoldable pub pattern : ℕ → Bool → ℕ → List Token → Marking
pattern zero due depth ts = Err Syntax
pattern (suc m) due depth ts = if ends_pattern due depth ts then Ok ([], after_first ts) else
    (mark_at ts >>= λ x. state_after due depth x >>= λ y. marks_on x (pattern m y.0 y.1 (after_first ts)))

-- what a binder binds, the dot, and the tokens behind it
unfoldable pub binding : Binder → List Token → Result (Bound × List Token) Fault
binding binder.Lambda ts = pattern (length ts) true 0 ts >>= λ x. Ok (bound.Pattern x.0, x.1)
binding _ ts = names (length ts) ts >>= λ x. Ok (bound.Identifiers x.0, x.1)

unfoldable pub leaf_at : ℕ → Part → List Token → Reading
leaf_at k p ts = if nat_le k p.level then Ok (p, ts) else Err Syntax

-- the tokens behind the sign that is to follow, where that holds which is asked of the formula before it
unfoldable pub behind : Bool → Option Sign → List Token → Result (List Token) Fault
behind holds sign ts = if holds then after_closing sign ts else Err Syntax

-- the formula and those tokens
unfoldable pub closed : Bool → Option Sign → Part → List Token → Reading
closed holds sign p ts = behind holds sign ts >>= λ us. Ok (p, us)

unfoldable pub prefix_at : Reader → ℕ → Token → Prefix → List Token → Reading
prefix_at inner k t op ts = if nat_le k (prefix_level op) then
    (inner (prefix_level op) ts >>= λ x. if prefix_takes op (x.0).level then Ok (prefixed t op x.0, x.1) else Err Syntax) else Err Syntax

-- a predicate
unfoldable pub predicate : Reader → List Token → Reading
predicate inner ts = inner level.pred ts >>= λ x. if is_pred (x.0).level then Ok x else Err Syntax

unfoldable pub quantifier_at : Reader → ℕ → Token → Quantifier → List Token → Reading
quantifier_at inner k t q ts = if nat_le k level.lit then
    (names (length ts) ts >>= λ x. predicate inner x.1 >>= λ y. Ok (quantified t q x.0 y.0, y.1)) else Err Syntax

abbrev pub call_least : Call → ℕ
call_least call.BoolOf = level.pred
call_least _ = level.expr

unfoldable pub call_at : Reader → ℕ → Token → Call → List Token → Reading
call_at inner k t op ts = if nat_le k (call_level op) then
    (after_sign s.LeftParenthesis ts >>= λ us. inner (call_least op) us >>= λ x. if call_takes op (x.0).level then
    (after_sign s.RightParenthesis x.1 >>= λ vs. Ok (called t op x.0, vs)) else Err Syntax) else Err Syntax

unfoldable pub parentheses_at : Reader → ℕ → Token → List Token → Reading
parentheses_at inner k t ts = inner level.pred ts >>= λ x. after_sign s.RightParenthesis x.1 >>= λ us.
    if nat_le k (bracketed t x.0).level then Ok (bracketed t x.0, us) else Err Syntax

-- further expressions where a comma follows
unfoldable pub row_on : (List Token → Listing) → Part → List Token → Listing
row_on go p ts = if begins s.Comma ts then (go (after_first ts) >>= λ x. Ok (p.tree ∷ x.0, max p.height x.1, x.2)) else Ok (p.tree ∷ [], p.height, ts)

-- expressions parted by commas. The number is at least that of the commas.
unfoldable pub row : Reader → ℕ → List Token → Listing
row inner zero ts = Err Syntax
row inner (suc m) ts = inner level.expr ts >>= λ x. row_on (row inner m) x.0 x.1

-- the same, behind the first of them
unfoldable pub row_after : Reader → ℕ → Part → List Token → Listing
row_after inner m p ts = row_on (row inner m) p ts

unfoldable pub partition_at : Reader → ℕ → Token → List Token → Reading
partition_at inner k t ts = if nat_le k level.lit then
    (after_sign s.LeftParenthesis ts >>= λ us. inner level.expr us >>= λ x. row_after inner (length x.1) x.0 x.1 >>= λ y. after_sign s.RightParenthesis y.2 >>= λ vs. Ok (partitioned t y.0 y.1, vs)) else Err Syntax

-- a predicate, a bar and an expression
unfoldable pub body : Reader → List Token → Result (Part × Part × List Token) Fault
body inner ts = predicate inner ts >>= λ x. after_sign s.Bar x.1 >>= λ us. inner level.expr us >>= λ y. Ok (x.0, y.0, y.1)

unfoldable pub binder_at : Reader → ℕ → Token → Binder → List Token → Reading
binder_at inner k t op ts = if nat_le k level.expr then
    (binding op ts >>= λ x. body inner x.1 >>= λ y. Ok (bound_by t op x.0 y.0 y.1, y.2)) else Err Syntax

-- behind the names and the dot in braces
unfoldable pub comprehension_at : Reader → Token → List Identifier → List Token → Reading
comprehension_at inner t xs ts = body inner ts >>= λ x. after_sign s.RightBrace x.2 >>= λ us. Ok (comprehended t xs x.0 x.1, us)

-- behind the first expression and the bar in braces
unfoldable pub builder_at : Reader → Token → Part → List Token → Reading
builder_at inner t p ts = predicate inner ts >>= λ x. after_sign s.RightBrace x.1 >>= λ us. Ok (built t p x.0, us)

-- behind the first expression in braces
unfoldable pub extension_at : Reader → Token → Part → List Token → Reading
extension_at inner t p ts = row_after inner (length ts) p ts >>= λ x. after_sign s.RightBrace x.2 >>= λ us. Ok (extended t x.0 x.1, us)

unfoldable pub members_at : Reader → Token → List Token → Reading
members_at inner t ts = inner level.expr ts >>= λ x. if begins s.Bar x.1 then builder_at inner t x.0 (after_first x.1) else extension_at inner t x.0 x.1

-- in braces: names and a dot begin a comprehension
abbrev pub brace_by : Reader → Token → List Token → Result (List Identifier × List Token) Fault → Reading
brace_by inner t ts (Ok x) = comprehension_at inner t x.0 x.1
brace_by inner t ts (Err e) = if begins s.RightBrace ts then Ok (empty_braces t, after_first ts) else members_at inner t ts

unfoldable pub brace_at : Reader → ℕ → Token → List Token → Reading
brace_at inner k t ts = if nat_le k level.prim then brace_by inner t ts (names (length ts) ts) else Err Syntax

abbrev pub begun_by : Reader → ℕ → Token → List Token → Start → Reading
begun_by inner k t ts (start.Constant c) = leaf_at k (leaf (constant_level c) (tree.constant t.start c)) ts
begun_by inner k t ts (start.Prefix op) = prefix_at inner k t op ts
begun_by inner k t ts (start.Quantifier q) = quantifier_at inner k t q ts
begun_by inner k t ts (start.Binder op) = binder_at inner k t op ts
begun_by inner k t ts (start.Call op) = call_at inner k t op ts
begun_by inner k t ts start.Partition = partition_at inner k t ts
begun_by inner k t ts start.Parenthesis = parentheses_at inner k t ts
begun_by inner k t ts start.Brace = brace_at inner k t ts
begun_by inner k t ts start.Other = Err Syntax

abbrev pub primary_by : Reader → ℕ → Token → List Token → TokenKind → Reading
primary_by inner k t ts (kind.Word x) = leaf_at k (leaf level.prim (tree.identifier t.start x)) ts
primary_by inner k t ts (kind.Primed x) = leaf_at k (leaf level.prim (tree.primed t.start x)) ts
primary_by inner k t ts (kind.Label x) = Err Syntax
primary_by inner k t ts (kind.Number n) = leaf_at k (leaf level.prim (tree.number t.start n)) ts
primary_by inner k t ts (kind.Sign sign) = begun_by inner k t ts (start_of sign)

-- a formula without what may go on with it
abbrev pub primary : Reader → ℕ → List Token → Reading
primary inner k [] = Err Syntax
primary inner k (t ∷ ts) = primary_by inner k t ts t.kind

-- what the formula goes on with
abbrev pub goes_on : ℕ → Part → Follow → Bool
goes_on k p f = nat_le k (level_of (row_of f)) && (admits (row_of f) p.level && not p.loose)

abbrev pub next_follow : ℕ → Part → Option Follow → Option Follow
next_follow k p None = None
next_follow k p (Some f) = if goes_on k p f then Some f else None

-- an operand and its closing sign
unfoldable pub operand_at : Reader → Operator → List Token → Reading
operand_at inner op ts = inner (right_of (group_of op)) ts >>= λ x. if takes (group_of op) (x.0).level then
    (after_closing (closing_sign op) x.1 >>= λ us. Ok (x.0, us)) else Err Syntax

abbrev pub reading : Part → List Token → Reading
reading p ts = Ok (p, ts)

abbrev pub joins : Operator → Part → Part × List Token → Reading
joins op p x = reading (joined op p x.0) x.1

unfoldable pub turn : Reader → Part → Follow → List Token → Reading
turn inner p (follow.Operator op) ts = operand_at inner op ts >>= joins op p
turn inner p follow.Inverse ts = Ok (inverted p, ts)

-- with the tokens behind it, or without where it failed
abbrev pub tried : Part → Reading → Result (Part × Option (List Token)) Fault
tried p (Ok x) = Ok (x.0, Some x.1)
tried p (Err Syntax) = Ok (p, None)
tried p (Err TooDeep) = Err TooDeep

-- Where no operand can be read, the formula ends before the operator.
abbrev pub resume : (Part → List Token → Reading) → Part → List Token → Reading → Reading
resume go p ts (Ok x) = go x.0 x.1
resume go p ts (Err Syntax) = Ok (p, ts)
resume go p ts (Err TooDeep) = Err TooDeep

abbrev pub stop : Part → List Token → Option Follow → Reading
stop p ts None = Ok (p, ts)
stop p ts (Some f) = Err TooDeep

abbrev pub go_on : (Part → List Token → Reading) → Reader → ℕ → Part → List Token → Option Follow → Reading
go_on go inner room p ts None = Ok (p, ts)
go_on go inner room p ts (Some f) = if nat_lt p.height room then resume go p ts (turn inner p f (after_first ts)) else Err TooDeep

unfoldable pub climb : Reader → ℕ → ℕ → ℕ → Part → List Token → Reading
climb inner room k zero p ts = stop p ts (next_follow k p (head_follow ts))
climb inner room k (suc m) p ts = go_on (climb inner room k m) inner room p ts (next_follow k p (head_follow ts))

-- the formulas of height below the first number, at the level or above
unfoldable pub read : ℕ → Reader
read zero k ts = Err TooDeep
read (suc n) k ts = primary (read n) k ts >>= λ x. climb (read n) n k n x.0 x.1

-- What a function returned, seen by view, is what reading gives, unless memory ran out.
abbrev pub Fails : {Y : Type 0} → Stop → Result Y Fault → Type 0
Fails stopped.Memory read = Unit {0}
Fails (stopped.Fault f) read = read ≡ Err f

abbrev pub Gives : {X Y : Type 0} → (X → Y) → Result X Stop → Result Y Fault → Type 0
Gives view (Ok x) read = read ≡ Ok (view x)
Gives view (Err e) read = Fails e read
