-- Which tokens are formulas. The grammar is that of Métayer and Voisin, "The Event-B Mathematical Language" (2009):
--
--   pred   = junct [("=>" | "<=>") junct]
--   junct  = lit {"&" lit} | lit {"or" lit}
--   lit    = "not" lit | ("!" | "#") names "." pred | "(" pred ")" | "true" | "false" | "finite" "(" expr ")"
--          | "partition" "(" exprs ")" | expr relation expr
--   expr   = "%" pattern "." pred "|" expr | ("UNION" | "INTER") names "." pred "|" expr | maplet
--   maplet = arrow {"|->" arrow}         arrow = set {arrowop set}
--   set    = range {setop range}         range = sum [".." sum]
--   sum    = prod {("+" | "-") prod}     prod  = neg {("*" | "/" | "mod") neg}
--   neg    = "-" neg | power             power = post ["^" neg]
--   post   = prim {"~" | "(" expr ")" | "[" expr "]"}
--   prim   = number | identifier | primed identifier | constant | call "(" expr ")" | "bool" "(" pred ")" | "(" expr ")"
--          | "{" "}" | "{" exprs "}" | "{" names "." pred "|" expr "}" | "{" expr "|" pred "}"
--
-- names are identifiers and exprs expressions, parted by ",". After a quantified predicate no connective follows at its
-- level of brackets. A level (see Levels) names the production of a formula's head, so "at least at sum" says: a sum, or
-- what a sum may be.
use Rattle.std.specs.Prelude.{ℕ, ℤ, ◌+◌, max, true, false, ◌≡◌, if◌then◌else◌, List, [], ◌∷◌, ◌++◌, IsTrue, Option, Some, None}
use Rattle.eb_signs.specs.declared.sign.Sign.{Sign}
use Rattle.eb_signs.specs.declared.sign.Sign.TheVariants as s
use Rattle.eb_lexer.specs.declared.token.Token.{Token}
use Rattle.eb_lexer.specs.declared.token.TokenKind.TheVariants as kind
use Rattle.eb_syntax.specs.declared.ast.Ast.{Ast}
use Rattle.eb_syntax.specs.declared.ast.Constant.{Constant}
use Rattle.eb_syntax.specs.declared.ast.Prefix.{Prefix}
use Rattle.eb_syntax.specs.declared.ast.Call.{Call}
use Rattle.eb_syntax.specs.declared.ast.Operator.{Operator}
use Rattle.eb_syntax.specs.declared.ast.Quantifier.{Quantifier}
use Rattle.eb_syntax.specs.declared.ast.Binder.{Binder}
use Rattle.eb_syntax.specs.declared.ast.Binder.TheVariants as binder
use Rattle.eb_syntax.specs.declared.ast.Bound.{Bound}
use Rattle.eb_syntax.specs.declared.ast.Bound.TheVariants as bound
use Rattle.eb_syntax.specs.declared.ast.Mark.{Mark}
use Rattle.eb_syntax.specs.declared.ast.Mark.TheVariants as mark
use Rattle.eb_syntax.specs.declared.ast.Identifier.{Identifier}
use Rattle.eb_syntax.specs.Asts as tree
use Rattle.eb_parser.specs.declared.part.Part.{Part}
use Rattle.eb_signs.specs.declared.levels.Group.TheVariants as g
use Rattle.eb_signs.specs.Levels as level
use Rattle.eb_signs.specs.Levels.{is_pred, is_expr, group_of, level_of, admits, takes, constant_level, prefix_level, prefix_takes, call_level, call_takes}
use Rattle.eb_parser.specs.Signs.{IsSign, constant_sign, prefix_sign, call_sign, quantifier_sign, binder_sign, operator_sign, closing_sign}

-- Formulas with their level, whether they end with the body of a quantifier, and their height: the greatest number of
-- operators, binders, calls, braces and parentheses on a path to a leaf.
abbrev pub leaf : ℕ → Ast → Part
leaf l a = record { tree = a; level = l; loose = false; height = 0 }

abbrev pub prefixed : Token → Prefix → Part → Part
prefixed t op p = record { tree = tree.prefix t.start op p.tree; level = prefix_level op; loose = p.loose; height = p.height + 1 }

abbrev pub called : Token → Call → Part → Part
called t op p = record { tree = tree.call t.start op p.tree; level = call_level op; loose = false; height = p.height + 1 }

-- a predicate in parentheses is a lit, an expression in parentheses a prim
abbrev pub bracketed : Token → Part → Part
bracketed t p = record { tree = tree.parentheses t.start p.tree; level = if is_pred p.level then level.lit else level.prim; loose = false; height = p.height + 1 }

abbrev pub inverted : Part → Part
inverted p = record { tree = tree.inverse p.tree; level = level.post; loose = false; height = p.height + 1 }

abbrev pub joined : Operator → Part → Part → Part
joined op p q = record { tree = tree.operator op p.tree q.tree; level = level_of (group_of op); loose = q.loose; height = max p.height q.height + 1 }

abbrev pub quantified : Token → Quantifier → List Identifier → Part → Part
quantified t q xs p = record { tree = tree.quantifier t.start q xs p.tree; level = level.lit; loose = true; height = p.height + 1 }

abbrev pub bound_by : Token → Binder → Bound → Part → Part → Part
bound_by t op b p e = record { tree = tree.binder t.start op b p.tree e.tree; level = level.expr; loose = e.loose; height = max p.height e.height + 1 }

abbrev pub comprehended : Token → List Identifier → Part → Part → Part
comprehended t xs p e = record { tree = tree.comprehension t.start xs p.tree e.tree; level = level.prim; loose = false; height = max p.height e.height + 1 }

abbrev pub built : Token → Part → Part → Part
built t e p = record { tree = tree.builder t.start e.tree p.tree; level = level.prim; loose = false; height = max e.height p.height + 1 }

-- "{" "}" is a leaf
abbrev pub empty_braces : Token → Part
empty_braces t = leaf level.prim (tree.extension t.start [])

abbrev pub extended : Token → List Ast → ℕ → Part
extended t es h = record { tree = tree.extension t.start es; level = level.prim; loose = false; height = h + 1 }

abbrev pub partitioned : Token → List Ast → ℕ → Part
partitioned t es h = record { tree = tree.partition t.start es; level = level.lit; loose = false; height = h + 1 }

-- an identifier where it is bound
abbrev pub bound_at : Token → List ℕ → Identifier
bound_at t x = record { name = x; place = t.start }

-- names = identifier {"," identifier}. A primed identifier binds nothing.
pub data Names : List Token → List Identifier → Type 0 where
  n_last : (t : Token) (x : List ℕ) → t.kind ≡ kind.Word x → Names (t ∷ []) (bound_at t x ∷ [])
  n_more : {ts : List Token} {xs : List Identifier} (t comma : Token) (x : List ℕ) → t.kind ≡ kind.Word x → IsSign comma s.Comma → Names ts xs
      → Names (t ∷ comma ∷ ts) (bound_at t x ∷ xs)

-- pattern = atom {"|->" atom}, atom = identifier | "(" pattern ")"
mutual
  pub data Pattern : List Token → List Mark → Type 0 where
    p_atom : {ts : List Token} {ms : List Mark} → Atom ts ms → Pattern ts ms
    p_maplet : {ts us : List Token} {ms ns : List Mark} (arrow : Token) → Pattern ts ms → IsSign arrow s.MapsTo → Atom us ns
        → Pattern (ts ++ (arrow ∷ us)) (ms ++ (mark.MapsTo ∷ ns))

  pub data Atom : List Token → List Mark → Type 0 where
    a_identifier : (t : Token) (x : List ℕ) → t.kind ≡ kind.Word x → Atom (t ∷ []) (mark.Identifier (bound_at t x) ∷ [])
    a_parentheses : {ts : List Token} {ms : List Mark} (opening closing : Token) → IsSign opening s.LeftParenthesis → Pattern ts ms → IsSign closing s.RightParenthesis
        → Atom (opening ∷ (ts ++ (closing ∷ []))) (mark.Open ∷ (ms ++ (mark.Close ∷ [])))

-- "%" binds a pattern, "UNION" and "INTER" names
pub data Binding : Binder → List Token → Bound → Type 0 where
  b_pattern : {ts : List Token} {ms : List Mark} → Pattern ts ms → Binding binder.Lambda ts (bound.Pattern ms)
  b_union : {ts : List Token} {xs : List Identifier} → Names ts xs → Binding binder.Union ts (bound.Identifiers xs)
  b_intersection : {ts : List Token} {xs : List Identifier} → Names ts xs → Binding binder.Intersection ts (bound.Identifiers xs)

-- the token is this sign, where there is one to be, and else there is none
abbrev pub Closes : Option Sign → List Token → Type 0
Closes None ts = ts ≡ []
Closes (Some sign) ts = (t : Token) × (ts ≡ t ∷ []) × IsSign t sign

-- The productions. The tokens are a formula.
mutual
  pub data Derives : List Token → Part → Type 0 where
    d_number : (t : Token) (n : ℤ) → t.kind ≡ kind.Number n → Derives (t ∷ []) (leaf level.prim (tree.number t.start n))
    d_identifier : (t : Token) (x : List ℕ) → t.kind ≡ kind.Word x → Derives (t ∷ []) (leaf level.prim (tree.identifier t.start x))
    d_primed : (t : Token) (x : List ℕ) → t.kind ≡ kind.Primed x → Derives (t ∷ []) (leaf level.prim (tree.primed t.start x))
    d_constant : (t : Token) (c : Constant) → IsSign t (constant_sign c) → Derives (t ∷ []) (leaf (constant_level c) (tree.constant t.start c))
    d_prefix : {ts : List Token} {p : Part} (t : Token) (op : Prefix) → IsSign t (prefix_sign op) → Derives ts p → IsTrue (prefix_takes op p.level)
        → Derives (t ∷ ts) (prefixed t op p)
    d_quantifier : {is ts : List Token} {xs : List Identifier} {p : Part} (t dot : Token) (q : Quantifier) → IsSign t (quantifier_sign q) → Names is xs → IsSign dot s.Dot
        → Derives ts p → IsTrue (is_pred p.level)
        → Derives (t ∷ (is ++ (dot ∷ ts))) (quantified t q xs p)
    d_call : {ts : List Token} {p : Part} (t opening closing : Token) (op : Call) → IsSign t (call_sign op) → IsSign opening s.LeftParenthesis → Derives ts p → IsTrue (call_takes op p.level)
        → IsSign closing s.RightParenthesis → Derives (t ∷ opening ∷ (ts ++ (closing ∷ []))) (called t op p)
    d_partition : {ts : List Token} {es : List Ast} {h : ℕ} (t opening closing : Token) → IsSign t s.Partition → IsSign opening s.LeftParenthesis → Exprs ts es h
        → IsSign closing s.RightParenthesis → Derives (t ∷ opening ∷ (ts ++ (closing ∷ []))) (partitioned t es h)
    d_parentheses : {ts : List Token} {p : Part} (opening closing : Token) → IsSign opening s.LeftParenthesis → Derives ts p
        → IsSign closing s.RightParenthesis → Derives (opening ∷ (ts ++ (closing ∷ []))) (bracketed opening p)
    d_binder : {is ts us : List Token} {b : Bound} {p e : Part} (t dot bar : Token) (op : Binder) → IsSign t (binder_sign op) → Binding op is b → IsSign dot s.Dot
        → Derives ts p → IsTrue (is_pred p.level) → IsSign bar s.Bar → Derives us e → IsTrue (is_expr e.level)
        → Derives (t ∷ (is ++ (dot ∷ (ts ++ (bar ∷ us))))) (bound_by t op b p e)
    d_empty : (opening closing : Token) → IsSign opening s.LeftBrace → IsSign closing s.RightBrace → Derives (opening ∷ closing ∷ []) (empty_braces opening)
    d_extension : {ts : List Token} {es : List Ast} {h : ℕ} (opening closing : Token) → IsSign opening s.LeftBrace → Exprs ts es h
        → IsSign closing s.RightBrace → Derives (opening ∷ (ts ++ (closing ∷ []))) (extended opening es h)
    d_comprehension : {is ts us : List Token} {xs : List Identifier} {p e : Part} (opening dot bar closing : Token) → IsSign opening s.LeftBrace → Names is xs → IsSign dot s.Dot
        → Derives ts p → IsTrue (is_pred p.level) → IsSign bar s.Bar → Derives us e → IsTrue (is_expr e.level) → IsSign closing s.RightBrace
        → Derives (opening ∷ (is ++ (dot ∷ (ts ++ (bar ∷ (us ++ (closing ∷ []))))))) (comprehended opening xs p e)
    d_builder : {ts us : List Token} {e p : Part} (opening bar closing : Token) → IsSign opening s.LeftBrace → Derives ts e → IsTrue (is_expr e.level) → IsSign bar s.Bar
        → Derives us p → IsTrue (is_pred p.level) → IsSign closing s.RightBrace
        → Derives (opening ∷ (ts ++ (bar ∷ (us ++ (closing ∷ []))))) (built opening e p)
    -- Behind a formula that ends with the body of a quantifier stands nothing.
    d_inverse : {ts : List Token} {p : Part} (t : Token) → Derives ts p → IsTrue (admits g.Post p.level) → p.loose ≡ false → IsSign t s.Inverse → Derives (ts ++ (t ∷ [])) (inverted p)
    -- Every operator with two parts, by its row of the table.
    d_operator : {ts us : List Token} {p q : Part} (t : Token) (op : Operator) (cs : List Token) → Derives ts p → IsTrue (admits (group_of op) p.level) → p.loose ≡ false
        → IsSign t (operator_sign op) → Derives us q → IsTrue (takes (group_of op) q.level) → Closes (closing_sign op) cs
        → Derives (ts ++ (t ∷ (us ++ cs))) (joined op p q)

  -- exprs = expr {"," expr}: the expressions, and the greatest of their heights
  pub data Exprs : List Token → List Ast → ℕ → Type 0 where
    e_last : {ts : List Token} {p : Part} → Derives ts p → IsTrue (is_expr p.level) → Exprs ts (p.tree ∷ []) p.height
    e_more : {ts us : List Token} {p : Part} {es : List Ast} {h : ℕ} (comma : Token) → Derives ts p → IsTrue (is_expr p.level) → IsSign comma s.Comma → Exprs us es h
        → Exprs (ts ++ (comma ∷ us)) (p.tree ∷ es) (max p.height h)
