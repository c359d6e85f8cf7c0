-- The tokens of a formula are those that it was read from, and tokens of the same kinds read as the same formula but for its places.
use Rattle.std.proofs.Common.{◌≡◌, ◌∙◌, ◌+◌, ℕ, ℤ, max, Bool, List, [], ◌∷◌, ◌++◌, map, cond, refl, sym, ap, subst, rules, arith, IsTrue, append-nil}
use Rattle.std.specs.Prelude.{Option, Some, None}
use Rattle.eb_signs.specs.declared.sign.Sign.{Sign}
use Rattle.eb_signs.specs.declared.sign.Sign.TheVariants as s
use Rattle.eb_lexer.specs.declared.token.Token.{Token}
use Rattle.eb_lexer.specs.declared.token.TokenKind.{TokenKind}
use Rattle.eb_lexer.specs.declared.token.TokenKind.TheVariants as kind
use Rattle.eb_syntax.specs.declared.ast.Ast.{Ast, the_lemmas}
use Rattle.eb_syntax.specs.declared.ast.Constant.{Constant}
use Rattle.eb_syntax.specs.declared.ast.Prefix.{Prefix}
use Rattle.eb_syntax.specs.declared.ast.Call.{Call}
use Rattle.eb_syntax.specs.declared.ast.Operator.{Operator}
use Rattle.eb_syntax.specs.declared.ast.Quantifier.{Quantifier}
use Rattle.eb_syntax.specs.declared.ast.Binder.{Binder}
use Rattle.eb_syntax.specs.declared.ast.Bound.{Bound}
use Rattle.eb_syntax.specs.declared.ast.Bound.TheVariants as bound
use Rattle.eb_syntax.specs.declared.ast.Mark.{Mark}
use Rattle.eb_syntax.specs.declared.ast.Mark.TheVariants as mark
use Rattle.eb_syntax.specs.declared.ast.Identifier.{Identifier}
use Rattle.eb_syntax.specs.declared.ast.Node.TheVariants as node
use Rattle.eb_syntax.specs.Asts as tree
use Rattle.eb_parser.specs.declared.part.Part.{Part}
use Rattle.eb_signs.specs.declared.levels.Group.TheVariants as g
use Rattle.eb_signs.specs.Levels as level
use Rattle.eb_signs.specs.Levels.{is_pred, is_expr, group_of, admits, takes, constant_level, prefix_takes, call_takes}
use Rattle.eb_parser.specs.Signs.{constant_sign, prefix_sign, call_sign, quantifier_sign, binder_sign, operator_sign, closing_sign}
use Rattle.eb_parser.specs.Grammar.{Derives, Exprs, Names, n_last, n_more, Pattern, p_atom, p_maplet, Atom, a_identifier, a_parentheses, Binding, b_pattern, b_union, b_intersection, d_number, d_identifier, d_primed, d_constant, d_prefix, d_quantifier, d_call, d_partition, d_parentheses, d_binder, d_empty, d_extension, d_comprehension, d_builder, d_inverse, d_operator, e_last, e_more, Closes, leaf, prefixed, called, bracketed, inverted, joined, quantified, bound_by, comprehended, built, empty_braces, extended, partitioned, bound_at}
use Rattle.eb_spelling.specs.Spelling.{sign, name_kinds, mark_kind, bound_kinds, row_kinds, closing_kinds, kinds_of, unplaced_name, unplaced_mark, unplaced_bound, unplaced}

abbrev pub kinds : List Token → List TokenKind
kinds ts = map (λ t. t.kind) ts

kinds_both : (ts us : List Token) → kinds (ts ++ us) ≡ kinds ts ++ kinds us
kinds_both [] us = refl
kinds_both (t ∷ ts) us = ap (λ z. t.kind ∷ z) (kinds_both ts us)

-- the equations of the two folds
kinds_number : (l : ℕ) (n : ℤ) → kinds_of (tree.number l n) ≡ kind.Number n ∷ []
kinds_number l n = search (rules, the_lemmas)

kinds_identifier : (l : ℕ) (x : List ℕ) → kinds_of (tree.identifier l x) ≡ kind.Word x ∷ []
kinds_identifier l x = search (rules, the_lemmas)

kinds_primed : (l : ℕ) (x : List ℕ) → kinds_of (tree.primed l x) ≡ kind.Primed x ∷ []
kinds_primed l x = search (rules, the_lemmas)

kinds_constant : (l : ℕ) (c : Constant) → kinds_of (tree.constant l c) ≡ sign (constant_sign c) ∷ []
kinds_constant l c = search (rules, the_lemmas)

kinds_prefix : (l : ℕ) (o : Prefix) (a : Ast) → kinds_of (tree.prefix l o a) ≡ sign (prefix_sign o) ∷ kinds_of a
kinds_prefix l o a = search (rules, the_lemmas)

kinds_call : (l : ℕ) (o : Call) (a : Ast) → kinds_of (tree.call l o a) ≡ sign (call_sign o) ∷ sign s.LeftParenthesis ∷ (kinds_of a ++ (sign s.RightParenthesis ∷ []))
kinds_call l o a = search (rules, the_lemmas)

kinds_parentheses : (l : ℕ) (a : Ast) → kinds_of (tree.parentheses l a) ≡ sign s.LeftParenthesis ∷ (kinds_of a ++ (sign s.RightParenthesis ∷ []))
kinds_parentheses l a = search (rules, the_lemmas)

kinds_inverse : (a : Ast) → kinds_of (tree.inverse a) ≡ kinds_of a ++ (sign s.Inverse ∷ [])
kinds_inverse a = search (rules, the_lemmas)

kinds_operator : (o : Operator) (a c : Ast) → kinds_of (tree.operator o a c) ≡ kinds_of a ++ (sign (operator_sign o) ∷ (kinds_of c ++ closing_kinds (closing_sign o)))
kinds_operator o a c = search (rules, the_lemmas)

kinds_quantifier : (l : ℕ) (q : Quantifier) (xs : List Identifier) (a : Ast) → kinds_of (tree.quantifier l q xs a) ≡ sign (quantifier_sign q) ∷ (name_kinds xs ++ (sign s.Dot ∷ kinds_of a))
kinds_quantifier l q xs a = search (rules, the_lemmas)

kinds_binder : (l : ℕ) (o : Binder) (b : Bound) (a c : Ast) → kinds_of (tree.binder l o b a c) ≡ sign (binder_sign o) ∷ (bound_kinds b ++ (sign s.Dot ∷ (kinds_of a ++ (sign s.Bar ∷ kinds_of c))))
kinds_binder l o b a c = search (rules, the_lemmas)

kinds_comprehension : (l : ℕ) (xs : List Identifier) (a c : Ast) → kinds_of (tree.comprehension l xs a c) ≡ sign s.LeftBrace ∷ (name_kinds xs ++ (sign s.Dot ∷ (kinds_of a ++ (sign s.Bar ∷ (kinds_of c ++ (sign s.RightBrace ∷ []))))))
kinds_comprehension l xs a c = search (rules, the_lemmas)

kinds_builder : (l : ℕ) (a c : Ast) → kinds_of (tree.builder l a c) ≡ sign s.LeftBrace ∷ (kinds_of a ++ (sign s.Bar ∷ (kinds_of c ++ (sign s.RightBrace ∷ []))))
kinds_builder l a c = search (rules, the_lemmas)

kinds_extension : (l : ℕ) (es : List Ast) → kinds_of (tree.extension l es) ≡ sign s.LeftBrace ∷ (row_kinds (map kinds_of es) ++ (sign s.RightBrace ∷ []))
kinds_extension l es = search (rules, the_lemmas)

kinds_partition : (l : ℕ) (es : List Ast) → kinds_of (tree.partition l es) ≡ sign s.Partition ∷ sign s.LeftParenthesis ∷ (row_kinds (map kinds_of es) ++ (sign s.RightParenthesis ∷ []))
kinds_partition l es = search (rules, the_lemmas)

bare_number : (l : ℕ) (n : ℤ) → unplaced (tree.number l n) ≡ tree.number 0 n
bare_number l n = search (rules, the_lemmas)

bare_identifier : (l : ℕ) (x : List ℕ) → unplaced (tree.identifier l x) ≡ tree.identifier 0 x
bare_identifier l x = search (rules, the_lemmas)

bare_primed : (l : ℕ) (x : List ℕ) → unplaced (tree.primed l x) ≡ tree.primed 0 x
bare_primed l x = search (rules, the_lemmas)

bare_constant : (l : ℕ) (c : Constant) → unplaced (tree.constant l c) ≡ tree.constant 0 c
bare_constant l c = search (rules, the_lemmas)

bare_prefix : (l : ℕ) (o : Prefix) (a : Ast) → unplaced (tree.prefix l o a) ≡ tree.prefix 0 o (unplaced a)
bare_prefix l o a = search (rules, the_lemmas)

bare_call : (l : ℕ) (o : Call) (a : Ast) → unplaced (tree.call l o a) ≡ tree.call 0 o (unplaced a)
bare_call l o a = search (rules, the_lemmas)

bare_parentheses : (l : ℕ) (a : Ast) → unplaced (tree.parentheses l a) ≡ tree.parentheses 0 (unplaced a)
bare_parentheses l a = search (rules, the_lemmas)

bare_inverse : (a : Ast) → unplaced (tree.inverse a) ≡ tree.at 0 (node.Inverse (unplaced a))
bare_inverse a = search (rules, the_lemmas)

bare_operator : (o : Operator) (a c : Ast) → unplaced (tree.operator o a c) ≡ tree.at 0 (node.Operator o (unplaced a) (unplaced c))
bare_operator o a c = search (rules, the_lemmas)

bare_quantifier : (l : ℕ) (q : Quantifier) (xs : List Identifier) (a : Ast) → unplaced (tree.quantifier l q xs a) ≡ tree.quantifier 0 q (map unplaced_name xs) (unplaced a)
bare_quantifier l q xs a = search (rules, the_lemmas)

bare_binder : (l : ℕ) (o : Binder) (b : Bound) (a c : Ast) → unplaced (tree.binder l o b a c) ≡ tree.binder 0 o (unplaced_bound b) (unplaced a) (unplaced c)
bare_binder l o b a c = search (rules, the_lemmas)

bare_comprehension : (l : ℕ) (xs : List Identifier) (a c : Ast) → unplaced (tree.comprehension l xs a c) ≡ tree.comprehension 0 (map unplaced_name xs) (unplaced a) (unplaced c)
bare_comprehension l xs a c = search (rules, the_lemmas)

bare_builder : (l : ℕ) (a c : Ast) → unplaced (tree.builder l a c) ≡ tree.builder 0 (unplaced a) (unplaced c)
bare_builder l a c = search (rules, the_lemmas)

bare_extension : (l : ℕ) (es : List Ast) → unplaced (tree.extension l es) ≡ tree.extension 0 (map unplaced es)
bare_extension l es = search (rules, the_lemmas)

bare_partition : (l : ℕ) (es : List Ast) → unplaced (tree.partition l es) ≡ tree.partition 0 (map unplaced es)
bare_partition l es = search (rules, the_lemmas)

-- what was read is spelled so
more_names : (k c : TokenKind) (ks : List TokenKind) (t : Token) (x : List ℕ) {ts : List Token} {xs : List Identifier} → k ≡ kind.Word x → c ≡ sign s.Comma → Names ts xs → ks ≡ name_kinds xs → k ∷ c ∷ ks ≡ name_kinds (bound_at t x ∷ xs)
more_names k c ks t x e i (n_last u y f) h = rw (e, i, h) refl
more_names k c ks t x e i (n_more u d y f j n) h = rw (e, i, h) refl

pub names_spelled : {ts : List Token} {xs : List Identifier} → Names ts xs → kinds ts ≡ name_kinds xs
names_spelled (n_last t x e) = ap (λ z. z ∷ []) e
names_spelled (n_more {ts = ts} t c x e i n) = more_names t.kind c.kind (kinds ts) t x e i n (names_spelled n)

marks_both : (ms ns : List Mark) → map mark_kind (ms ++ ns) ≡ map mark_kind ms ++ map mark_kind ns
marks_both [] ns = refl
marks_both (m ∷ ms) ns = ap (λ z. mark_kind m ∷ z) (marks_both ms ns)

mutual
  pattern_spelled : {ts : List Token} {ms : List Mark} → Pattern ts ms → kinds ts ≡ map mark_kind ms
  pattern_spelled (p_atom a) = atom_spelled a
  pattern_spelled (p_maplet {ts = ts} {us = us} {ms = ms} {ns = ns} t p i a) = rw (kinds_both ts (t ∷ us), marks_both ms (mark.MapsTo ∷ ns), pattern_spelled p, atom_spelled a, i) refl

  atom_spelled : {ts : List Token} {ms : List Mark} → Atom ts ms → kinds ts ≡ map mark_kind ms
  atom_spelled (a_identifier t x e) = ap (λ z. z ∷ []) e
  atom_spelled (a_parentheses {ts = ts} {ms = ms} o c i p j) = rw (kinds_both ts (c ∷ []), marks_both ms (mark.Close ∷ []), pattern_spelled p, i, j) refl

binding_spelled : {o : Binder} {ts : List Token} {b : Bound} → Binding o ts b → kinds ts ≡ bound_kinds b
binding_spelled (b_pattern p) = pattern_spelled p
binding_spelled (b_union n) = names_spelled n
binding_spelled (b_intersection n) = names_spelled n

closing_spelled : (o : Option Sign) (cs : List Token) → Closes o cs → kinds cs ≡ closing_kinds o
closing_spelled None cs c = ap kinds c
closing_spelled (Some r) cs c = ap kinds c.1 ∙ ap (λ z. z ∷ []) c.2

more_rows : {us : List Token} {es : List Ast} {h : ℕ} (ks : List TokenKind) → Exprs us es h → row_kinds (ks ∷ map kinds_of es) ≡ ks ++ (sign s.Comma ∷ row_kinds (map kinds_of es))
more_rows ks (e_last d l) = refl
more_rows ks (e_more c d l i r) = refl

mutual
  pub spelled : {ts : List Token} {p : Part} → Derives ts p → kinds ts ≡ kinds_of p.tree
  spelled (d_number t n e) = ap (λ z. z ∷ []) e ∙ sym (kinds_number t.start n)
  spelled (d_identifier t x e) = ap (λ z. z ∷ []) e ∙ sym (kinds_identifier t.start x)
  spelled (d_primed t x e) = ap (λ z. z ∷ []) e ∙ sym (kinds_primed t.start x)
  spelled (d_constant t c e) = ap (λ z. z ∷ []) e ∙ sym (kinds_constant t.start c)
  spelled (d_prefix {ts = ts} {p = p} t o i d h) = rw (i, spelled d) refl ∙ sym (kinds_prefix t.start o p.tree)
  spelled (d_quantifier {is = is} {ts = ts} {xs = xs} {p = p} t dot q i n j d h) = rw (kinds_both is (dot ∷ ts), i, j, names_spelled n, spelled d) refl ∙ sym (kinds_quantifier t.start q xs p.tree)
  spelled (d_call {ts = ts} {p = p} t o c f i j d h l) = rw (kinds_both ts (c ∷ []), i, j, l, spelled d) refl ∙ sym (kinds_call t.start f p.tree)
  spelled (d_partition {ts = ts} {es = es} t o c i j r l) = rw (kinds_both ts (c ∷ []), i, j, l, row_spelled r) refl ∙ sym (kinds_partition t.start es)
  spelled (d_parentheses {ts = ts} {p = p} o c i d j) = rw (kinds_both ts (c ∷ []), i, j, spelled d) refl ∙ sym (kinds_parentheses o.start p.tree)
  spelled (d_binder {is = is} {ts = ts} {us = us} {b = b} {p = p} {e = q} t dot bar o i n j d h l e m) =
      rw (kinds_both is (dot ∷ (ts ++ (bar ∷ us))), kinds_both ts (bar ∷ us), i, j, l, binding_spelled n, spelled d, spelled e) refl ∙ sym (kinds_binder t.start o b p.tree q.tree)
  spelled (d_empty o c i j) = rw (i, j) refl ∙ sym (kinds_extension o.start [])
  spelled (d_extension {ts = ts} {es = es} o c i r j) = rw (kinds_both ts (c ∷ []), i, j, row_spelled r) refl ∙ sym (kinds_extension o.start es)
  spelled (d_comprehension {is = is} {ts = ts} {us = us} {xs = xs} {p = p} {e = q} o dot bar c i n j d h l e m k) =
      rw (kinds_both is (dot ∷ (ts ++ (bar ∷ (us ++ (c ∷ []))))), kinds_both ts (bar ∷ (us ++ (c ∷ []))), kinds_both us (c ∷ []), i, j, l, k, names_spelled n, spelled d, spelled e) refl ∙ sym (kinds_comprehension o.start xs p.tree q.tree)
  spelled (d_builder {ts = ts} {us = us} {e = q} {p = p} o bar c i d h j e l m) =
      rw (kinds_both ts (bar ∷ (us ++ (c ∷ []))), kinds_both us (c ∷ []), i, j, m, spelled d, spelled e) refl ∙ sym (kinds_builder o.start q.tree p.tree)
  spelled (d_inverse {ts = ts} {p = p} t d h l i) = rw (kinds_both ts (t ∷ []), i, spelled d) refl ∙ sym (kinds_inverse p.tree)
  spelled (d_operator {ts = ts} {us = us} {p = p} {q = q} t o cs d a c i e h l) =
      rw (kinds_both ts (t ∷ (us ++ cs)), kinds_both us cs, i, closing_spelled (closing_sign o) cs l, spelled d, spelled e) refl ∙ sym (kinds_operator o p.tree q.tree)

  row_spelled : {ts : List Token} {es : List Ast} {h : ℕ} → Exprs ts es h → kinds ts ≡ row_kinds (map kinds_of es)
  row_spelled (e_last {p = p} d l) = spelled d ∙ sym (append-nil (kinds_of p.tree))
  row_spelled (e_more {ts = ts} {us = us} {p = p} {es = es} c d l i r) = rw (kinds_both ts (c ∷ us), i, spelled d, row_spelled r) (sym (more_rows (kinds_of p.tree) r))

-- tokens of the same kinds, part by part
record One (us : List Token) (k : TokenKind) (ks : List TokenKind) : Type 0 where
  token : Token
  rest : List Token
  kind : token.kind ≡ k
  is : us ≡ token ∷ rest
  others : kinds rest ≡ ks

one : (us : List Token) (k : TokenKind) (ks : List TokenKind) → kinds us ≡ k ∷ ks → One us k ks
one [] k ks e = absurd cc
one (u ∷ us) k ks e = let a : u.kind ≡ k = cc in let b : kinds us ≡ ks = cc in record { token = u; rest = us; kind = a; is = refl; others = b }

none : (us : List Token) → kinds us ≡ [] → us ≡ []
none [] e = refl
none (u ∷ us) e = absurd cc

record Two (us : List Token) (ks ls : List TokenKind) : Type 0 where
  front : List Token
  rest : List Token
  is : us ≡ front ++ rest
  first : kinds front ≡ ks
  others : kinds rest ≡ ls

split : (ks ls : List TokenKind) (us : List Token) → kinds us ≡ ks ++ ls → Two us ks ls
split [] ls us e = record { front = []; rest = us; is = refl; first = refl; others = e }
split (k ∷ ks) ls us e =
    let a = one us k (ks ++ ls) e in
    let w = split ks ls a.rest a.others in
    record { front = a.token ∷ w.front; rest = w.rest; is = a.is ∙ ap (λ z. a.token ∷ z) w.is; first = rw (a.kind, w.first) refl; others = w.others }

two : (ts vs us : List Token) → kinds us ≡ kinds (ts ++ vs) → Two us (kinds ts) (kinds vs)
two ts vs us e = split (kinds ts) (kinds vs) us (e ∙ kinds_both ts vs)

record AgainNames (us : List Token) (xs : List Identifier) : Type 0 where
  names : List Identifier
  named : Names us names
  same : map unplaced_name names ≡ map unplaced_name xs

names_again : {ts : List Token} {xs : List Identifier} → Names ts xs → (us : List Token) → kinds us ≡ kinds ts → AgainNames us xs
names_again (n_last t x e) us h =
    let a = one us t.kind [] h in
    let is : us ≡ a.token ∷ [] = a.is ∙ ap (λ z. a.token ∷ z) (none a.rest a.others) in
    subst (λ z. AgainNames z (bound_at t x ∷ [])) (sym is) (record { names = bound_at a.token x ∷ []; named = n_last a.token x (a.kind ∙ e); same = refl })
names_again (n_more {ts = ts} {xs = xs} t c x e i n) us h =
    let a = one us t.kind (c.kind ∷ kinds ts) h in
    let b = one a.rest c.kind (kinds ts) a.others in
    let r = names_again n b.rest b.others in
    let is : us ≡ a.token ∷ b.token ∷ b.rest = a.is ∙ ap (λ z. a.token ∷ z) b.is in
    subst (λ z. AgainNames z (bound_at t x ∷ xs)) (sym is) (record { names = bound_at a.token x ∷ r.names; named = n_more a.token b.token x (a.kind ∙ e) (b.kind ∙ i) r.named; same = ap (λ z. unplaced_name (bound_at t x) ∷ z) r.same })

record AgainPattern (us : List Token) (ms : List Mark) : Type 0 where
  marks : List Mark
  derived : Pattern us marks
  same : map unplaced_mark marks ≡ map unplaced_mark ms

record AgainAtom (us : List Token) (ms : List Mark) : Type 0 where
  marks : List Mark
  derived : Atom us marks
  same : map unplaced_mark marks ≡ map unplaced_mark ms

bare_both : (ms ns : List Mark) → map unplaced_mark (ms ++ ns) ≡ map unplaced_mark ms ++ map unplaced_mark ns
bare_both [] ns = refl
bare_both (m ∷ ms) ns = ap (λ z. unplaced_mark m ∷ z) (bare_both ms ns)

mutual
  pattern_again : {ts : List Token} {ms : List Mark} → Pattern ts ms → (us : List Token) → kinds us ≡ kinds ts → AgainPattern us ms
  pattern_again (p_atom a) us h = let r = atom_again a us h in record { marks = r.marks; derived = p_atom r.derived; same = r.same }
  pattern_again (p_maplet {ts = ts} {us = vs} {ms = ms} {ns = ns} t p i a) us h =
      let w = two ts (t ∷ vs) us h in
      let b = one w.rest t.kind (kinds vs) w.others in
      let x = pattern_again p w.front w.first in
      let y = atom_again a b.rest b.others in
      let is : us ≡ w.front ++ (b.token ∷ b.rest) = w.is ∙ ap (λ z. w.front ++ z) b.is in
      let same : map unplaced_mark (x.marks ++ (mark.MapsTo ∷ y.marks)) ≡ map unplaced_mark (ms ++ (mark.MapsTo ∷ ns)) = rw (bare_both x.marks (mark.MapsTo ∷ y.marks), bare_both ms (mark.MapsTo ∷ ns), x.same, y.same) refl in
      subst (λ z. AgainPattern z (ms ++ (mark.MapsTo ∷ ns))) (sym is) (record { marks = x.marks ++ (mark.MapsTo ∷ y.marks); derived = p_maplet b.token x.derived (b.kind ∙ i) y.derived; same = same })

  atom_again : {ts : List Token} {ms : List Mark} → Atom ts ms → (us : List Token) → kinds us ≡ kinds ts → AgainAtom us ms
  atom_again (a_identifier t x e) us h =
      let a = one us t.kind [] h in
      let is : us ≡ a.token ∷ [] = a.is ∙ ap (λ z. a.token ∷ z) (none a.rest a.others) in
      subst (λ z. AgainAtom z (mark.Identifier (bound_at t x) ∷ [])) (sym is) (record { marks = mark.Identifier (bound_at a.token x) ∷ []; derived = a_identifier a.token x (a.kind ∙ e); same = refl })
  atom_again (a_parentheses {ts = ts} {ms = ms} o c i p j) us h =
      let a = one us o.kind (kinds (ts ++ (c ∷ []))) h in
      let w = two ts (c ∷ []) a.rest a.others in
      let b = one w.rest c.kind [] w.others in
      let x = pattern_again p w.front w.first in
      let is : us ≡ a.token ∷ (w.front ++ (b.token ∷ [])) = a.is ∙ ap (λ z. a.token ∷ z) (w.is ∙ ap (λ z. w.front ++ z) (b.is ∙ ap (λ z. b.token ∷ z) (none b.rest b.others))) in
      let same : map unplaced_mark (mark.Open ∷ (x.marks ++ (mark.Close ∷ []))) ≡ map unplaced_mark (mark.Open ∷ (ms ++ (mark.Close ∷ []))) = rw (bare_both x.marks (mark.Close ∷ []), bare_both ms (mark.Close ∷ []), x.same) refl in
      subst (λ z. AgainAtom z (mark.Open ∷ (ms ++ (mark.Close ∷ [])))) (sym is) (record { marks = mark.Open ∷ (x.marks ++ (mark.Close ∷ [])); derived = a_parentheses a.token b.token (a.kind ∙ i) x.derived (b.kind ∙ j); same = same })

record AgainBound (o : Binder) (us : List Token) (b : Bound) : Type 0 where
  what : Bound
  binds : Binding o us what
  same : unplaced_bound what ≡ unplaced_bound b

binding_again : {o : Binder} {ts : List Token} {b : Bound} → Binding o ts b → (us : List Token) → kinds us ≡ kinds ts → AgainBound o us b
binding_again (b_pattern p) us h = let r = pattern_again p us h in record { what = bound.Pattern r.marks; binds = b_pattern r.derived; same = ap bound.Pattern r.same }
binding_again (b_union n) us h = let r = names_again n us h in record { what = bound.Identifiers r.names; binds = b_union r.named; same = ap bound.Identifiers r.same }
binding_again (b_intersection n) us h = let r = names_again n us h in record { what = bound.Identifiers r.names; binds = b_intersection r.named; same = ap bound.Identifiers r.same }

closes_again : (o : Option Sign) (cs us : List Token) → Closes o cs → kinds us ≡ kinds cs → Closes o us
closes_again None cs us c h = none us (h ∙ ap kinds c)
closes_again (Some r) cs us c h =
    let a = one us (c.0).kind [] (h ∙ ap kinds c.1) in
    (a.token, a.is ∙ ap (λ z. a.token ∷ z) (none a.rest a.others), a.kind ∙ c.2)

-- the tokens read as the same formula but for its places
pub record Again (us : List Token) (p : Part) : Type 0 where
  pub part : Part
  pub derived : Derives us part
  pub level : part.level ≡ p.level
  pub loose : part.loose ≡ p.loose
  pub height : part.height ≡ p.height
  pub tree : unplaced part.tree ≡ unplaced p.tree

record AgainRow (us : List Token) (es : List Ast) (h : ℕ) : Type 0 where
  row : List Ast
  high : ℕ
  derived : Exprs us row high
  height : high ≡ h
  same : map unplaced row ≡ map unplaced es

again_at : {us vs : List Token} {p : Part} → us ≡ vs → Again vs p → Again us p
again_at {p = p} e x = subst (λ z. Again z p) (sym e) x

again_leaf : (us : List Token) (t : Token) (l : ℕ) (f : ℕ → Ast) → ((a c : ℕ) → unplaced (f a) ≡ unplaced (f c)) → ((u : Token) → u.kind ≡ t.kind → Derives (u ∷ []) (leaf l (f u.start))) → kinds us ≡ t.kind ∷ [] → Again us (leaf l (f t.start))
again_leaf us t l f g d h =
    let a = one us t.kind [] h in
    again_at (a.is ∙ ap (λ z. a.token ∷ z) (none a.rest a.others)) (record { part = leaf l (f (a.token).start); derived = d a.token a.kind; level = refl; loose = refl; height = refl; tree = g (a.token).start t.start })

fits_again : (f : ℕ → Bool) (a c : ℕ) → a ≡ c → IsTrue (f c) → IsTrue (f a)
fits_again f a c e h = ap f e ∙ h

bracketed_level : (t u : Token) (p q : Part) → q.level ≡ p.level → (bracketed t q).level ≡ (bracketed u p).level
bracketed_level t u p q e = ap (λ z. cond (is_pred z) level.lit level.prim) e

mutual
  pub again : {ts : List Token} {p : Part} → Derives ts p → (us : List Token) → kinds us ≡ kinds ts → Again us p
  again (d_number t n e) us h = again_leaf us t level.prim (λ l. tree.number l n) (λ a c. bare_number a n ∙ sym (bare_number c n)) (λ u i. d_number u n (i ∙ e)) h
  again (d_identifier t x e) us h = again_leaf us t level.prim (λ l. tree.identifier l x) (λ a c. bare_identifier a x ∙ sym (bare_identifier c x)) (λ u i. d_identifier u x (i ∙ e)) h
  again (d_primed t x e) us h = again_leaf us t level.prim (λ l. tree.primed l x) (λ a c. bare_primed a x ∙ sym (bare_primed c x)) (λ u i. d_primed u x (i ∙ e)) h
  again (d_constant t k e) us h = again_leaf us t (constant_level k) (λ l. tree.constant l k) (λ a c. bare_constant a k ∙ sym (bare_constant c k)) (λ u i. d_constant u k (i ∙ e)) h
  again (d_prefix {ts = ts} {p = p} t o i d f) us h =
      let a = one us t.kind (kinds ts) h in
      let q = again d a.rest a.others in
      again_at a.is (record {
        part = prefixed a.token o q.part;
        derived = d_prefix a.token o (a.kind ∙ i) q.derived (fits_again (prefix_takes o) _ _ q.level f);
        level = refl;
        loose = q.loose;
        height = ap (λ z. z + 1) q.height;
        tree = bare_prefix _ o (q.part).tree ∙ (ap (tree.prefix 0 o) q.tree ∙ sym (bare_prefix t.start o p.tree));
      })
  again (d_quantifier {is = is} {ts = ts} {xs = xs} {p = p} t dot r i n j d f) us h =
      let a = one us t.kind (kinds (is ++ (dot ∷ ts))) h in
      let w = two is (dot ∷ ts) a.rest a.others in
      let b = one w.rest dot.kind (kinds ts) w.others in
      let m = names_again n w.front w.first in
      let q = again d b.rest b.others in
      again_at (a.is ∙ ap (λ z. a.token ∷ z) (w.is ∙ ap (λ z. w.front ++ z) b.is)) (record {
        part = quantified a.token r m.names q.part;
        derived = d_quantifier a.token b.token r (a.kind ∙ i) m.named (b.kind ∙ j) q.derived (fits_again is_pred _ _ q.level f);
        level = refl;
        loose = refl;
        height = ap (λ z. z + 1) q.height;
        tree = bare_quantifier _ r m.names (q.part).tree ∙ (rw (m.same, q.tree) refl ∙ sym (bare_quantifier t.start r xs p.tree));
      })
  again (d_call {ts = ts} {p = p} t o c k i j d f l) us h =
      let a = one us t.kind (o.kind ∷ kinds (ts ++ (c ∷ []))) h in
      let b = one a.rest o.kind (kinds (ts ++ (c ∷ []))) a.others in
      let w = two ts (c ∷ []) b.rest b.others in
      let e = one w.rest c.kind [] w.others in
      let q = again d w.front w.first in
      again_at (a.is ∙ ap (λ z. a.token ∷ z) (b.is ∙ ap (λ z. b.token ∷ z) (w.is ∙ ap (λ z. w.front ++ z) (e.is ∙ ap (λ z. e.token ∷ z) (none e.rest e.others)))))
      (record {
        part = called a.token k q.part;
        derived = d_call a.token b.token e.token k (a.kind ∙ i) (b.kind ∙ j) q.derived (fits_again (call_takes k) _ _ q.level f) (e.kind ∙ l);
        level = refl;
        loose = refl;
        height = ap (λ z. z + 1) q.height;
        tree = bare_call _ k (q.part).tree ∙ (ap (tree.call 0 k) q.tree ∙ sym (bare_call t.start k p.tree));
      })
  again (d_partition {ts = ts} {es = es} t o c i j r l) us h =
      let a = one us t.kind (o.kind ∷ kinds (ts ++ (c ∷ []))) h in
      let b = one a.rest o.kind (kinds (ts ++ (c ∷ []))) a.others in
      let w = two ts (c ∷ []) b.rest b.others in
      let e = one w.rest c.kind [] w.others in
      let q = row_again r w.front w.first in
      again_at (a.is ∙ ap (λ z. a.token ∷ z) (b.is ∙ ap (λ z. b.token ∷ z) (w.is ∙ ap (λ z. w.front ++ z) (e.is ∙ ap (λ z. e.token ∷ z) (none e.rest e.others)))))
      (record {
        part = partitioned a.token q.row q.high;
        derived = d_partition a.token b.token e.token (a.kind ∙ i) (b.kind ∙ j) q.derived (e.kind ∙ l);
        level = refl;
        loose = refl;
        height = ap (λ z. z + 1) q.height;
        tree = bare_partition _ q.row ∙ (ap (tree.partition 0) q.same ∙ sym (bare_partition t.start es));
      })
  again (d_parentheses {ts = ts} {p = p} o c i d j) us h =
      let a = one us o.kind (kinds (ts ++ (c ∷ []))) h in
      let w = two ts (c ∷ []) a.rest a.others in
      let e = one w.rest c.kind [] w.others in
      let q = again d w.front w.first in
      again_at (a.is ∙ ap (λ z. a.token ∷ z) (w.is ∙ ap (λ z. w.front ++ z) (e.is ∙ ap (λ z. e.token ∷ z) (none e.rest e.others))))
      (record {
        part = bracketed a.token q.part;
        derived = d_parentheses a.token e.token (a.kind ∙ i) q.derived (e.kind ∙ j);
        level = bracketed_level a.token o p q.part q.level;
        loose = refl;
        height = ap (λ z. z + 1) q.height;
        tree = bare_parentheses _ (q.part).tree ∙ (ap (tree.parentheses 0) q.tree ∙ sym (bare_parentheses o.start p.tree));
      })
  again (d_binder {is = is} {ts = ts} {us = vs} {b = b} {p = p} {e = r} t dot bar o i n j d f l e m) us h =
      let a = one us t.kind (kinds (is ++ (dot ∷ (ts ++ (bar ∷ vs))))) h in
      let w = two is (dot ∷ (ts ++ (bar ∷ vs))) a.rest a.others in
      let x = one w.rest dot.kind (kinds (ts ++ (bar ∷ vs))) w.others in
      let y = two ts (bar ∷ vs) x.rest x.others in
      let z = one y.rest bar.kind (kinds vs) y.others in
      let bd = binding_again n w.front w.first in
      let q = again d y.front y.first in
      let k = again e z.rest z.others in
      again_at (a.is ∙ ap (λ v. a.token ∷ v) (w.is ∙ ap (λ v. w.front ++ v) (x.is ∙ ap (λ v. x.token ∷ v) (y.is ∙ ap (λ v. y.front ++ v) z.is))))
      (record {
        part = bound_by a.token o bd.what q.part k.part;
        derived = d_binder a.token x.token z.token o (a.kind ∙ i) bd.binds (x.kind ∙ j) q.derived (fits_again is_pred _ _ q.level f) (z.kind ∙ l) k.derived (fits_again is_expr _ _ k.level m);
        level = refl;
        loose = k.loose;
        height = omega (arith, q.height, k.height);
        tree = bare_binder _ o bd.what (q.part).tree (k.part).tree ∙ (rw (bd.same, q.tree, k.tree) refl ∙ sym (bare_binder t.start o b p.tree r.tree));
      })
  again (d_empty o c i j) us h =
      let a = one us o.kind (c.kind ∷ []) h in
      let b = one a.rest c.kind [] a.others in
      again_at (a.is ∙ ap (λ z. a.token ∷ z) (b.is ∙ ap (λ z. b.token ∷ z) (none b.rest b.others))) (record {
        part = empty_braces a.token;
        derived = d_empty a.token b.token (a.kind ∙ i) (b.kind ∙ j);
        level = refl;
        loose = refl;
        height = refl;
        tree = bare_extension _ [] ∙ sym (bare_extension o.start []);
      })
  again (d_extension {ts = ts} {es = es} o c i r j) us h =
      let a = one us o.kind (kinds (ts ++ (c ∷ []))) h in
      let w = two ts (c ∷ []) a.rest a.others in
      let e = one w.rest c.kind [] w.others in
      let q = row_again r w.front w.first in
      again_at (a.is ∙ ap (λ z. a.token ∷ z) (w.is ∙ ap (λ z. w.front ++ z) (e.is ∙ ap (λ z. e.token ∷ z) (none e.rest e.others))))
      (record {
        part = extended a.token q.row q.high;
        derived = d_extension a.token e.token (a.kind ∙ i) q.derived (e.kind ∙ j);
        level = refl;
        loose = refl;
        height = ap (λ z. z + 1) q.height;
        tree = bare_extension _ q.row ∙ (ap (tree.extension 0) q.same ∙ sym (bare_extension o.start es));
      })
  again (d_comprehension {is = is} {ts = ts} {us = vs} {xs = xs} {p = p} {e = r} o dot bar c i n j d f l e m v) us h =
      let a = one us o.kind (kinds (is ++ (dot ∷ (ts ++ (bar ∷ (vs ++ (c ∷ []))))))) h in
      let w = two is (dot ∷ (ts ++ (bar ∷ (vs ++ (c ∷ []))))) a.rest a.others in
      let x = one w.rest dot.kind (kinds (ts ++ (bar ∷ (vs ++ (c ∷ []))))) w.others in
      let y = two ts (bar ∷ (vs ++ (c ∷ []))) x.rest x.others in
      let z = one y.rest bar.kind (kinds (vs ++ (c ∷ []))) y.others in
      let w2 = two vs (c ∷ []) z.rest z.others in
      let z2 = one w2.rest c.kind [] w2.others in
      let bd = names_again n w.front w.first in
      let q = again d y.front y.first in
      let k = again e w2.front w2.first in
      again_at (a.is ∙ ap (λ v. a.token ∷ v) (w.is ∙ ap (λ v. w.front ++ v) (x.is ∙ ap (λ v. x.token ∷ v) (y.is ∙ ap (λ v. y.front ++ v) (z.is ∙ ap (λ v. z.token ∷ v) (w2.is ∙ ap (λ v. w2.front ++ v) (z2.is ∙ ap (λ v. z2.token ∷ v) (none z2.rest z2.others))))))))
      (record {
        part = comprehended a.token bd.names q.part k.part;
        derived = d_comprehension a.token x.token z.token z2.token (a.kind ∙ i) bd.named (x.kind ∙ j) q.derived (fits_again is_pred _ _ q.level f) (z.kind ∙ l) k.derived (fits_again is_expr _ _ k.level m) (z2.kind ∙ v);
        level = refl;
        loose = refl;
        height = omega (arith, q.height, k.height);
        tree = bare_comprehension _ bd.names (q.part).tree (k.part).tree ∙ (rw (bd.same, q.tree, k.tree) refl ∙ sym (bare_comprehension o.start xs p.tree r.tree));
      })
  again (d_builder {ts = ts} {us = vs} {e = r} {p = p} o bar c i d f j e l m) us h =
      let a = one us o.kind (kinds (ts ++ (bar ∷ (vs ++ (c ∷ []))))) h in
      let y = two ts (bar ∷ (vs ++ (c ∷ []))) a.rest a.others in
      let z = one y.rest bar.kind (kinds (vs ++ (c ∷ []))) y.others in
      let w2 = two vs (c ∷ []) z.rest z.others in
      let z2 = one w2.rest c.kind [] w2.others in
      let q = again d y.front y.first in
      let k = again e w2.front w2.first in
      again_at (a.is ∙ ap (λ v. a.token ∷ v) (y.is ∙ ap (λ v. y.front ++ v) (z.is ∙ ap (λ v. z.token ∷ v) (w2.is ∙ ap (λ v. w2.front ++ v) (z2.is ∙ ap (λ v. z2.token ∷ v) (none z2.rest z2.others))))))
      (record {
        part = built a.token q.part k.part;
        derived = d_builder a.token z.token z2.token (a.kind ∙ i) q.derived (fits_again is_expr _ _ q.level f) (z.kind ∙ j) k.derived (fits_again is_pred _ _ k.level l) (z2.kind ∙ m);
        level = refl;
        loose = refl;
        height = omega (arith, q.height, k.height);
        tree = bare_builder _ (q.part).tree (k.part).tree ∙ (rw (q.tree, k.tree) refl ∙ sym (bare_builder o.start r.tree p.tree));
      })
  again (d_inverse {ts = ts} {p = p} t d f l i) us h =
      let w = two ts (t ∷ []) us h in
      let e = one w.rest t.kind [] w.others in
      let q = again d w.front w.first in
      again_at (w.is ∙ ap (λ z. w.front ++ z) (e.is ∙ ap (λ z. e.token ∷ z) (none e.rest e.others)))
      (record {
        part = inverted q.part;
        derived = d_inverse e.token q.derived (fits_again (admits g.Post) _ _ q.level f) (q.loose ∙ l) (e.kind ∙ i);
        level = refl;
        loose = refl;
        height = ap (λ z. z + 1) q.height;
        tree = bare_inverse (q.part).tree ∙ (ap (λ z. tree.at 0 (node.Inverse z)) q.tree ∙ sym (bare_inverse p.tree));
      })
  again (d_operator {ts = ts} {us = vs} {p = p} {q = r} t o cs d f c i e l m) us h =
      let w = two ts (t ∷ (vs ++ cs)) us h in
      let a = one w.rest t.kind (kinds (vs ++ cs)) w.others in
      let y = two vs cs a.rest a.others in
      let q = again d w.front w.first in
      let k = again e y.front y.first in
      again_at (w.is ∙ ap (λ z. w.front ++ z) (a.is ∙ ap (λ z. a.token ∷ z) y.is))
      (record {
        part = joined o q.part k.part;
        derived = d_operator a.token o y.rest q.derived (fits_again (admits (group_of o)) _ _ q.level f) (q.loose ∙ c) (a.kind ∙ i) k.derived (fits_again (takes (group_of o)) _ _ k.level l) (closes_again (closing_sign o) cs y.rest m y.others);
        level = refl;
        loose = k.loose;
        height = omega (arith, q.height, k.height);
        tree = bare_operator o (q.part).tree (k.part).tree ∙ (rw (q.tree, k.tree) refl ∙ sym (bare_operator o p.tree r.tree));
      })

  row_again : {ts : List Token} {es : List Ast} {h : ℕ} → Exprs ts es h → (us : List Token) → kinds us ≡ kinds ts → AgainRow us es h
  row_again (e_last {p = p} d l) us h =
      let q = again d us h in
      record { row = (q.part).tree ∷ []; high = (q.part).height; derived = e_last q.derived (fits_again is_expr _ _ q.level l); height = q.height; same = ap (λ z. z ∷ []) q.tree }
  row_again (e_more {ts = ts} {us = vs} {p = p} {es = es} {h = high} c d l i r) us h =
      let w = two ts (c ∷ vs) us h in
      let a = one w.rest c.kind (kinds vs) w.others in
      let q = again d w.front w.first in
      let k = row_again r a.rest a.others in
      subst (λ z. AgainRow z (p.tree ∷ es) (max p.height high)) (sym (w.is ∙ ap (λ z. w.front ++ z) a.is))
      (record { row = (q.part).tree ∷ k.row; high = max (q.part).height k.high; derived = e_more a.token q.derived (fits_again is_expr _ _ q.level l) (a.kind ∙ i) k.derived; height = omega (arith, q.height, k.height); same = rw (q.tree, k.same) refl })
