-- No formula reaches past a label or a word of contexts and machines.
use Rattle.std.proofs.Common.{◌≡◌, ◌∙◌, ◌≤◌, ◌+◌, ℕ, suc, Bool, true, false, List, [], ◌∷◌, ◌++◌, length, refl, sym, ap, subst, arith, append_assoc, length-append}
use Rattle.std.specs.Prelude.{Option, Some, None, not}
use Rattle.std.proofs.lemmas.List.Sums.{take_while-cons}
use Rattle.eb_signs.specs.declared.sign.Sign.{Sign}
use Rattle.eb_signs.specs.declared.sign.Sign.TheVariants as sign
use Rattle.eb_lexer.specs.declared.token.Token.{Token}
use Rattle.eb_lexer.specs.declared.token.TokenKind.TheVariants as kind
use Rattle.eb_syntax.specs.declared.ast.Ast.{Ast}
use Rattle.eb_syntax.specs.declared.ast.Mark.{Mark}
use Rattle.eb_syntax.specs.declared.ast.Identifier.{Identifier}
use Rattle.eb_syntax.specs.declared.ast.Binder.{Binder}
use Rattle.eb_syntax.specs.declared.ast.Bound.{Bound}
use Rattle.eb_syntax.specs.declared.ast.Operator.{Operator}
use Rattle.eb_syntax.specs.declared.ast.Operator.TheVariants as op
use Rattle.eb_parser.specs.declared.part.Part.{Part}
use Rattle.eb_parser.specs.declared.table.Start.{Start}
use Rattle.eb_parser.specs.declared.table.Start.TheVariants as start
use Rattle.eb_parser.specs.declared.table.Follow.{Follow}
use Rattle.eb_parser.specs.declared.table.Follow.TheVariants as follow
use Rattle.eb_parser.specs.Signs.{IsSign, constant_sign, prefix_sign, call_sign, quantifier_sign, binder_sign, closing_sign}
use Rattle.eb_parser.specs.Grammar.{Derives, Exprs, Names, Pattern, Atom, Binding, n_last, n_more, p_atom, p_maplet, a_identifier, a_parentheses, b_pattern, b_union, b_intersection, d_number, d_identifier, d_primed, d_constant, d_prefix, d_quantifier, d_call, d_partition, d_parentheses, d_binder, d_empty, d_extension, d_comprehension, d_builder, d_inverse, d_operator, e_last, e_more, Closes}
use Rattle.eb_parser.specs.steps.Tables.{start_of, follow_of}
use Rattle.eb_parser.specs.Formulas.{is_unit_word, is_inside, stretch}
use Rattle.eb_parser.proofs.SignLaws.{follow_sign, follows_sign, constant_starts, prefix_starts, quantifier_starts, binder_starts, call_starts}
use Rattle.eb_parser.proofs.Completeness.{Ends, closes, goes, ends}

unit_follow : (sg : Sign) → is_unit_word sg ≡ true → follow_of sg ≡ None
unit_follow sign.Context e = refl
unit_follow sign.Extends e = refl
unit_follow sign.Sets e = refl
unit_follow sign.Constants e = refl
unit_follow sign.Axioms e = refl
unit_follow sign.Theorem e = refl
unit_follow sign.End e = refl
unit_follow sign.Machine e = refl
unit_follow sign.Refines e = refl
unit_follow sign.Sees e = refl
unit_follow sign.Variables e = refl
unit_follow sign.Invariants e = refl
unit_follow sign.Variant e = refl
unit_follow sign.Events e = refl
unit_follow sign.Event e = refl
unit_follow sign.Any e = refl
unit_follow sign.Where e = refl
unit_follow sign.When e = refl
unit_follow sign.With e = refl
unit_follow sign.Begin e = refl
unit_follow sign.Then e = refl
unit_follow sign.Ordinary e = refl
unit_follow sign.Convergent e = refl
unit_follow sign.Anticipated e = refl
unit_follow _ e = absurd cc

unit_start : (sg : Sign) → is_unit_word sg ≡ true → start_of sg ≡ start.Other
unit_start sign.Context e = refl
unit_start sign.Extends e = refl
unit_start sign.Sets e = refl
unit_start sign.Constants e = refl
unit_start sign.Axioms e = refl
unit_start sign.Theorem e = refl
unit_start sign.End e = refl
unit_start sign.Machine e = refl
unit_start sign.Refines e = refl
unit_start sign.Sees e = refl
unit_start sign.Variables e = refl
unit_start sign.Invariants e = refl
unit_start sign.Variant e = refl
unit_start sign.Events e = refl
unit_start sign.Event e = refl
unit_start sign.Any e = refl
unit_start sign.Where e = refl
unit_start sign.When e = refl
unit_start sign.With e = refl
unit_start sign.Begin e = refl
unit_start sign.Then e = refl
unit_start sign.Ordinary e = refl
unit_start sign.Convergent e = refl
unit_start sign.Anticipated e = refl
unit_start _ e = absurd cc

-- how many tokens the stretch at the front has
abbrev pub span : List Token → ℕ
span ts = length (stretch ts)

abbrev pub IsInside : Token → Type 0
IsInside t = is_inside t.kind ≡ true

by_flag : {A : Type 0} (c : Bool) → (c ≡ true → A) → (c ≡ false → A) → A
by_flag true f g = f refl
by_flag false f g = g refl

abbrev some : Follow → Option Follow
some x = Some x

none_some : (x : Follow) → None ≡ some x → ⊥
none_some x e = cc

abbrev pub is_other : Start → Bool
is_other start.Other = true
is_other _ = false

pub sign_inside : (t : Token) (sg : Sign) → IsSign t sg → is_unit_word sg ≡ false → IsInside t
sign_inside t sg i h = ap is_inside i ∙ ap not h

pub follow_inside : (t : Token) (f : Follow) → IsSign t (follow_sign f) → IsInside t
follow_inside t f i = by_flag (is_unit_word (follow_sign f)) (λ e. absurd (none_some f (sym (unit_follow (follow_sign f) e) ∙ follows_sign f))) (λ e. sign_inside t (follow_sign f) i e)

pub start_inside : (t : Token) (sg : Sign) → IsSign t sg → is_other (start_of sg) ≡ false → IsInside t
start_inside t sg i h = by_flag (is_unit_word sg) (λ e. absurd (let z : true ≡ false = sym (ap is_other (unit_start sg e)) ∙ h in cc)) (λ e. sign_inside t sg i e)

-- these tokens are all within one stretch
abbrev pub Inside : List Token → Type 0
Inside ts = (rest : List Token) → span (ts ++ rest) ≡ length ts + span rest

inside_none : Inside []
inside_none rest = omega arith

pub span_next : (t : Token) (ts : List Token) → IsInside t → span (t ∷ ts) ≡ suc (span ts)
span_next t ts i = ap length (take_while-cons (λ z. is_inside z.kind) t ts) ∙ rw i (omega arith)

inside_next : (t : Token) (ts : List Token) → IsInside t → Inside ts → Inside (t ∷ ts)
inside_next t ts i h rest = omega (arith, span_next t (ts ++ rest) i, h rest)

inside_one : (t : Token) → IsInside t → Inside (t ∷ [])
inside_one t i = inside_next t [] i inside_none

inside_both : (ts us : List Token) → Inside ts → Inside us → Inside (ts ++ us)
inside_both ts us h i rest = omega (arith, ap span (append_assoc ts us rest), h (us ++ rest), i rest, length-append ts us)

word_inside : (t : Token) (x : List ℕ) → t.kind ≡ kind.Word x → IsInside t
word_inside t x e = ap is_inside e

names_inside : {ts : List Token} {xs : List Identifier} → Names ts xs → Inside ts
names_inside (n_last t x e) = inside_one t (word_inside t x e)
names_inside (n_more {ts = ts} t comma x e i n) = inside_next t (comma ∷ ts) (word_inside t x e) (inside_next comma ts (sign_inside comma sign.Comma i refl) (names_inside n))

mutual
  pattern_inside : {ts : List Token} {ms : List Mark} → Pattern ts ms → Inside ts
  pattern_inside (p_atom a) = atom_inside a
  pattern_inside (p_maplet {ts = ts} {us = us} t p i a) = inside_both ts (t ∷ us) (pattern_inside p) (inside_next t us (sign_inside t sign.MapsTo i refl) (atom_inside a))

  atom_inside : {ts : List Token} {ms : List Mark} → Atom ts ms → Inside ts
  atom_inside (a_identifier t x e) = inside_one t (word_inside t x e)
  atom_inside (a_parentheses {ts = ts} o c i p j) = inside_next o (ts ++ (c ∷ [])) (sign_inside o sign.LeftParenthesis i refl) (inside_both ts (c ∷ []) (pattern_inside p) (inside_one c (sign_inside c sign.RightParenthesis j refl)))

binding_inside : {op : Binder} {ts : List Token} {b : Bound} → Binding op ts b → Inside ts
binding_inside (b_pattern p) = pattern_inside p
binding_inside (b_union n) = names_inside n
binding_inside (b_intersection n) = names_inside n

pub named_inside : {ts : List Token} {xs : List Identifier} (dot : Token) → Names ts xs → IsSign dot sign.Dot → (rest : List Token) → span rest ≤ span (ts ++ (dot ∷ rest))
named_inside {ts = ts} dot n i rest = omega (arith, names_inside n (dot ∷ rest), span_next dot rest (sign_inside dot sign.Dot i refl))

pub bound_inside : {op : Binder} {ts : List Token} {b : Bound} (dot : Token) → Binding op ts b → IsSign dot sign.Dot → (rest : List Token) → span rest ≤ span (ts ++ (dot ∷ rest))
bound_inside {ts = ts} dot n i rest = omega (arith, binding_inside n (dot ∷ rest), span_next dot rest (sign_inside dot sign.Dot i refl))

closing_inside : (op : Operator) (sg : Sign) → closing_sign op ≡ Some sg → is_unit_word sg ≡ false
closing_inside op.Apply sg e = let h : sign.RightParenthesis ≡ sg = cc in ap is_unit_word (sym h)
closing_inside op.Image sg e = let h : sign.RightBracket ≡ sg = cc in ap is_unit_word (sym h)
closing_inside _ sg e = absurd cc

closes_inside : (op : Operator) (cs : List Token) → Closes (closing_sign op) cs → Inside cs
closes_inside op cs c = by_end (ends op)
  where
    by_end : Ends op → Inside cs
    by_end (closes sg h i j) =
        let x : Closes (Some sg) cs = subst (λ z. Closes z cs) h c in
        subst Inside (sym x.1) (inside_one x.0 (sign_inside x.0 sg x.2 (closing_inside op sg h)))
    by_end (goes h j) = let x : Closes None cs = subst (λ z. Closes z cs) h c in subst Inside (sym x) inside_none

mutual
  pub inside : {ts : List Token} {p : Part} → Derives ts p → Inside ts
  inside (d_number t n e) = inside_one t (ap is_inside e)
  inside (d_identifier t x e) = inside_one t (ap is_inside e)
  inside (d_primed t x e) = inside_one t (ap is_inside e)
  inside (d_constant t c e) = inside_one t (start_inside t (constant_sign c) e (ap is_other (constant_starts c)))
  inside (d_prefix {ts = ts} t op i d h) = inside_next t ts (start_inside t (prefix_sign op) i (ap is_other (prefix_starts op))) (inside d)
  inside (d_quantifier {is = is} {ts = ts} t dot q i n j d h) = inside_next t (is ++ (dot ∷ ts)) (start_inside t (quantifier_sign q) i (ap is_other (quantifier_starts q)))
      (inside_both is (dot ∷ ts) (names_inside n) (inside_next dot ts (sign_inside dot sign.Dot j refl) (inside d)))
  inside (d_call {ts = ts} t o c op i j d h l) = inside_next t (o ∷ (ts ++ (c ∷ []))) (start_inside t (call_sign op) i (ap is_other (call_starts op)))
      (inside_next o (ts ++ (c ∷ [])) (sign_inside o sign.LeftParenthesis j refl) (inside_both ts (c ∷ []) (inside d) (inside_one c (sign_inside c sign.RightParenthesis l refl))))
  inside (d_partition {ts = ts} t o c i j r l) = inside_next t (o ∷ (ts ++ (c ∷ []))) (sign_inside t sign.Partition i refl)
      (inside_next o (ts ++ (c ∷ [])) (sign_inside o sign.LeftParenthesis j refl) (inside_both ts (c ∷ []) (row_inside r) (inside_one c (sign_inside c sign.RightParenthesis l refl))))
  inside (d_parentheses {ts = ts} o c i d j) = inside_next o (ts ++ (c ∷ [])) (sign_inside o sign.LeftParenthesis i refl) (inside_both ts (c ∷ []) (inside d) (inside_one c (sign_inside c sign.RightParenthesis j refl)))
  inside (d_binder {is = is} {ts = ts} {us = us} t dot bar op i b j d h l e m) = inside_next t (is ++ (dot ∷ (ts ++ (bar ∷ us)))) (start_inside t (binder_sign op) i (ap is_other (binder_starts op)))
      (inside_both is (dot ∷ (ts ++ (bar ∷ us))) (binding_inside b) (inside_next dot (ts ++ (bar ∷ us)) (sign_inside dot sign.Dot j refl) (inside_both ts (bar ∷ us) (inside d) (inside_next bar us (sign_inside bar sign.Bar l refl) (inside e)))))
  inside (d_empty o c i j) = inside_next o (c ∷ []) (sign_inside o sign.LeftBrace i refl) (inside_one c (sign_inside c sign.RightBrace j refl))
  inside (d_extension {ts = ts} o c i r j) = inside_next o (ts ++ (c ∷ [])) (sign_inside o sign.LeftBrace i refl) (inside_both ts (c ∷ []) (row_inside r) (inside_one c (sign_inside c sign.RightBrace j refl)))
  inside (d_comprehension {is = is} {ts = ts} {us = us} o dot bar c i n j d h l e m q) = inside_next o (is ++ (dot ∷ (ts ++ (bar ∷ (us ++ (c ∷ [])))))) (sign_inside o sign.LeftBrace i refl)
      (inside_both is (dot ∷ (ts ++ (bar ∷ (us ++ (c ∷ []))))) (names_inside n) (inside_next dot (ts ++ (bar ∷ (us ++ (c ∷ [])))) (sign_inside dot sign.Dot j refl)
      (inside_both ts (bar ∷ (us ++ (c ∷ []))) (inside d) (inside_next bar (us ++ (c ∷ [])) (sign_inside bar sign.Bar l refl) (inside_both us (c ∷ []) (inside e) (inside_one c (sign_inside c sign.RightBrace q refl)))))))
  inside (d_builder {ts = ts} {us = us} o bar c i d h j e l m) = inside_next o (ts ++ (bar ∷ (us ++ (c ∷ [])))) (sign_inside o sign.LeftBrace i refl)
      (inside_both ts (bar ∷ (us ++ (c ∷ []))) (inside d) (inside_next bar (us ++ (c ∷ [])) (sign_inside bar sign.Bar j refl) (inside_both us (c ∷ []) (inside e) (inside_one c (sign_inside c sign.RightBrace m refl)))))
  inside (d_inverse {ts = ts} t d h l i) = inside_both ts (t ∷ []) (inside d) (inside_one t (follow_inside t follow.Inverse i))
  inside (d_operator {ts = ts} {us = us} t op cs d a c i e h l) = inside_both ts (t ∷ (us ++ cs)) (inside d) (inside_next t (us ++ cs) (follow_inside t (follow.Operator op) i) (inside_both us cs (inside e) (closes_inside op cs l)))

  pub row_inside : {ts : List Token} {es : List Ast} {h : ℕ} → Exprs ts es h → Inside ts
  row_inside (e_last d l) = inside d
  row_inside (e_more {ts = ts} {us = us} comma d l i r) = inside_both ts (comma ∷ us) (inside d) (inside_next comma us (sign_inside comma sign.Comma i refl) (row_inside r))
