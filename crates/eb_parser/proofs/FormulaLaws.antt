-- The laws of the formulas at a place.
use Rattle.std.proofs.Common.{◌≡◌, ◌∙◌, ◌⊎◌, inl, inr, ◌≤◌, ◌<◌, ◌+◌, ◌-◌, ℕ, true, false, List, [], ◌∷◌, ◌++◌, length, take, drop, refl, sym, ap, subst, arith, IsTrue, length-append, length-drop}
use Rattle.std.specs.Prelude.{Option, None, Some, Ok, Err}
use Rattle.std.proofs.Math.Seq.{take-append_seam, drop-append-add}
use Rattle.std.proofs.lemmas.List.{take-append-drop, length-take-le}
use Rattle.std.proofs.lemmas.Bool.Decides.{nat_tests}
use Rattle.eb_lexer.specs.declared.token.Token.{Token}
use Rattle.eb_syntax.specs.declared.ast.Ast.{Ast}
use Rattle.eb_parser.specs.declared.part.Part.{Part}
use Rattle.eb_parser.specs.declared.fault.Fault.TheVariants.{Syntax, TooDeep}
use Rattle.eb_parser.specs.declared.table.Follow.{Follow}
use Rattle.eb_parser.specs.declared.table.Follow.TheVariants as follow
use Rattle.eb_parser.specs.declared.formulas.FormulaKind.{FormulaKind}
use Rattle.eb_parser.specs.declared.formulas.FormulaKind.TheVariants as formula
use Rattle.eb_parser.specs.Formulas.{fits, least_of, Stands, IsLongest, stretch, Continues}
use Rattle.eb_parser.specs.Grammar.{Derives}
use Rattle.eb_parser.specs.steps.Tables.{head_follow}
use Rattle.eb_parser.specs.steps.Climbing.{read, Reading, reading}
use Rattle.eb_parser.proofs.SignLaws.{kind_follow}
use Rattle.eb_parser.proofs.Steps.{ok_inj}
use Rattle.eb_parser.proofs.Soundness.{read_sound}
use Rattle.eb_parser.proofs.Completeness.{formula_read}
use Rattle.eb_parser.proofs.Longest.{unique, longest, refused, too_high, kept}
use Rattle.eb_parser.proofs.Deepness.{height_below, read_long}

pub high : (k : FormulaKind) (l : ℕ) → IsTrue (fits k l) → least_of k ≤ l
high formula.Pred l h = omega arith
high formula.Expr l h = grind (arith, nat_tests)

-- what is read at a place
abbrev pub at : FormulaKind → List Token → ℕ → Reading
at k tokens from = read 201 (least_of k) (drop from tokens)

-- the tokens from a place on are those of the formula, and those behind it
parted : (tokens : List Token) (from end : ℕ) → from ≤ end → end ≤ length tokens → take (end - from) (drop from tokens) ++ drop end tokens ≡ drop from tokens
parted tokens from end h i =
    let n : from ≡ length (take from tokens) = omega (arith, length-take-le from tokens (omega arith)) in
    let m : end ≡ length (take from tokens) + (end - from) = omega (arith, n) in
    let e : drop end tokens ≡ drop (end - from) (drop from tokens) =
    ap (λ z. drop z tokens) m ∙ (ap (drop (length (take from tokens) + (end - from))) (sym (take-append-drop from tokens)) ∙ drop-append-add (take from tokens) (drop from tokens) (end - from)) in
    ap (λ z. take (end - from) (drop from tokens) ++ z) e ∙ take-append-drop (end - from) (drop from tokens)

whole : (k : FormulaKind) (tokens : List Token) (from end : ℕ) (a : Ast) (h : ℕ) → Stands k tokens from end a h → take (end - from) (drop from tokens) ++ drop end tokens ≡ drop from tokens
whole k tokens from end a h s = parted tokens from end (omega (arith, s.ordered)) s.within

-- where Syntax is answered none stands
pub no_formula : (k : FormulaKind) (tokens : List Token) (from end : ℕ) (a : Ast) (h : ℕ) → at k tokens from ≡ Err Syntax → Stands k tokens from end a h → ⊥
no_formula k tokens from end a h e s =
    refused 201 (least_of k) (take (end - from) (drop from tokens)) (drop end tokens) s.part s.derived (high k (s.part).level s.fits) (ap (read 201 (least_of k)) (whole k tokens from end a h s) ∙ e)

pub wrong_kind : (k : FormulaKind) (tokens rest : List Token) (from : ℕ) (q : Part) → at k tokens from ≡ Ok (q, rest) → fits k q.level ≡ false → (end : ℕ) (a : Ast) (h : ℕ) → Stands k tokens from end a h → ⊥
wrong_kind formula.Pred tokens rest from q e n end a h s =
    let l : (s.part).level ≤ 3 = grind (arith, nat_tests, s.fits) in
    let m = kept 201 0 (take (end - from) (drop from tokens)) (drop end tokens) rest s.part q s.derived (omega arith) l (ap (read 201 0) (whole formula.Pred tokens from end a h s) ∙ e) in
    grind (arith, nat_tests)
wrong_kind formula.Expr tokens rest from q e n end a h s = let v = (read_sound 201 4 (drop from tokens) (q, rest) e).high in grind (arith, nat_tests)

-- what is read stands there
pub found_stands : (k : FormulaKind) (tokens vs rest : List Token) (from : ℕ) (q : Part) → Derives vs q → IsTrue (fits k q.level) → drop from tokens ≡ vs ++ rest → Stands k tokens from (from + length vs) q.tree q.height
found_stands k tokens vs rest from q d f w =
    let l = length-drop from tokens in
    let n : length (drop from tokens) ≡ length vs + length rest = ap length w ∙ length-append vs rest in
    let some : 1 ≤ length vs = omega (arith, height_below d) in
    let m : from + length vs - from ≡ length vs = omega arith in
    let s : vs ≡ take (from + length vs - from) (drop from tokens) = sym (ap (λ z. take z (drop from tokens)) m ∙ (ap (take (length vs)) w ∙ take-append_seam vs rest)) in
    record { ordered = omega (arith, some); within = omega (arith, l, n, some); part = q; derived = subst (λ z. Derives z q) s d; fits = f; tree = refl; height = refl }

-- it ends where the tokens behind it begin
pub end_is : (tokens vs rest : List Token) (from : ℕ) → 1 ≤ length vs → drop from tokens ≡ vs ++ rest → length tokens - length rest ≡ from + length vs
end_is tokens vs rest from h w = omega (arith, length-drop from tokens, ap length w, length-append vs rest)

pub found_means : (k : FormulaKind) (tokens rest : List Token) (from : ℕ) (q : Part) → at k tokens from ≡ Ok (q, rest) → fits k q.level ≡ true
    → (h : ℕ) × (h ≤ 200) × IsLongest k tokens from (length tokens - length rest) q.tree h
found_means k tokens rest from q e n =
    let v = read_sound 201 (least_of k) (drop from tokens) (q, rest) e in
    let i = end_is tokens v.front rest from (omega (arith, height_below v.derived)) v.whole in
    let s = found_stands k tokens v.front rest from q v.derived n v.whole in
    (q.height, omega (arith, v.low), subst (λ z. IsLongest k tokens from z q.tree q.height) (sym i) (record { stands = s; longest = λ other b g o. no_longer other b g o (v.front) v.whole (omega (arith, height_below v.derived)) }))
  where
    no_longer : (other : ℕ) (b : Ast) (g : ℕ) → Stands k tokens from other b g → (vs : List Token) → drop from tokens ≡ vs ++ rest → 1 ≤ length vs → other ≤ from + length vs
    no_longer other b g o vs w h =
        let l = longest 201 (least_of k) (take (other - from) (drop from tokens)) (drop other tokens) rest o.part q o.derived (high k (o.part).level o.fits) (ap (read 201 (least_of k)) (whole k tokens from other b g o) ∙ e) in
        omega (arith, l, length-drop other tokens, length-drop from tokens, ap length w, length-append vs rest, o.within)

kind_fits : (k : FormulaKind) (a c : ℕ) → IsTrue (fits k a) → least_of k ≤ c → (a ≤ 3 → c ≤ 3) → IsTrue (fits k c)
kind_fits formula.Pred a c f l i = let x : a ≤ 3 = grind (arith, nat_tests) in let y = i x in grind (arith, nat_tests)
kind_fits formula.Expr a c f l i = grind (arith, nat_tests)

-- the longest one is too high
pub high_means : (k : FormulaKind) (tokens : List Token) (from end : ℕ) (a : Ast) (h : ℕ) → IsLongest k tokens from end a h → 200 < h → at k tokens from ≡ Err TooDeep
high_means k tokens from end a h l i =
    sym (ap (read 201 (least_of k)) (whole k tokens from end a h l.stands))
    ∙ too_high 201 (least_of k) (take (end - from) (drop from tokens)) (drop end tokens) (l.stands).part (l.stands).derived (high k ((l.stands).part).level (l.stands).fits) (omega (arith, (l.stands).height)) no_longer
  where
    no_longer : (vs rest : List Token) (q : Part) → Derives vs q → least_of k ≤ q.level → (((l.stands).part).level ≤ 3 → q.level ≤ 3) → vs ++ rest ≡ take (end - from) (drop from tokens) ++ drop end tokens → length (drop end tokens) ≤ length rest
    no_longer vs rest q d m j w =
        let e : drop from tokens ≡ vs ++ rest = sym (w ∙ whole k tokens from end a h l.stands) in
        let s = found_stands k tokens vs rest from q d (kind_fits k ((l.stands).part).level q.level (l.stands).fits m j) e in
        let n = l.longest (from + length vs) q.tree q.height s in
        omega (arith, n, length-drop end tokens, length-drop from tokens, ap length e, length-append vs rest, (l.stands).ordered, (l.stands).within)

-- the longest one, which nothing goes on with, is read
pub complete_means : (k : FormulaKind) (tokens : List Token) (from end : ℕ) (a : Ast) (h : ℕ) → Stands k tokens from end a h → h ≤ 200 → head_follow (drop end tokens) ≡ None
    → (p : Part) × (at k tokens from ≡ Ok (p, drop end tokens)) × (p.tree ≡ a)
complete_means k tokens from end a h s i o =
    (s.part, sym (ap (read 201 (least_of k)) (whole k tokens from end a h s)) ∙ formula_read 201 (least_of k) (take (end - from) (drop from tokens)) (drop end tokens) s.part s.derived (high k (s.part).level s.fits) (omega (arith, s.height)) o, s.tree)

by_follow : (t : Token) (ts : List Token) (f : Follow) → head_follow (t ∷ ts) ≡ Some f → Continues (t ∷ ts)
by_follow t ts (follow.Operator op) e = inl (op, kind_follow t.kind (follow.Operator op) e)
by_follow t ts follow.Inverse e = inr (kind_follow t.kind follow.Inverse e)

head_continues : (ts : List Token) (f : Follow) → head_follow ts ≡ Some f → Continues ts
head_continues [] f e = absurd cc
head_continues (t ∷ ts) f e = by_follow t ts f e

continues_or : (ts : List Token) → (head_follow ts ≡ None) ⊎ Continues ts
continues_or ts = by_head (head_follow ts) refl
  where
    by_head : (o : Option Follow) → head_follow ts ≡ o → (head_follow ts ≡ None) ⊎ Continues ts
    by_head None e = inl e
    by_head (Some f) e = inr (head_continues ts f e)

pub stopped : (ts : List Token) → (Continues ts → ⊥) → head_follow ts ≡ None
stopped ts n = by_either (continues_or ts)
  where
    by_either : (head_follow ts ≡ None) ⊎ Continues ts → head_follow ts ≡ None
    by_either (inl e) = e
    by_either (inr c) = absurd (n c)

pub ok_deep : (p : Part) (ts : List Token) → reading p ts ≡ Err TooDeep → ⊥
ok_deep p ts x = cc

-- where TooDeep is answered the stretch is long, and something goes on with the longest formula
pub deep_means : (k : FormulaKind) (tokens : List Token) (from : ℕ) → at k tokens from ≡ Err TooDeep
    → (200 < length (stretch (drop from tokens))) × ((end : ℕ) (a : Ast) (h : ℕ) → IsLongest k tokens from end a h → h ≤ 200 → Continues (drop end tokens))
deep_means k tokens from e = (read_long 201 (least_of k) (drop from tokens) e, λ end a h l i. by_either end a h l i (continues_or (drop end tokens)))
  where
    by_either : (end : ℕ) (a : Ast) (h : ℕ) → IsLongest k tokens from end a h → h ≤ 200 → (head_follow (drop end tokens) ≡ None) ⊎ Continues (drop end tokens) → Continues (drop end tokens)
    by_either end a h l i (inr c) = c
    by_either end a h l i (inl o) = let w = complete_means k tokens from end a h l.stands i o in absurd (ok_deep (w.0) (drop end tokens) (sym w.1 ∙ e))

-- the answer is that formula
pub same_answer : (k : FormulaKind) (tokens rest : List Token) (from end : ℕ) (q : Part) (a : Ast) (h : ℕ) → at k tokens from ≡ Ok (q, rest) → Stands k tokens from end a h → h ≤ 200 → (Continues (drop end tokens) → ⊥)
    → (q.tree ≡ a) × (length tokens - length rest ≡ end)
same_answer k tokens rest from end q a h e s i n =
    let w = complete_means k tokens from end a h s i (stopped (drop end tokens) n) in
    let y = ok_inj (q, rest) (w.0, drop end tokens) (sym e ∙ w.1) in
    (ap (λ z. (z.0).tree) y ∙ w.2, omega (arith, ap (λ z. length z.1) y, length-drop end tokens, s.within))

-- tokens have one reading at most
pub one_reading : (k : FormulaKind) (tokens : List Token) (from end : ℕ) (a c : Ast) (h g : ℕ) → Stands k tokens from end a h → Stands k tokens from end c g → (a ≡ c) × (h ≡ g)
one_reading k tokens from end a c h g s o =
    let e = unique (take (end - from) (drop from tokens)) s.part o.part s.derived o.derived in
    (sym s.tree ∙ (ap (λ z. z.tree) e ∙ o.tree), sym s.height ∙ (ap (λ z. z.height) e ∙ o.height))

pub same_read : (k l : ℕ) (ts us : List Token) (r : Reading) → k ≡ l → ts ≡ us → read 201 k ts ≡ r → read 201 l us ≡ r
same_read k l ts us r e i h = sym (ap (λ z. read 201 z us) e) ∙ (sym (ap (read 201 k) i) ∙ h)
