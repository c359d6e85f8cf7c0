-- The laws of the formulas at the front of tokens.
use Rattle.std.proofs.Common.{◌≡◌, ◌∙◌, ◌≤◌, ◌<◌, ◌+◌, ◌-◌, ℕ, true, false, cond, List, ◌∷◌, ◌++◌, length, take, drop, refl, sym, ap, subst, arith, length-append, length-drop}
use Rattle.std.specs.Prelude.{Ok, Err}
use Rattle.eb_signs.specs.declared.sign.Sign.TheVariants as sign
use Rattle.eb_lexer.specs.declared.token.Token.{Token}
use Rattle.eb_lexer.specs.declared.token.TokenKind.TheVariants as kind
use Rattle.eb_syntax.specs.declared.ast.Ast.{Ast}
use Rattle.eb_parser.specs.declared.part.Part.{Part}
use Rattle.eb_parser.specs.declared.fault.Fault.TheVariants.{Syntax, TooDeep}
use Rattle.eb_parser.specs.declared.formulas.FormulaKind.{FormulaKind}
use Rattle.eb_parser.specs.Signs.{IsSign}
use Rattle.eb_parser.specs.Grammar.{Derives}
use Rattle.eb_parser.specs.Formulas.{fits, least_of, Continues}
use Rattle.eb_parser.specs.steps.Climbing.{◌>>=◌, read, primary_by}
use Rattle.eb_parser.specs.Fronts.{Front}
use Rattle.eb_parser.specs.steps.Finding.{of_kind, formula_at, FrontLaws}
use Rattle.eb_parser.proofs.Steps.{ok_inj, bind_ok, guard_ok}
use Rattle.eb_parser.proofs.Soundness.{read_sound}
use Rattle.eb_parser.proofs.Completeness.{formula_read}
use Rattle.eb_parser.proofs.Longest.{longest, refused, too_high}
use Rattle.eb_parser.proofs.Deepness.{height_below}
use Rattle.eb_parser.proofs.FormulaLaws.{high, stopped, at, end_is}
use Rattle.std.proofs.Math.Seq.{drop-append-add, drop-append_seam}
use Rattle.std.proofs.lemmas.List.{take-append-drop, length-take-le}
use Rattle.eb_parser.specs.declared.fault.Fault.{Fault}

sound : (n : ℕ) (k : FormulaKind) (ts rest : List Token) (a : Ast) → formula_at n k ts ≡ Ok (a, rest) → (h : ℕ) × (h < n) × Front k ts a h rest
unfolding formula_at
sound n k ts rest a e =
    let r = bind_ok (read n (least_of k) ts) (of_kind k) (a, rest) e in
    let v = read_sound n (least_of k) ts r.0 r.1 in
    let g = guard_ok (fits k ((r.0).0).level) (Ok (((r.0).0).tree, (r.0).1)) Syntax (a, rest) r.2 in
    let same = ok_inj (((r.0).0).tree, (r.0).1) (a, rest) g.1 in
    (((r.0).0).height, v.low, subst (λ z. Front k ts z.0 ((r.0).0).height z.1) same (record { tokens = v.front; whole = v.whole; part = (r.0).0; derived = v.derived; fits = g.0; tree = refl; height = refl }))

reads : (n : ℕ) (k : FormulaKind) (ts rest : List Token) (a : Ast) (h : ℕ) (f : Front k ts a h rest) → (Continues rest → ⊥) → h < n → read n (least_of k) ts ≡ Ok (f.part, rest)
reads n k ts rest a h f c l =
    ap (read n (least_of k)) f.whole ∙ formula_read n (least_of k) f.tokens rest f.part f.derived (high k (f.part).level f.fits) (omega (arith, l, f.height)) (stopped rest c)

found : (n : ℕ) (k : FormulaKind) (ts rest : List Token) (a : Ast) (h : ℕ) → Front k ts a h rest → (Continues rest → ⊥) → h < n → formula_at n k ts ≡ Ok (a, rest)
unfolding formula_at
found n k ts rest a h f c l =
    ap (λ z. z >>= of_kind k) (reads n k ts rest a h f c l) ∙ (ap (λ z. cond z (Ok ((f.part).tree, rest)) (Err Syntax)) f.fits ∙ ap (λ z. Ok (z, rest)) f.tree)

deep : (n : ℕ) (k : FormulaKind) (ts rest : List Token) (a : Ast) (h : ℕ) → Front k ts a h rest → (Continues rest → ⊥) → n ≤ h → formula_at n k ts ≡ Err TooDeep
unfolding formula_at
deep n k ts rest a h f c l = ap (λ z. z >>= of_kind k) (ap (read n (least_of k)) f.whole ∙ sunk)
  where
    all : read (h + 1) (least_of k) (f.tokens ++ rest) ≡ Ok (f.part, rest)
    all = ap (read (h + 1) (least_of k)) (sym f.whole) ∙ reads (h + 1) k ts rest a h f c (omega arith)

    no_longer : (vs more : List Token) (q : Part) → Derives vs q → least_of k ≤ q.level → ((f.part).level ≤ 3 → q.level ≤ 3) → vs ++ more ≡ f.tokens ++ rest → length rest ≤ length more
    no_longer vs more q d m j w = longest (h + 1) (least_of k) vs more rest q f.part d m (ap (read (h + 1) (least_of k)) w ∙ all)

    sunk : read n (least_of k) (f.tokens ++ rest) ≡ Err TooDeep
    sunk = too_high n (least_of k) f.tokens rest f.part f.derived (high k (f.part).level f.fits) (omega (arith, l, f.height)) no_longer

shorter : (k : FormulaKind) (ts rest : List Token) (a : Ast) (h : ℕ) → Front k ts a h rest → length rest < length ts
shorter k ts rest a h f = omega (arith, height_below f.derived, ap length f.whole, length-append f.tokens rest)

-- a token that nothing begins with
starved : (k : ℕ) (t : Token) (ts : List Token) → primary_by (read 0) k t ts t.kind ≡ Err Syntax → read 1 k (t ∷ ts) ≡ Err Syntax
unfolding read
starved k t ts e = rw e refl

bare : (k : FormulaKind) (t : Token) (ts rest : List Token) (a : Ast) (h : ℕ) → Front k (t ∷ ts) a h rest → primary_by (read 0) (least_of k) t ts t.kind ≡ Err Syntax → ⊥
bare k t ts rest a h f e = refused 1 (least_of k) f.tokens rest f.part f.derived (high k (f.part).level f.fits) (ap (read 1 (least_of k)) (sym f.whole) ∙ starved (least_of k) t ts e)

no_label : (k : FormulaKind) (t : Token) (ts rest : List Token) (a : Ast) (h : ℕ) (x : List ℕ) → Front k (t ∷ ts) a h rest → t.kind ≡ kind.Label x → ⊥
no_label k t ts rest a h x f e = bare k t ts rest a h f (ap (primary_by (read 0) (least_of k) t ts) e)

no_colon : (k : FormulaKind) (t : Token) (ts rest : List Token) (a : Ast) (h : ℕ) → Front k (t ∷ ts) a h rest → IsSign t sign.MemberOf → ⊥
no_colon k t ts rest a h f e = bare k t ts rest a h f (ap (primary_by (read 0) (least_of k) t ts) e)

pub front_laws : FrontLaws
front_laws = record { sound = sound; found = found; deep = deep; shorter = shorter; no_label = no_label; no_colon = no_colon }

-- ---- the reader at a place

pub fails_front : (k : FormulaKind) (tokens : List Token) (from : ℕ) (f : Fault) → at k tokens from ≡ Err f → formula_at 201 k (drop from tokens) ≡ Err f
unfolding formula_at
fails_front k tokens from f e = ap (λ z. z >>= of_kind k) e

pub wrong_front : (k : FormulaKind) (tokens rest : List Token) (from : ℕ) (q : Part) → at k tokens from ≡ Ok (q, rest) → fits k q.level ≡ false → formula_at 201 k (drop from tokens) ≡ Err Syntax
unfolding formula_at
wrong_front k tokens rest from q e n = ap (λ z. z >>= of_kind k) e ∙ ap (λ z. cond z (Ok (q.tree, rest)) (Err Syntax)) n

-- what lies behind what was taken at a place
behind : (tokens vs rest : List Token) (from : ℕ) → 1 ≤ length vs → drop from tokens ≡ vs ++ rest → drop (from + length vs) tokens ≡ rest
behind tokens vs rest from h w =
    let some : from ≤ length tokens = omega (arith, length-drop from tokens, ap length w, length-append vs rest) in
    let n : from ≡ length (take from tokens) = omega (arith, length-take-le from tokens some) in
    ap (λ z. drop (z + length vs) tokens) n
    ∙ (ap (drop (length (take from tokens) + length vs)) (sym (take-append-drop from tokens))
    ∙ (drop-append-add (take from tokens) (drop from tokens) (length vs) ∙ (ap (drop (length vs)) w ∙ drop-append_seam vs rest)))

pub found_front : (k : FormulaKind) (tokens rest : List Token) (from : ℕ) (q : Part) → at k tokens from ≡ Ok (q, rest) → fits k q.level ≡ true
    → formula_at 201 k (drop from tokens) ≡ Ok (q.tree, drop (length tokens - length rest) tokens)
unfolding formula_at
found_front k tokens rest from q e n =
    let v = read_sound 201 (least_of k) (drop from tokens) (q, rest) e in
    let some : 1 ≤ length v.front = omega (arith, height_below v.derived) in
    let b : drop (length tokens - length rest) tokens ≡ rest = ap (λ z. drop z tokens) (end_is tokens v.front rest from some v.whole) ∙ behind tokens v.front rest from some v.whole in
    ap (λ z. z >>= of_kind k) e ∙ (ap (λ z. cond z (Ok (q.tree, rest)) (Err Syntax)) n ∙ ap (λ z. Ok (q.tree, z)) (sym b))
