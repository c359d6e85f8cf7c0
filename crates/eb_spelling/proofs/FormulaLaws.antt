-- The laws of spelled formulas.
use Rattle.std.proofs.Common.{◌≡◌, ◌∙◌, ◌≤◌, ◌<◌, ◌-◌, ℕ, suc, List, [], ◌∷◌, length, take, drop, refl, sym, ap, subst, arith, IsTrue, length-drop}
use Rattle.std.specs.Prelude.{Some, Ok, Err, Result, IfOk}
use Rattle.std.proofs.Math.Seq.{take-length}
use Rattle.std.proofs.lemmas.List.{length-take-le}
use Rattle.eb_signs.specs.declared.sign.Sign.{Sign}
use Rattle.eb_lexer.specs.declared.token.Token.{Token}
use Rattle.eb_signs.specs.Signs.{sign_of, sign_text}
use Rattle.eb_lexer.specs.Tokens.{IsTokens}
use Rattle.eb_syntax.specs.declared.ast.Ast.{Ast}
use Rattle.eb_parser.specs.declared.formulas.FormulaKind.{FormulaKind}
use Rattle.eb_parser.specs.Formulas.{fits, Stands}
use Rattle.eb_parser.specs.Grammar.{Derives}
use Rattle.eb_spelling.specs.Spelling.{HaveKinds, kinds_of, text_of, unplaced, ReadsAs}
use Rattle.eb_spelling.proofs.SpellingLaws.{kinds, spelled, again}
use Rattle.eb_spelling.proofs.Respelling.{known, known_drop, known_take, reread}

same_length : (us ts : List Token) → kinds us ≡ kinds ts → length us ≡ length ts
same_length [] [] e = refl
same_length [] (t ∷ ts) e = absurd cc
same_length (u ∷ us) [] e = absurd cc
same_length (u ∷ us) (t ∷ ts) e = let more : kinds us ≡ kinds ts = cc in ap suc (same_length us ts more)

-- a formula has a token
some_tokens : (tokens us : List Token) (from end : ℕ) → from < end → end ≤ length tokens → kinds us ≡ kinds (take (end - from) (drop from tokens)) → 0 < length us
some_tokens tokens us from end o w e =
    let n = length-take-le (end - from) (drop from tokens) (omega (arith, length-drop from tokens)) in
    omega (arith, n, same_length us (take (end - from) (drop from tokens)) e)

-- the tokens of a formula are those that it is written with
pub own_kinds : (k : FormulaKind) (tokens : List Token) (from end : ℕ) (a : Ast) (h : ℕ) → Stands k tokens from end a h → HaveKinds (take (end - from) (drop from tokens)) (kinds_of a)
own_kinds k tokens from end a h s = spelled s.derived ∙ ap kinds_of s.tree

-- tokens of these kinds read as the formula but for its places
pub read_back : (k : FormulaKind) (tokens : List Token) (from end : ℕ) (a : Ast) (h : ℕ) → Stands k tokens from end a h → (us : List Token) → HaveKinds us (kinds_of a)
    → (b : Ast) × Stands k us 0 (length us) b h × (unplaced b ≡ unplaced a)
read_back k tokens from end a h s us e =
    let own = own_kinds k tokens from end a h s in
    let r = again s.derived us (e ∙ sym own) in
    let f : IsTrue (fits k (r.part).level) = ap (fits k) r.level ∙ s.fits in
    let n : length us - 0 ≡ length us = omega arith in
    let d : Derives (take (length us - 0) us) r.part = subst (λ z. Derives z r.part) (sym (ap (λ z. take z us) n ∙ take-length us)) r.derived in
    ((r.part).tree, record { ordered = some_tokens tokens us from end s.ordered s.within (e ∙ sym own); within = omega arith; part = r.part; derived = d; fits = f; tree = refl; height = r.height ∙ s.height }, r.tree ∙ ap unplaced s.tree)

-- what a formula of a text is spelled with reads as that formula but for its places
pub spelled_back : ((r : Sign) → sign_of (sign_text r) ≡ Some r) → (k : FormulaKind) (tokens : List Token) (text : List ℕ) (from end : ℕ) (a : Ast) (h : ℕ) → IsTokens tokens text → Stands k tokens from end a h → ReadsAs k (text_of (kinds_of a)) a h
spelled_back law k tokens text from end a h i s =
    let own = own_kinds k tokens from end a h s in
    let r = reread (take (end - from) (drop from tokens)) (known_take (end - from) (drop from tokens) (known_drop from tokens (known law tokens text i))) in
    let w = read_back k tokens from end a h s r.tokens (r.alike ∙ own) in
    record { tokens = r.tokens; are = subst (λ z. IsTokens r.tokens (text_of z)) own r.are; tree = w.0; stands = w.1; same = w.2 }

pub answer_reads : {E : Type 0} → ((r : Sign) → sign_of (sign_text r) ≡ Some r) → (r : Result (List ℕ) E) (a : Ast) → IfOk r (λ t. t ≡ text_of (kinds_of a))
    → (k : FormulaKind) (tokens : List Token) (text : List ℕ) (from end : ℕ) (h : ℕ) → IsTokens tokens text → Stands k tokens from end a h → IfOk r (λ t. ReadsAs k t a h)
answer_reads law (Ok t) a e k tokens text from end h i s = subst (λ z. ReadsAs k z a h) (sym e) (spelled_back law k tokens text from end a h i s)
answer_reads law (Err x) a e k tokens text from end h i s = tt
