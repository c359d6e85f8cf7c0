-- The laws of whole texts.
use Rattle.std.proofs.Common.{◌≡◌, ◌∙◌, ◌<◌, ◌≤◌, ◌⊎◌, inl, inr, ℕ, suc, false, List, [], ◌∷◌, refl, sym, ap, subst, arith}
use Rattle.std.specs.Prelude.{Ok, Err}
use Rattle.std.proofs.lemmas.Bool.{cases_lt}
use Rattle.eb_lexer.specs.declared.token.Token.{Token}
use Rattle.eb_syntax.specs.declared.units.EbUnit.{EbUnit}
use Rattle.eb_parser.specs.declared.fault.Fault.{Fault}
use Rattle.eb_parser.specs.declared.fault.Fault.TheVariants.{Syntax, TooDeep}
use Rattle.eb_parser.specs.declared.fault.ParseFault.{ParseFault}
use Rattle.eb_parser.specs.declared.fault.ParseFault.TheVariants as fault
use Rattle.eb_parser.specs.steps.Finding.{FrontLaws, Finds}
use Rattle.eb_units.specs.Grammar.{Reads, Each, IsUnit}
use Rattle.eb_units.specs.Faults.{IsFaultOf}
use Rattle.eb_units.specs.steps.Descending.{Read, IsPlaced, room, text_at, unit_at, is_token}
use Rattle.eb_units.proofs.Soundness.{Limit, text_sound, many_ends}
use Rattle.eb_units.proofs.Completeness.{Outcome, reads, sinks}
use Rattle.eb_units.proofs.UnitsRead.{text_read}

abbrev limit : FrontLaws → (n : ℕ) → 0 < n → Limit
limit l n p = record { n = n; some = p; laws = l }

no_token : (ts : List Token) → is_token ts ≡ false → ts ≡ []
no_token [] e = refl
no_token (t ∷ ts) e = absurd cc

-- a text that was read is so
pub text_reads : FrontLaws → (m : ℕ) (ts rest : List Token) (us : List EbUnit) → text_at 201 m ts ≡ Ok (us, rest) → (h : ℕ) × Reads ts us h × (h ≤ 200)
text_reads l m ts rest us e =
    let v = text_sound (limit l 201 (omega arith)) m ts (us, rest) e in
    let none = no_token rest (many_ends is_token (unit_at 201 m) m ts (us, rest) e) in
    (v.height, subst (λ z. Each IsUnit ts us v.height z) none v.is, omega (arith, v.low))

abbrev Answer : Type 0
Answer = List EbUnit × List Token

abbrev ok : Answer → Read (List EbUnit)
ok x = Ok x

failed : (h : ℕ) (r : Read (List EbUnit)) (y : Answer) (f : Fault) → Outcome 201 h r y → r ≡ Err f → (f ≡ TooDeep) × (200 < h)
failed h r y f (reads l e) i = absurd (no_both y f (sym e ∙ i))
  where
    no_both : (y : Answer) (f : Fault) → ok y ≡ Err f → ⊥
    no_both y f e = cc
failed h r y f (sinks l e) i = (same f (sym e ∙ i), omega (arith, l))
  where
    refuses : Fault → Read (List EbUnit)
    refuses f = Err f

    same : (f : Fault) → refuses TooDeep ≡ refuses f → f ≡ TooDeep
    same f e = cc

-- the cause of a fault
pub text_fault : FrontLaws → (ts : List Token) (f : ParseFault) → Finds ts (Err f) (text_at 201 (room ts) ts) → IsPlaced ts f → IsFaultOf ts f
text_fault l ts (fault.Syntax at) e p = (λ us h r. never us h (failed h _ (us, []) Syntax (text_read (limit l 201 (omega arith)) (room ts) ts us h r (omega arith)) e), p)
  where
    never : (us : List EbUnit) (h : ℕ) → (Syntax ≡ TooDeep) × (200 < h) → ⊥
    never us h w = let x = w.0 in cc
text_fault l ts fault.TooDeep e p = (λ us h r. (failed h _ (us, []) TooDeep (text_read (limit l 201 (omega arith)) (room ts) ts us h r (omega arith)) e).1, p)
text_fault l ts fault.Memory e p = tt

-- ---- one reading

ok_same : (x y : Answer) → ok x ≡ ok y → x ≡ y
ok_same x y e = cc

agree : (n h k : ℕ) (r : Read (List EbUnit)) (x y : Answer) → h < n → k < n → Outcome n h r x → Outcome n k r y → x ≡ y
agree n h k r x y a b (reads l e) (reads m f) = ok_same x y (sym e ∙ f)
agree n h k r x y a b (reads l e) (sinks m f) = absurd (omega arith)
agree n h k r x y a b (sinks l e) o = absurd (omega arith)

apart : (n h k : ℕ) (r : Read (List EbUnit)) (x y : Answer) → h < n → n ≤ k → Outcome n h r x → Outcome n k r y → ⊥
apart n h k r x y a b (reads l e) (reads m f) = omega arith
apart n h k r x y a b (reads l e) (sinks m f) = no_both x (sym e ∙ f)
  where
    no_both : (y : Answer) → ok y ≡ Err TooDeep → ⊥
    no_both y e = cc
apart n h k r x y a b (sinks l e) o = omega arith

not_lower : FrontLaws → (ts : List Token) (us vs : List EbUnit) (h k : ℕ) → Reads ts us h → Reads ts vs k → h < k → ⊥
not_lower l ts us vs h k r q less =
    let b = limit l (suc h) (omega arith) in
    apart (suc h) h k (text_at (suc h) (room ts) ts) (us, []) (vs, []) (omega arith) (omega arith) (text_read b (room ts) ts us h r (omega arith)) (text_read b (room ts) ts vs k q (omega arith))

same_height : FrontLaws → (ts : List Token) (us vs : List EbUnit) (h k : ℕ) → Reads ts us h → Reads ts vs k → h ≡ k
same_height l ts us vs h k r q = by_case (cases_lt h k) (cases_lt k h)
  where
    by_case : (h < k) ⊎ (k ≤ h) → (k < h) ⊎ (h ≤ k) → h ≡ k
    by_case (inl x) y = absurd (not_lower l ts us vs h k r q x)
    by_case (inr x) (inl y) = absurd (not_lower l ts vs us k h q r y)
    by_case (inr x) (inr y) = omega arith

pub one_reading : FrontLaws → (ts : List Token) (us vs : List EbUnit) (h k : ℕ) → Reads ts us h → Reads ts vs k → (us ≡ vs) × (h ≡ k)
one_reading l ts us vs h k r q =
    let e = same_height l ts us vs h k r q in
    let b = limit l (suc h) (omega arith) in
    let w = agree (suc h) h k (text_at (suc h) (room ts) ts) (us, []) (vs, []) (omega arith) (omega (arith, e)) (text_read b (room ts) ts us h r (omega arith)) (text_read b (room ts) ts vs k q (omega arith)) in
    (ap (λ z. z.0) w, e)
