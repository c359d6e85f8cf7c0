-- A text is its first line and the text after it.
use Rattle.std.proofs.Common.{◌≡◌, ℕ, suc, ◌+◌, ◌<◌, List, [], ◌∷◌, length, take, drop, not, ◌≤◌, Bool, true, false, cond, ◌==◌, Option, Some, None, ap, refl, ◌-◌, drop-drop, take_all, length-drop, ◌∙◌, arith}
use Rattle.std.specs.List.{prefix_len}
use Rattle.tree_checker.specs.declared.verdict.Cause.{Cause}
use Rattle.tree_checker.specs.declared.verdict.Verdict.TheVariants.{Refused as refused}
use Rattle.tree_checker.specs.Trees.{Task}
use Rattle.tree_checker.specs.Verdicts.{State, Reading, fault}
use Rattle.tree_checker.specs.steps.Machine.{lines_and_rest, with_byte, first_line, onto_line, text_rest, is_some_byte, next_place, at_end}

-- with a first line
some_byte : (b : ℕ) (bytes line more : List ℕ) (is : Bool) (f : Option (List ℕ × List ℕ)) → ((l m : List ℕ) → f ≡ Some (l, m) → lines_and_rest bytes ≡ (l ∷ (lines_and_rest m).0, (lines_and_rest m).1)) →
    cond is (Some ([], bytes)) (onto_line b f) ≡ Some (line, more) →
    cond is ([] ∷ (lines_and_rest bytes).0, (lines_and_rest bytes).1) (with_byte b (lines_and_rest bytes)) ≡ (line ∷ (lines_and_rest more).0, (lines_and_rest more).1)
some_byte b bytes line more true f later e =
    let pair : Path (List ℕ × List ℕ) ([], bytes) (line, more) = cc in
    ap (λ x. (x.0 ∷ (lines_and_rest x.1).0, (lines_and_rest x.1).1)) pair
some_byte b bytes line more false None later e = absurd (cc)
some_byte b bytes line more false (Some l) later e =
    let pair : Path (List ℕ × List ℕ) (b ∷ l.0, l.1) (line, more) = cc in
    let rest : lines_and_rest bytes ≡ (l.0 ∷ (lines_and_rest l.1).0, (lines_and_rest l.1).1) = later l.0 l.1 refl in
    ap (with_byte b) rest ∙ ap (λ x. (x.0 ∷ (lines_and_rest x.1).0, (lines_and_rest x.1).1)) pair

pub cut_some : (text line more : List ℕ) → first_line text ≡ Some (line, more) → lines_and_rest text ≡ (line ∷ (lines_and_rest more).0, (lines_and_rest more).1)
cut_some [] line more e = absurd (cc)
cut_some (b ∷ bytes) line more e = some_byte b bytes line more (b == 10) (first_line bytes) (λ l m. cut_some bytes l m) e

no_byte : (b : ℕ) (bytes : List ℕ) (is : Bool) (f : Option (List ℕ × List ℕ)) → (f ≡ None → lines_and_rest bytes ≡ ([], bytes)) → cond is (Some ([], bytes)) (onto_line b f) ≡ None →
    cond is ([] ∷ (lines_and_rest bytes).0, (lines_and_rest bytes).1) (with_byte b (lines_and_rest bytes)) ≡ ([], b ∷ bytes)
no_byte b bytes true f later e = absurd (cc)
no_byte b bytes false None later e = ap (with_byte b) (later refl)
no_byte b bytes false (Some l) later e = absurd (cc)

pub cut_none : (text : List ℕ) → first_line text ≡ None → lines_and_rest text ≡ ([], text)
cut_none [] e = refl
cut_none (b ∷ bytes) e = no_byte b bytes (b == 10) (first_line bytes) (λ h. cut_none bytes h) e

onto_shorter : (b : ℕ) (bytes line more : List ℕ) (is : Bool) (f : Option (List ℕ × List ℕ)) → ((l m : List ℕ) → f ≡ Some (l, m) → length l + length m + 1 ≡ length bytes) → cond is (Some ([], bytes)) (onto_line b f) ≡ Some (line, more) → length line + length more + 1 ≡ suc (length bytes)
onto_shorter b bytes line more true f later e = let pair : Path (List ℕ × List ℕ) ([], bytes) (line, more) = cc in let a : [] ≡ line = ap (λ x. x.0) pair in let d : bytes ≡ more = ap (λ x. x.1) pair in let la : 0 ≡ length line = ap length a in let ld : length bytes ≡ length more = ap length d in omega arith
onto_shorter b bytes line more false None later e = absurd (cc)
onto_shorter b bytes line more false (Some l) later e = let pair : Path (List ℕ × List ℕ) (b ∷ l.0, l.1) (line, more) = cc in let la : suc (length l.0) ≡ length line = ap (λ x. length x.0) pair in let ld : length l.1 ≡ length more = ap (λ x. length x.1) pair in let h = later l.0 l.1 refl in omega arith

pub shorter : (text line more : List ℕ) → first_line text ≡ Some (line, more) → length line + length more + 1 ≡ length text
shorter [] line more e = absurd (cc)
shorter (b ∷ bytes) line more e = onto_shorter b bytes line more (b == 10) (first_line bytes) (λ l m. shorter bytes l m) e

here : (is : Bool) (b : ℕ) (bytes : List ℕ) (m n : ℕ) → (m < length bytes → first_line bytes ≡ Some (take m bytes, drop (m + 1) bytes)) → n ≡ cond (not is) (1 + m) 0 → n < suc (length bytes) → cond is (Some ([], bytes)) (onto_line b (first_line bytes)) ≡ Some (take n (b ∷ bytes), drop (n + 1) (b ∷ bytes))
here true b bytes m n later e h = rw e refl
here false b bytes m n later e h =
    let first : first_line bytes ≡ Some (take m bytes, drop (m + 1) bytes) = later (omega arith) in
    let same : n ≡ suc m = omega arith in
    let next : suc m + 1 ≡ suc (m + 1) = omega arith in
    rw (same, next) (ap (onto_line b) first)

pub cut_here : (text : List ℕ) (n : ℕ) → n ≡ prefix_len (λ b. not (b == 10)) text → n < length text → first_line text ≡ Some (take n text, drop (n + 1) text)
cut_here [] n e h = absurd (omega arith)
cut_here (b ∷ bytes) n e h = here (b == 10) b bytes (prefix_len (λ b. not (b == 10)) bytes) n (λ m. cut_here bytes (prefix_len (λ b. not (b == 10)) bytes) refl m) e h

nowhere : (is : Bool) (b : ℕ) (bytes : List ℕ) (m n : ℕ) → (length bytes ≤ m → first_line bytes ≡ None) → n ≡ cond (not is) (1 + m) 0 → suc (length bytes) ≤ n → cond is (Some ([], bytes)) (onto_line b (first_line bytes)) ≡ None
nowhere true b bytes m n later e h = absurd (omega arith)
nowhere false b bytes m n later e h = ap (onto_line b) (later (omega arith))

pub cut_nowhere : (text : List ℕ) (n : ℕ) → n ≡ prefix_len (λ b. not (b == 10)) text → length text ≤ n → first_line text ≡ None
cut_nowhere [] n e h = refl
cut_nowhere (b ∷ bytes) n e h = nowhere (b == 10) b bytes (prefix_len (λ b. not (b == 10)) bytes) n (λ m. cut_nowhere bytes (prefix_len (λ b. not (b == 10)) bytes) refl m) e h

-- the verdict from here on
pub step_text : (read : List ℕ → Reading) (task : Task) (n : ℕ) (at : State) (rest line more : List ℕ) → first_line rest ≡ Some (line, more) → fault task.facts at (read line) ≡ None
    → text_rest read task n at rest ≡ text_rest read task (n + 1) (next_place task at (read line)) more
step_text read task n at rest line more e none =
    let cut = cut_some rest line more e in
    let a : n + suc (length (lines_and_rest more).0) ≡ n + 1 + length (lines_and_rest more).0 = omega arith in
    let b : suc n ≡ n + 1 = omega arith in
    rw (cut, none, a, b) refl

pub stop_text : (read : List ℕ → Reading) (task : Task) (n : ℕ) (at : State) (rest line more : List ℕ) (cause : Cause) → first_line rest ≡ Some (line, more) → fault task.facts at (read line) ≡ Some cause
    → text_rest read task n at rest ≡ refused n cause
stop_text read task n at rest line more cause e is = rw (cut_some rest line more e, is) refl

pub end_text : (read : List ℕ → Reading) (task : Task) (n : ℕ) (at : State) (rest : List ℕ) → first_line rest ≡ None → text_rest read task n at rest ≡ at_end at n (is_some_byte rest)
end_text read task n at rest e = rw (cut_none rest e) (ap (λ k. at_end at k (is_some_byte rest)) (omega arith))

pub tail_is : (text back : List ℕ) (n : ℕ) → back ≡ drop n text → take (length back - 1) (drop 1 back) ≡ drop (n + 1) text
tail_is text back n e = let d : drop 1 (drop n text) ≡ drop (n + 1) text = drop-drop 1 n text in
    take_all (length back - 1) (drop 1 back) (omega (arith, length-drop 1 back)) ∙ ap (drop 1) e ∙ d

pub some_rest : (rest : List ℕ) → not (length rest == 0) ≡ is_some_byte rest
some_rest [] = refl
some_rest (b ∷ rest) = grind arith
