-- A text has one verdict.
use Rattle.std.proofs.Common.{◌≡◌, ℕ, zero, suc, ◌+◌, ◌<◌, inl, inr, List, [], ◌∷◌, ◌++◌, length, Bool, true, false, ap, ap₂, sym, subst, refl, ◌∙◌, arith, Some, Result, Ok, Err, ◌≤ℤ◌}
use Rattle.std.specs.List.{list_all}
use Rattle.std.proofs.lemmas.List.{length-map}
use Rattle.eb_value.specs.declared.scope.Scope.{Scope}
use Rattle.eb_term.specs.declared.problem.Problem.{Problem}
use Rattle.tree_form.specs.declared.line.Line.{Line}
use Rattle.tree_checker.specs.declared.verdict.Cause.{Cause}
use Rattle.tree_checker.specs.declared.verdict.Cause.TheVariants.{Unfinished, AfterEnd}
use Rattle.tree_checker.specs.declared.verdict.Verdict.{Verdict}
use Rattle.tree_checker.specs.declared.verdict.Verdict.TheVariants.{Accepted as accepted, Partial as partial, Refused as refused}
use Rattle.occ_store.specs.Stores.{Store, IsFirst, HaveIntegers, first_store, whole}
use Rattle.eb_term.specs.declared.problem.Choice.{Choice}
use Rattle.tree_checker.specs.Trees.{Task}
use Rattle.tree_checker.specs.Verdicts.{State, heading, within, ended, fault}
use Rattle.tree_checker.specs.Texts.{joined, is_one_line, IsText, AreLines, IsWholeText, IsFault, IsShort, IsVerdictFor, IsVerdict, task_of}
use Rattle.tree_checker.specs.steps.Machine.{Reader, after, at_end, verdict_from, lines_and_rest, is_some_byte, readings, text_rest, text_verdict}
use Rattle.tree_checker.proofs.Runs.{read_as, after_viable, after_whole, whole_after, stops_at}
use Rattle.tree_checker.proofs.Places.{after_place}
use Rattle.tree_checker.proofs.TextLaws.{IsSuited, text_exact, falls, same_text, whole_in, viable_in, joined_text, map_append, each_front}

one_fall : (text : List ℕ) (texts : List (List ℕ)) (rest : List ℕ) → IsText text texts rest → ((lines_and_rest text).0 ≡ texts) × ((lines_and_rest text).1 ≡ rest)
one_fall text texts rest t = let f = falls text in same_text (lines_and_rest text).0 texts (lines_and_rest text).1 rest f.each t.each f.last t.last (sym f.whole ∙ t.whole)

-- the checker's verdict on a text that falls into these lines
verdict_at : (problem : Problem) (reader : Reader problem) (task : Task) (text : List ℕ) (texts : List (List ℕ)) (rest : List ℕ) (r : Result State (ℕ × Cause)) → IsText text texts rest → after task 1 heading (readings reader.read texts) ≡ r
    → text_rest reader.read task 1 heading text ≡ verdict_from r (1 + length texts) (is_some_byte rest)
verdict_at problem reader task text texts rest r t e =
    let f = one_fall text texts rest t in
    ap₂ (λ x y. verdict_from (after task 1 heading (readings reader.read x)) (1 + length x) (is_some_byte y)) f.0 f.1
    ∙ ap (λ x. verdict_from x (1 + length texts) (is_some_byte rest)) e

whole_verdict : (problem : Problem) (reader : Reader problem) (task : Task) (text : List ℕ) (count : ℕ) → IsSuited problem task → IsWholeText task text count → text_rest reader.read task 1 heading text ≡ at_end (ended count) (1 + length (lines_and_rest text).0) false
whole_verdict problem reader task text count s w =
    let i = whole_in problem reader task text (lines_and_rest text).0 (lines_and_rest text).1 count s (falls text) w in
    let come : after task 1 heading (readings reader.read (lines_and_rest text).0) ≡ Ok (ended count) = ap (after task 1 heading) i.read ∙ after_whole task i.lines count i.whole in
    verdict_at problem reader task text (lines_and_rest text).0 (lines_and_rest text).1 (Ok (ended count)) (falls text) come
    ∙ ap (λ x. at_end (ended count) (1 + length (lines_and_rest text).0) (is_some_byte x)) i.uncut

partial_end : (k n : ℕ) → 0 < k → at_end (ended k) n false ≡ partial k
partial_end zero n h = absurd (omega arith)
partial_end (suc k) n h = refl

cut_end : (k n : ℕ) → at_end (ended k) n true ≡ refused n AfterEnd
cut_end zero n = refl
cut_end (suc k) n = refl

still_short : (st : State) (n : ℕ) (cut : Bool) → ((k : ℕ) → st ≡ ended k → ⊥) → at_end st n cut ≡ refused n Unfinished
still_short heading n cut h = refl
still_short (within stores k) n cut h = refl
still_short (ended k) n cut h = absurd (h k refl)

is_byte : (rest : List ℕ) → 0 < length rest → is_some_byte rest ≡ true
is_byte [] h = absurd (omega arith)
is_byte (b ∷ rest) h = refl

-- texts are those of one list of lines
same_lines : (problem : Problem) (reader : Reader problem) (texts : List (List ℕ)) (xs ys : List Line) → AreLines texts xs → AreLines texts ys → xs ≡ ys
same_lines problem reader [] [] [] a b = refl
same_lines problem reader [] [] (y ∷ ys) a b = absurd b
same_lines problem reader [] (x ∷ xs) ys a b = absurd a
same_lines problem reader (text ∷ texts) [] ys a b = absurd a
same_lines problem reader (text ∷ texts) (x ∷ xs) [] a b = absurd b
same_lines problem reader (text ∷ texts) (x ∷ xs) (y ∷ ys) a b = ap₂ (λ l ls. l ∷ ls) (reader.line text x y a.0 b.0) (same_lines problem reader texts xs ys a.1 b.1)

fault_only : (problem : Problem) (reader : Reader problem) (task : Task) (text : List ℕ) (texts : List (List ℕ)) (rest : List ℕ) (before later : List (List ℕ)) (line : List ℕ) (n : ℕ) (cause : Cause) → IsSuited problem task → IsText text texts rest → texts ≡ before ++ (line ∷ later) → n ≡ suc (length before) → IsFault problem task before line cause
    → text_rest reader.read task 1 heading text ≡ refused n cause
fault_only problem reader task text texts rest before later line n cause s t e number f =
    let each : list_all is_one_line (before ++ (line ∷ later)) ≡ true = subst (λ x. list_all is_one_line x ≡ true) e t.each in
    let v = viable_in problem reader task before s (each_front before (line ∷ later) each).0 f.viable in
    let lines : v.0 ≡ f.lines = same_lines problem reader before v.0 f.lines v.3 f.are_lines in
    let come : after task 1 heading (readings reader.read before) ≡ Ok f.place = ap (after task 1 heading) v.1 ∙ ap (λ x. after task 1 heading (read_as x)) lines ∙ after_place task f.lines f.place f.is_place in
    let is : fault task.facts f.place (reader.read line) ≡ Some cause = ap (fault task.facts f.place) (reader.only line f.reading f.is_reading) ∙ f.is_first in
    let stop = stops_at task (readings reader.read before) (reader.read line) (readings reader.read later) 1 heading f.place cause come is in
    let all : after task 1 heading (readings reader.read texts) ≡ Err (1 + length (readings reader.read before), cause) =
    ap (λ x. after task 1 heading (readings reader.read x)) e ∙ ap (after task 1 heading) (map_append reader.read before (line ∷ later)) ∙ stop in
    let count : length (readings reader.read before) ≡ length before = length-map before reader.read in
    verdict_at problem reader task text texts rest (Err (1 + length (readings reader.read before), cause)) t all ∙ ap (λ k. refused k cause) (omega arith)

short_only : (problem : Problem) (reader : Reader problem) (task : Task) (text : List ℕ) (texts : List (List ℕ)) (rest : List ℕ) (n : ℕ) (cause : Cause) → IsSuited problem task → IsText text texts rest → n ≡ suc (length texts) → IsShort task texts rest cause
    → text_rest reader.read task 1 heading text ≡ refused n cause
short_only problem reader task text texts rest n cause s t number short =
    let v = viable_in problem reader task texts s t.each short.viable in
    let run = after_viable task v.0 v.2 in
    let come : after task 1 heading (readings reader.read texts) ≡ Ok run.0 = ap (after task 1 heading) v.1 ∙ run.1 in
    let here = verdict_at problem reader task text texts rest (Ok run.0) t come in
    elim short.ends as (λ _. text_rest reader.read task 1 heading text ≡ refused n cause) [
      | inl w ↦ cut_short run.0 come here w.0 w.1 w.2 w.3
      | inr w ↦ here ∙ still_short run.0 (1 + length texts) (is_some_byte rest) (λ k same. w.0 k (is_whole k v.0 v.1 v.3 (run.1 ∙ ap Ok same))) ∙ ap₂ (λ k c. refused k c) (omega arith) (sym w.1)
    ] where
      cut_short : (st : State) → after task 1 heading (readings reader.read texts) ≡ Ok st → text_rest reader.read task 1 heading text ≡ at_end st (1 + length texts) (is_some_byte rest) → (k : ℕ) → IsWholeText task (joined texts) k → 0 < length rest → cause ≡ AfterEnd
          → text_rest reader.read task 1 heading text ≡ refused n cause
      cut_short st come here k whole some is =
          let i = whole_in problem reader task (joined texts) texts [] k s (joined_text texts t.each) whole in
          let end : after task 1 heading (readings reader.read texts) ≡ Ok (ended k) = ap (after task 1 heading) i.read ∙ after_whole task i.lines k i.whole in
          let both : Ok st ≡ Ok (ended k) = sym come ∙ end in
          let place : st ≡ ended k = cc in
          here ∙ ap₂ (λ p b. at_end p (1 + length texts) b) place (is_byte rest some) ∙ cut_end k (1 + length texts) ∙ ap₂ (λ k c. refused k c) (omega arith) (sym is)

      is_whole : (k : ℕ) (lines : List Line) → readings reader.read texts ≡ read_as lines → AreLines texts lines → after task 1 heading (read_as lines) ≡ Ok (ended k) → IsWholeText task (joined texts) k
      is_whole k lines read are come = record { texts = texts; each = t.each; joins = refl; lines = lines; are_lines = are; whole = whole_after task lines k come }

pub text_only : (problem : Problem) (reader : Reader problem) (task : Task) (text : List ℕ) (v : Verdict) → IsSuited problem task → IsVerdictFor problem task text v → text_rest reader.read task 1 heading text ≡ v
text_only problem reader task text accepted s w = whole_verdict problem reader task text 0 s w
text_only problem reader task text (partial k) s (some, w) = whole_verdict problem reader task text k s w ∙ partial_end k (1 + length (lines_and_rest text).0) some
text_only problem reader task text (refused n cause) s (texts, rest, t, inl (before, line, later, e, number, f)) = fault_only problem reader task text texts rest before later line n cause s t e number f
text_only problem reader task text (refused n cause) s (texts, rest, t, inr (number, short)) = short_only problem reader task text texts rest n cause s t number short

-- the checker's verdict from a first store, by the law that there is one
module _ (one : (scope : Scope) (choices : List Choice) (store : Store) → HaveIntegers choices → scope.lo ≤ℤ scope.hi → IsFirst scope choices store → store ≡ first_store scope choices) where
  suited : (scope : Scope) (problem : Problem) (first : Store) → scope.lo ≤ℤ scope.hi → HaveIntegers problem.choices → IsFirst scope problem.choices first → IsSuited problem (task_of scope problem first)
  suited scope problem first filled integers is_first =
      let same = one scope problem.choices first integers filled is_first in
      record { facts = refl; integers = integers; count = ap length same ∙ length-map problem.choices (λ c. whole scope) }

  pub verdict_is : (scope : Scope) (problem : Problem) (reader : Reader problem) (text : List ℕ) (first : Store) → scope.lo ≤ℤ scope.hi → HaveIntegers problem.choices → IsFirst scope problem.choices first → IsVerdict scope problem text (text_verdict reader.read scope problem first text)
  verdict_is scope problem reader text first filled integers is_first = (first, is_first, text_exact problem reader (task_of scope problem first) text (suited scope problem first filled integers is_first))

  pub verdict_only : (scope : Scope) (problem : Problem) (reader : Reader problem) (text : List ℕ) (first : Store) (v : Verdict) → scope.lo ≤ℤ scope.hi → HaveIntegers problem.choices → IsFirst scope problem.choices first → IsVerdict scope problem text v → text_verdict reader.read scope problem first text ≡ v
  verdict_only scope problem reader text first v filled integers is_first (other, is_other, is) =
      let same : first ≡ other = one scope problem.choices first integers filled is_first ∙ sym (one scope problem.choices other integers filled is_other) in
      ap (λ store. text_verdict reader.read scope problem store text) same ∙ text_only problem reader (task_of scope problem other) text v (suited scope problem other filled integers is_other) is
