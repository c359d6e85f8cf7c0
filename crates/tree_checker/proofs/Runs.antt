-- All lines: the checker comes to no fault exactly where the lines begin some whole text, and ends
-- exactly where they are one.
use Rattle.std.proofs.Common.{◌≡◌, ℕ, suc, ◌+◌, List, [], ◌∷◌, ◌++◌, map, length, ap, sym, subst, refl, ◌∙◌, append-nil, arith, Option, Some, None, Result, Ok, Err}
use Rattle.tree_form.specs.declared.line.Line.{Line}
use Rattle.tree_checker.specs.declared.verdict.Cause.{Cause}
use Rattle.tree_checker.specs.Trees.{Task, IsWhole, IsViable}
use Rattle.tree_checker.specs.Verdicts.{State, heading, within, ended, Reading, fault}
use Rattle.tree_checker.specs.steps.Machine.{next, next_place, after, or_fault}
use Rattle.tree_checker.proofs.Steps.{Finishes, line_in, line_out, finished, fault_faults}

-- texts that are read as these lines
abbrev pub read_as : List Line → List Reading
read_as lines = map (λ line. Ok line) lines

-- what lines without a fault have done at the first of them
pub no_fault_first : {A : Type 0} (f : Option Cause) (n : ℕ) (r : Result A (ℕ × Cause)) (a : A) → or_fault f n r ≡ Ok a → (f ≡ None) × (r ≡ Ok a)
no_fault_first None n r a e = (refl, e)
no_fault_first (Some c) n r a e = absurd (cc)

pub runs_in : (task : Task) (lines more : List Line) (count n : ℕ) (at : State) → Finishes task at (lines ++ more) count → (st : State) × (after task n at (read_as lines) ≡ Ok st) × Finishes task st more count
runs_in task [] more count n at h = (at, refl, h)
runs_in task (line ∷ lines) more count n at h =
    let first = line_in task at line (lines ++ more) count h in
    let rest = runs_in task lines more count (suc n) (next task at line) first.1 in
    (rest.0, rw first.0 rest.1, rest.2)

-- readings without a fault are lines
pub are_lines : (task : Task) (rs : List Reading) (n : ℕ) (at st : State) → after task n at rs ≡ Ok st → (lines : List Line) × (rs ≡ read_as lines)
are_lines task [] n at st e = ([], refl)
are_lines task (Ok line ∷ rs) n at st e =
    let first = no_fault_first (fault task.facts at (Ok line)) n (after task (suc n) (next task at line) rs) st e in
    let rest = are_lines task rs (suc n) (next task at line) st first.1 in
    (line ∷ rest.0, ap (λ x. Ok line ∷ x) rest.1)
are_lines task (Err f ∷ rs) n at st e =
    let first = no_fault_first (fault task.facts at (Err f)) n (after task (suc n) at rs) st e in
    absurd (fault_faults task.facts at f first.0)

pub runs_out : (task : Task) (lines more : List Line) (count n : ℕ) (at st : State) → after task n at (read_as lines) ≡ Ok st → Finishes task st more count → Finishes task at (lines ++ more) count
runs_out task [] more count n at st e h = subst (λ x. Finishes task x more count) (let same : st ≡ at = cc in same) h
runs_out task (line ∷ lines) more count n at st e h =
    let first = no_fault_first (fault task.facts at (Ok line)) n (after task (suc n) (next task at line) (read_as lines)) st e in
    line_out task at line (lines ++ more) count first.0 (runs_out task lines more count (suc n) (next task at line) st first.1 h)

pub after_viable : (task : Task) (lines : List Line) → IsViable task lines → (st : State) × (after task 1 heading (read_as lines) ≡ Ok st)
after_viable task lines (more, count, whole) = let run = runs_in task lines more count 1 heading whole in (run.0, run.1)

pub viable_after : (task : Task) (lines : List Line) (st : State) → after task 1 heading (read_as lines) ≡ Ok st → IsViable task lines
viable_after task lines st e = let end = finished task st in (end.0, end.1, runs_out task lines end.0 end.1 1 heading st e end.2)

-- nothing more finishes the text only after its end
no_end : (xs : List Line) (l : Line) (ys : List Line) → [] ≡ xs ++ (l ∷ ys) → ⊥
no_end [] l ys e = cc
no_end (x ∷ xs) l ys e = cc

nothing_more : (task : Task) (st : State) (count : ℕ) → Finishes task st [] count → st ≡ ended count
nothing_more task heading count h = absurd (no_end h.headers _ _ h.text)
nothing_more task (within stores k) count h = absurd (no_end h.body _ _ h.text)
nothing_more task (ended k) count h = ap ended (sym h.1)

pub after_whole : (task : Task) (lines : List Line) (count : ℕ) → IsWhole task lines count → after task 1 heading (read_as lines) ≡ Ok (ended count)
after_whole task lines count whole =
    let run = runs_in task lines [] count 1 heading (subst (λ x. IsWhole task x count) (sym (append-nil lines)) whole) in
    let end : run.0 ≡ ended count = nothing_more task run.0 count run.2 in
    subst (λ x. after task 1 heading (read_as lines) ≡ Ok x) end run.1

pub whole_after : (task : Task) (lines : List Line) (count : ℕ) → after task 1 heading (read_as lines) ≡ Ok (ended count) → IsWhole task lines count
whole_after task lines count e = subst (λ x. IsWhole task x count) (append-nil lines) (runs_out task lines [] count 1 heading (ended count) e (refl, refl))

-- where the checker stops: the reading, and what came before it
pub record Stops (task : Task) (n : ℕ) (at : State) (rs : List Reading) (number : ℕ) (cause : Cause) : Type 0 where
  pub before : List Reading
  pub reading : Reading
  pub rest : List Reading
  pub place : State
  pub text : rs ≡ before ++ (reading ∷ rest)
  pub numbered : number ≡ n + length before
  pub come : after task n at before ≡ Ok place
  pub is_fault : fault task.facts place reading ≡ Some cause

stops_here : (task : Task) (n : ℕ) (at : State) (r : Reading) (rs : List Reading) (f : Option Cause) (number : ℕ) (cause : Cause) → fault task.facts at r ≡ f → or_fault f n (after task (suc n) (next_place task at r) rs) ≡ Err (number, cause)
    → ((after task (suc n) (next_place task at r) rs ≡ Err (number, cause)) → Stops task (suc n) (next_place task at r) rs number cause) → Stops task n at (r ∷ rs) number cause
stops_here task n at r rs (Some c) number cause is e later =
    let pair : Path (ℕ × Cause) (n, c) (number, cause) = cc in
    record { before = []; reading = r; rest = rs; place = at; text = refl; numbered = (let same : n ≡ number = ap (λ x. x.0) pair in omega arith); come = refl; is_fault = is ∙ ap Some (ap (λ x. x.1) pair) }
stops_here task n at r rs None number cause is e later =
    let l = later e in
    record { before = r ∷ l.before; reading = l.reading; rest = l.rest; place = l.place; text = ap (λ x. r ∷ x) l.text; numbered = omega arith; come = rw is l.come; is_fault = l.is_fault }

pub stops : (task : Task) (rs : List Reading) (n : ℕ) (at : State) (number : ℕ) (cause : Cause) → after task n at rs ≡ Err (number, cause) → Stops task n at rs number cause
stops task [] n at number cause e = absurd (cc)
stops task (r ∷ rs) n at number cause e = stops_here task n at r rs (fault task.facts at r) number cause refl e (stops task rs (suc n) (next_place task at r) number cause)

-- and where it comes to a fault it stops
pub stops_at : (task : Task) (before : List Reading) (r : Reading) (rest : List Reading) (n : ℕ) (at place : State) (cause : Cause) → after task n at before ≡ Ok place → fault task.facts place r ≡ Some cause → after task n at (before ++ (r ∷ rest)) ≡ Err (n + length before, cause)
stops_at task [] r rest n at place cause come is =
    let same : at ≡ place = cc in
    let here : fault task.facts at r ≡ Some cause = rw same is in
    rw here (ap (λ k. Err (k, cause)) (omega arith))
stops_at task (q ∷ before) r rest n at place cause come is =
    let first = no_fault_first (fault task.facts at q) n (after task (suc n) (next_place task at q) before) place come in
    let later = stops_at task before r rest (suc n) (next_place task at q) place cause first.1 is in
    let number : suc n + length before ≡ n + suc (length before) = omega arith in
    rw first.0 (subst (λ k. after task (suc n) (next_place task at q) (before ++ (r ∷ rest)) ≡ Err (k, cause)) number later)

-- a reading at fault begins no whole text
pub not_viable : (task : Task) (before : List Reading) (r : Reading) (place : State) (cause : Cause) (lines : List Line) → after task 1 heading before ≡ Ok place → fault task.facts place r ≡ Some cause → before ++ (r ∷ []) ≡ read_as lines → IsViable task lines → ⊥
not_viable task before r place cause lines come is same viable =
    let run = after_viable task lines viable in
    let stop : after task 1 heading (before ++ (r ∷ [])) ≡ Err (1 + length before, cause) = stops_at task before r [] 1 heading place cause come is in
    let both : Ok run.0 ≡ Err (1 + length before, cause) = sym run.1 ∙ ap (after task 1 heading) (sym same) ∙ stop in
    cc
