-- What the checker has come to is the place of the next line.
use Rattle.std.proofs.Common.{◌≡◌, ℕ, suc, ◌+◌, List, [], ◌∷◌, ◌++◌, length, true, ap, sym, subst, refl, ◌∙◌, append_assoc, append-nil, arith, cond, None, Ok}
use Rattle.std.specs.List.{list_all}
use Rattle.tree_form.specs.declared.line.Line.{Line}
use Rattle.tree_form.specs.declared.line.Line.TheVariants.{Header as header, Begin as begin, End as finish}
use Rattle.occ_store.specs.Stores.{Store}
use Rattle.tree_checker.specs.Trees.{Facts, Task, Fits, parts_of, is_header, is_open, opens}
use Rattle.tree_checker.specs.Verdicts.{State, heading, within, ended, Reading, fault, LeadsTo, IsInTree, IsPlace}
use Rattle.tree_checker.specs.steps.Machine.{next, after}
use Rattle.tree_checker.proofs.Steps.{no_fault, fits_there}
use Rattle.tree_checker.proofs.Runs.{read_as, no_fault_first}

-- a line without a fault keeps the place
leads_more : (facts : Facts) (lines : List Line) (stores : List Store) (store : Store) (left : List Store) (line : Line) → LeadsTo facts stores lines (store ∷ left) → Fits facts store line → LeadsTo facts stores (lines ++ (line ∷ [])) (parts_of store line ++ left)
leads_more facts [] [] store left line leads fits = absurd (cc)
leads_more facts [] (b ∷ stores) store left line leads fits =
    let e : store ≡ b = cc in
    let r : left ≡ stores = cc in
    (subst (λ x. Fits facts x line) e fits, ap (λ x. parts_of x line ++ stores) (sym e) ∙ ap (λ x. parts_of store line ++ x) (sym r))
leads_more facts (l ∷ lines) [] store left line leads fits = absurd leads
leads_more facts (l ∷ lines) (b ∷ stores) store left line leads fits = (leads.0, leads_more facts lines (parts_of b l ++ stores) store left line leads.1 fits)

opens_more : (lines : List Line) (line : Line) → opens (lines ++ (line ∷ [])) ≡ opens lines + cond (is_open line) 1 0
opens_more [] line = omega arith
opens_more (l ∷ lines) line = let more = opens_more lines line in omega arith

headers_more : (lines : List Line) → list_all is_header lines ≡ true → list_all is_header (lines ++ (header ∷ [])) ≡ true
headers_more [] all = refl
headers_more (header ∷ lines) all = headers_more lines all
headers_more (_ ∷ lines) all = absurd (cc)

from_heading : (task : Task) (done : List Line) (line : Line) → list_all is_header done ≡ true → fault task.facts heading (Ok line) ≡ None → IsPlace task (done ++ (line ∷ [])) (next task heading line)
from_heading task done header all none = headers_more done all
from_heading task done begin all none = record { headers = done; body = []; all = all; text = refl; leads = refl; open_lines = refl }
from_heading task done _ all none = absurd (cc)

place_more : (task : Task) (done : List Line) (at : State) (line : Line) → IsPlace task done at → fault task.facts at (Ok line) ≡ None → IsPlace task (done ++ (line ∷ [])) (next task at line)
place_more task done heading line place none = from_heading task done line place none
place_more task done (within [] k) finish place none = (done, place, refl)
place_more task done (within [] k) _ place none = absurd (cc)
place_more task done (within (store ∷ stores) k) line place none = record {
  headers = place.headers;
  body = place.body ++ (line ∷ []);
  all = place.all;
  text = ap (λ x. x ++ (line ∷ [])) place.text ∙ append_assoc place.headers (begin ∷ place.body) (line ∷ []);
  leads = leads_more task.facts place.body (task.first ∷ []) store stores line place.leads (fits_there task.facts store stores k line none);
  open_lines = (let more = opens_more place.body line in omega arith);
}
place_more task done (ended k) _ place none = absurd (cc)

place_after_from : (task : Task) (lines done : List Line) (n : ℕ) (at st : State) → IsPlace task done at → after task n at (read_as lines) ≡ Ok st → IsPlace task (done ++ lines) st
place_after_from task [] done n at st place e = subst (λ x. IsPlace task x st) (sym (append-nil done)) (subst (IsPlace task done) (let same : at ≡ st = cc in same) place)
place_after_from task (line ∷ lines) done n at st place e =
    let first = no_fault_first (fault task.facts at (Ok line)) n (after task (suc n) (next task at line) (read_as lines)) st e in
    subst (λ x. IsPlace task x st) (append_assoc done (line ∷ []) lines)
    (place_after_from task lines (done ++ (line ∷ [])) (suc n) (next task at line) st (place_more task done at line place first.0) first.1)

pub place_after : (task : Task) (lines : List Line) (st : State) → after task 1 heading (read_as lines) ≡ Ok st → IsPlace task lines st
place_after task lines st e = place_after_from task lines [] 1 heading st refl e

-- and the place is no other
run_headers : (task : Task) (headers : List Line) (rest : List Reading) (n : ℕ) → list_all is_header headers ≡ true → after task n heading (read_as headers ++ rest) ≡ after task (n + length headers) heading rest
run_headers task [] rest n all = ap (λ k. after task k heading rest) (omega arith)
run_headers task (header ∷ headers) rest n all = run_headers task headers rest (suc n) all ∙ ap (λ k. after task k heading rest) (omega arith)
run_headers task (_ ∷ headers) rest n all = absurd (cc)

run_tree : (task : Task) (body : List Line) (rest : List Reading) (stores left : List Store) (n k : ℕ) → LeadsTo task.facts stores body left → after task n (within stores k) (read_as body ++ rest) ≡ after task (n + length body) (within left (k + opens body)) rest
run_tree task [] rest stores left n k leads = rw leads (ap (λ i. after task i.0 (within left i.1) rest) (let a : n ≡ n + 0 = omega arith in let b : k ≡ k + 0 = omega arith in let both : Path (ℕ × ℕ) (n, k) (n + 0, k + 0) = cc in both))
run_tree task (line ∷ body) rest [] left n k leads = absurd leads
run_tree task (line ∷ body) rest (store ∷ stores) left n k leads =
    rw (no_fault task.facts store stores k line leads.0)
    (run_tree task body rest (parts_of store line ++ stores) left (suc n) (k + cond (is_open line) 1 0) leads.1
    ∙ (let a : suc n + length body ≡ n + suc (length body) = omega arith in
    let b : (k + cond (is_open line) 1 0) + opens body ≡ k + (cond (is_open line) 1 0 + opens body) = omega arith in
    rw (a, b) refl))

read_append : (xs ys : List Line) → read_as (xs ++ ys) ≡ read_as xs ++ read_as ys
read_append [] ys = refl
read_append (x ∷ xs) ys = ap (λ z. Ok x ∷ z) (read_append xs ys)

run_in_tree : (task : Task) (lines : List Line) (rest : List Reading) (stores : List Store) (k : ℕ) → IsInTree task lines stores k → (m : ℕ) × (after task 1 heading (read_as lines ++ rest) ≡ after task m (within stores k) rest)
run_in_tree task lines rest stores k place =
    let m : ℕ = suc (1 + length place.headers) + length place.body in
    let text : read_as lines ≡ read_as place.headers ++ read_as (begin ∷ place.body) = ap read_as place.text ∙ read_append place.headers (begin ∷ place.body) in
    let same : (read_as place.headers ++ read_as (begin ∷ place.body)) ++ rest ≡ read_as place.headers ++ (read_as (begin ∷ place.body) ++ rest) = append_assoc (read_as place.headers) (read_as (begin ∷ place.body)) rest in
    let heads = run_headers task place.headers (read_as (begin ∷ place.body) ++ rest) 1 place.all in
    let body = run_tree task place.body rest (task.first ∷ []) stores (suc (1 + length place.headers)) 0 place.leads in
    let opened : 0 + opens place.body ≡ k = omega arith in
    (m, ap (λ x. after task 1 heading (x ++ rest)) text ∙ ap (after task 1 heading) same ∙ heads ∙ body ∙ ap (λ i. after task m (within stores i) rest) opened)

pub after_place : (task : Task) (lines : List Line) (st : State) → IsPlace task lines st → after task 1 heading (read_as lines) ≡ Ok st
after_place task lines heading place = subst (λ x. after task 1 heading x ≡ Ok heading) (append-nil (read_as lines)) (run_headers task lines [] 1 place)
after_place task lines (within stores k) place =
    let run = run_in_tree task lines [] stores k place in
    subst (λ x. after task 1 heading x ≡ Ok (within stores k)) (append-nil (read_as lines)) run.1
after_place task lines (ended k) (tree_lines, place, text) =
    let run = run_in_tree task tree_lines (Ok finish ∷ []) [] k place in
    ap (λ x. after task 1 heading (read_as x)) text ∙ ap (after task 1 heading) (read_append tree_lines (finish ∷ [])) ∙ run.1
