-- One line: a line without a fault, and no other, leaves a text that can be finished.
use Rattle.tree_form.specs.declared.line.Line.TheVariants.{Header as header, Begin as begin, Split as split, Clash as clash, Eval as eval, Open as leave, End as finish}
use Rattle.tree_form.specs.declared.line.Line.{Line}
use Rattle.std.proofs.Common.{◌≡◌, ℕ, ◌+◌, List, [], ◌∷◌, ◌++◌, Bool, true, false, not, ap, sym, subst, refl, append-nil, arith, cond, Option, Some, None, Ok, Err}
use Rattle.std.specs.List.{list_all}
use Rattle.tree_form.specs.declared.line.LineFault.{LineFault}
use Rattle.tree_form.specs.declared.line.LineFault.TheVariants.{BadLine, NoSuchOccurrence, BadTest}
use Rattle.occ_store.specs.Stores.{Store}
use Rattle.tree_checker.specs.Trees.{Facts, Task, Fits, Tree, leaf, Holds, lines_of, is_header, opens, IsWhole}
use Rattle.tree_checker.specs.Verdicts.{State, heading, within, ended, fault}
use Rattle.tree_checker.specs.steps.Machine.{next}
use Rattle.tree_checker.proofs.Forests.{Forest, some_line, step_in, step_out, leaves}

-- what finishes the text from this state, with this number of open lines in the whole text
pub record IsRest (task : Task) (stores : List Store) (before : ℕ) (lines : List Line) (count : ℕ) : Type 0 where
  pub body : List Line
  pub forest : Forest task.facts stores body
  pub text : lines ≡ body ++ (finish ∷ [])
  pub open_lines : count ≡ before + opens body

abbrev pub Finishes : Task → State → List Line → ℕ → Type 0
Finishes task heading lines count = IsWhole task lines count
Finishes task (within stores before) lines count = IsRest task stores before lines count
Finishes task (ended before) lines count = (lines ≡ []) × (count ≡ before)

-- a line that fits its store has no fault there
pub no_fault : (facts : Facts) (store : Store) (stores : List Store) (k : ℕ) (line : Line) → Fits facts store line → fault facts (within (store ∷ stores) k) (Ok line) ≡ None
no_fault facts store stores k (split c n) fits = rw fits refl
no_fault facts store stores k (clash c) fits = rw fits refl
no_fault facts store stores k (eval c) (singles, untrue) = rw (singles, untrue) refl
no_fault facts store stores k leave fits = refl
no_fault facts store stores k header fits = absurd fits
no_fault facts store stores k begin fits = absurd fits
no_fault facts store stores k finish fits = absurd fits

passed : {A : Type 0} (b : Bool) (x : A) (rest : Option A) → cond (not b) (Some x) rest ≡ None → (b ≡ true) × (rest ≡ None)
passed true x rest h = (refl, h)
passed false x rest h = absurd (cc)

pub fits_there : (facts : Facts) (store : Store) (stores : List Store) (k : ℕ) (line : Line) → fault facts (within (store ∷ stores) k) (Ok line) ≡ None → Fits facts store line
fits_there facts store stores k (split c n) none = (passed _ _ _ none).0
fits_there facts store stores k (clash c) none = (passed _ _ _ none).0
fits_there facts store stores k (eval c) none = let singles = passed _ _ _ none in (singles.0, (passed _ _ _ singles.1).0)
fits_there facts store stores k leave none = tt
fits_there facts store stores k header none = absurd (cc)
fits_there facts store stores k begin none = absurd (cc)
fits_there facts store stores k finish none = absurd (cc)

-- what isn't a line is at fault in each place
pub fault_faults : (facts : Facts) (place : State) (f : LineFault) → fault facts place (Err f) ≡ None → ⊥
fault_faults facts heading BadLine e = cc
fault_faults facts heading NoSuchOccurrence e = cc
fault_faults facts heading BadTest e = cc
fault_faults facts (within [] k) BadLine e = cc
fault_faults facts (within [] k) NoSuchOccurrence e = cc
fault_faults facts (within [] k) BadTest e = cc
fault_faults facts (within (store ∷ stores) k) BadLine e = cc
fault_faults facts (within (store ∷ stores) k) NoSuchOccurrence e = cc
fault_faults facts (within (store ∷ stores) k) BadTest e = cc
fault_faults facts (ended k) BadLine e = cc
fault_faults facts (ended k) NoSuchOccurrence e = cc
fault_faults facts (ended k) BadTest e = cc

-- into the text
in_heading : (task : Task) (line : Line) (lines : List Line) (count : ℕ) (headers : List Line) (tree : Tree) → list_all is_header headers ≡ true → Holds task.facts task.first tree → line ∷ lines ≡ headers ++ (begin ∷ (lines_of tree ++ (finish ∷ []))) → count ≡ opens (lines_of tree) → (fault task.facts heading (Ok line) ≡ None) × Finishes task (next task heading line) lines count
in_heading task line lines count [] tree all holds text open_lines =
    let e : begin ≡ line = cc in
    subst (λ x. (fault task.facts heading (Ok x) ≡ None) × Finishes task (next task heading x) lines count) e
    (refl, record { body = lines_of tree; forest = (tree, [], holds, sym (append-nil (lines_of tree)), refl); text = cc; open_lines = omega arith })
in_heading task line lines count (header ∷ headers) tree all holds text open_lines =
    let e : header ≡ line = cc in
    subst (λ x. (fault task.facts heading (Ok x) ≡ None) × Finishes task (next task heading x) lines count) e
    (refl, record { headers = headers; tree = tree; all = all; holds = holds; text = cc; open_lines = open_lines })
in_heading task line lines count (_ ∷ headers) tree all holds text open_lines = absurd (cc)

in_boxes : (task : Task) (store : Store) (stores : List Store) (before : ℕ) (line : Line) (lines : List Line) (count : ℕ) (body : List Line) → Forest task.facts (store ∷ stores) body → line ∷ lines ≡ body ++ (finish ∷ []) → count ≡ before + opens body → (fault task.facts (within (store ∷ stores) before) (Ok line) ≡ None) × Finishes task (next task (within (store ∷ stores) before) line) lines count
in_boxes task store stores before line lines count [] forest text open_lines = absurd (some_line forest.0 forest.1 forest.3)
in_boxes task store stores before line lines count (l ∷ body) forest text open_lines =
    let e : l ≡ line = cc in
    let step = step_in task.facts store stores l body forest in
    subst (λ x. (fault task.facts (within (store ∷ stores) before) (Ok x) ≡ None) × Finishes task (next task (within (store ∷ stores) before) x) lines count) e
    (no_fault task.facts store stores before l step.0, record { body = body; forest = step.1; text = cc; open_lines = omega arith })

pub line_in : (task : Task) (at : State) (line : Line) (lines : List Line) (count : ℕ) → Finishes task at (line ∷ lines) count → (fault task.facts at (Ok line) ≡ None) × Finishes task (next task at line) lines count
line_in task heading line lines count h = in_heading task line lines count h.headers h.tree h.all h.holds h.text h.open_lines
line_in task (within [] k) line lines count h =
    let none : h.body ≡ [] = h.forest in
    let text : line ∷ lines ≡ finish ∷ [] = subst (λ x. line ∷ lines ≡ x ++ (finish ∷ [])) none h.text in
    let e : finish ≡ line = cc in
    let zero_open : count ≡ k + 0 = subst (λ x. count ≡ k + opens x) none h.open_lines in
    subst (λ x. (fault task.facts (within [] k) (Ok x) ≡ None) × Finishes task (next task (within [] k) x) lines count) e (refl, (cc, omega arith))
line_in task (within (store ∷ stores) k) line lines count h = in_boxes task store stores k line lines count h.body h.forest h.text h.open_lines
line_in task (ended k) line lines count h = absurd (let e : line ∷ lines ≡ [] = h.0 in cc)

-- out of the text
out_heading : (task : Task) (line : Line) (lines : List Line) (count : ℕ) → fault task.facts heading (Ok line) ≡ None → Finishes task (next task heading line) lines count → IsWhole task (line ∷ lines) count
out_heading task header lines count none h = record { headers = header ∷ h.headers; tree = h.tree; all = h.all; holds = h.holds; text = ap (λ x. header ∷ x) h.text; open_lines = h.open_lines }
out_heading task begin lines count none h =
    let body : h.body ≡ lines_of h.forest.0 ++ h.forest.1 = h.forest.3 in
    let rest : h.forest.1 ≡ [] = h.forest.4 in
    let nil : lines_of h.forest.0 ++ [] ≡ lines_of h.forest.0 = append-nil (lines_of h.forest.0) in
    let same : h.body ≡ lines_of h.forest.0 = cc in
    record {
      headers = [];
      tree = h.forest.0;
      all = refl;
      holds = h.forest.2;
      text = ap (λ x. begin ∷ x) (subst (λ x. lines ≡ x ++ (finish ∷ [])) same h.text);
      open_lines = subst (λ x. count ≡ opens x) same (omega arith);
    }
out_heading task _ lines count none h = absurd (cc)

pub line_out : (task : Task) (at : State) (line : Line) (lines : List Line) (count : ℕ) → fault task.facts at (Ok line) ≡ None → Finishes task (next task at line) lines count → Finishes task at (line ∷ lines) count
line_out task heading line lines count none h = out_heading task line lines count none h
line_out task (within [] k) finish lines count none h = record { body = []; forest = refl; text = ap (λ x. finish ∷ x) h.0; open_lines = omega arith }
line_out task (within [] k) _ lines count none h = absurd (cc)
line_out task (within (store ∷ stores) k) line lines count none h = record {
  body = line ∷ h.body;
  forest = step_out task.facts store stores line h.body (fits_there task.facts store stores k line none) h.forest;
  text = ap (λ x. line ∷ x) h.text;
  open_lines = omega (arith, h.open_lines);
}
line_out task (ended k) _ lines count none h = absurd (cc)

abbrev pub finished : (task : Task) (at : State) → (lines : List Line) × (count : ℕ) × Finishes task at lines count
finished task heading = (begin ∷ leave ∷ finish ∷ [], 1, record { headers = []; tree = leaf leave; all = refl; holds = (tt, refl); text = refl; open_lines = refl })
finished task (within stores k) = let f = leaves task.facts stores in (f.0 ++ (finish ∷ []), k + opens f.0, record { body = f.0; forest = f.1; text = refl; open_lines = refl })
finished task (ended k) = ([], k, (refl, refl))
