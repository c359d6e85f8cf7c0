-- What is written part by part.
use Rattle.std.proofs.Common.{◌≡◌, ◌∙◌, ap, sym, refl, ℕ, zero, suc, ◌+◌, ◌<◌, ◌≤◌, if◌then◌else◌, is_ok, OnOk, Result, Ok, Err, List, [], ◌∷◌, ◌++◌, map, drop, length, get_or, append_assoc, add-one, codes, Bor}
use Rattle.std.specs.List.{flat_map}
use Rattle.std.proofs.lemmas.List.{append-nil, at_drop_more, drop_more, drop_all, drop-map}
use Rattle.cbc_query.specs.declared.note.Note.{Note}
use Rattle.numbered_names.specs.declared.entries.Entry.{Entry}
use Rattle.eb_value.specs.declared.value.Value.{Value}
use Rattle.cbc_answers.specs.Answers.{note_text, constant_text, constants_text}
use Rattle.cbc_answers.specs.steps.Repeating.{repeated}

-- ---- a text again and again

repeated_behind : (n : ℕ) (text : List ℕ) → repeated n text ++ text ≡ text ++ repeated n text
repeated_behind zero text = sym (append-nil text)
repeated_behind (suc n) text = append_assoc text (repeated n text) text ∙ ap (λ z. text ++ z) (repeated_behind n text)

pub one_more : (n : ℕ) (text all new : List ℕ) → all ≡ repeated n text → new ≡ all ++ text → new ≡ repeated (n + 1) text
one_more n text all new are e = rw add-one (e ∙ ap (λ z. z ++ text) are ∙ repeated_behind n text)

-- ---- notes

-- the line of a note, part by part
pub note_pushed : {E : Type 0} (r : Result Unit E) (text labelled named new : List ℕ) (n : Note)
    → labelled ≡ text ++ (codes "note scoped " ++ n.label) → named ≡ labelled ++ (codes " " ++ n.identifier) → new ≡ (if is_ok r then named ++ codes "\n" else named)
    → OnOk r (new ≡ text ++ note_text n)
note_pushed (Ok done) text labelled named new n e f g =
    g ∙ ap (λ z. z ++ codes "\n") (f ∙ ap (λ z. z ++ (codes " " ++ n.identifier)) e)
    ∙ append_assoc (text ++ (codes "note scoped " ++ n.label)) (codes " " ++ n.identifier) (codes "\n")
    ∙ append_assoc text (codes "note scoped " ++ n.label) (codes " " ++ (n.identifier ++ codes "\n"))
    ∙ ap (λ z. text ++ z) (append_assoc (codes "note scoped ") n.label (codes " " ++ (n.identifier ++ codes "\n")))
note_pushed (Err error) text labelled named new n e f g = tt

-- one more part, of those from a place on
pub part_more : {X : Type 0} (part : X → List ℕ) (xs : List X) (k : ℕ) (x : X) (text new all : List ℕ)
    → k < length xs → x ≡ get_or xs k x → new ≡ text ++ part x → text ++ flat_map part (drop k xs) ≡ all → new ++ flat_map part (drop (k + 1) xs) ≡ all
part_more part xs k x text new all less is e whole =
    ap (λ z. z ++ flat_map part (drop (k + 1) xs)) e
    ∙ append_assoc text (part x) (flat_map part (drop (k + 1) xs))
    ∙ ap (λ z. text ++ (part z ++ flat_map part (drop (k + 1) xs))) is
    ∙ ap (λ z. text ++ z) (sym (at_drop_more (flat_map part) xs k x less))
    ∙ whole

-- ---- the lines of constants

-- where there is a value, there is a line, and those behind it
line_at : (sets : List (List ℕ)) (xs : List (Bor Entry)) (vs : List Value) (k : ℕ) (x : Bor Entry) (v : Value) → k < length xs → k < length vs
    → constants_text sets (drop k (map (λ x. x.now) xs)) (drop k vs)
    ≡ constant_text sets (get_or xs k x).now (get_or vs k v) ++ constants_text sets (drop (k + 1) (map (λ x. x.now) xs)) (drop (k + 1) vs)
line_at sets xs vs k x v less fewer = rw (drop-map (λ (x : Bor Entry). x.now) k xs, drop_more xs k x less, drop_more vs k v fewer, drop-map (λ (x : Bor Entry). x.now) (k + 1) xs) refl

pub constant_more : (sets : List (List ℕ)) (xs : List (Bor Entry)) (vs : List Value) (k : ℕ) (x : Bor Entry) (v : Value) (text new all : List ℕ)
    → k < length xs → x ≡ get_or xs k x → k < length vs → v ≡ get_or vs k v → new ≡ text ++ constant_text sets x.now v
    → text ++ constants_text sets (drop k (map (λ x. x.now) xs)) (drop k vs) ≡ all
    → new ++ constants_text sets (drop (k + 1) (map (λ x. x.now) xs)) (drop (k + 1) vs) ≡ all
constant_more sets xs vs k x v text new all less is fewer value e whole =
    let rest : List ℕ = constants_text sets (drop (k + 1) (map (λ x. x.now) xs)) (drop (k + 1) vs) in
    ap (λ z. z ++ rest) e
    ∙ append_assoc text (constant_text sets x.now v) rest
    ∙ ap (λ (z : Bor Entry). text ++ (constant_text sets z.now v ++ rest)) is
    ∙ ap (λ z. text ++ (constant_text sets (get_or xs k x).now z ++ rest)) value
    ∙ ap (λ z. text ++ z) (sym (line_at sets xs vs k x v less fewer))
    ∙ whole

-- without another value, there are no more lines
no_value : (sets : List (List ℕ)) (xs : List Entry) → constants_text sets xs [] ≡ []
no_value sets [] = refl
no_value sets (x ∷ xs) = refl

pub no_more_lines : (sets : List (List ℕ)) (xs : List Entry) (vs : List Value) (k : ℕ) (text all : List ℕ) → length vs ≤ k → text ++ constants_text sets (drop k xs) (drop k vs) ≡ all → text ≡ all
no_more_lines sets xs vs k text all past whole =
    sym (append-nil text) ∙ ap (λ z. text ++ z) (sym (no_value sets (drop k xs))) ∙ ap (λ z. text ++ constants_text sets (drop k xs) z) (sym (drop_all k vs past)) ∙ whole
