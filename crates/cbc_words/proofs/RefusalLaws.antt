-- Where there is no command, and why.
use Rattle.std.proofs.Common.{◌≡◌, ◌≢◌, ◌∙◌, sym, subst, ℕ, ◌<◌, List, [], ◌∷◌, ◌++◌, Bool, true, false, refl, ap, length, arith, codes, inl, inr}
use Rattle.std.specs.Prelude.{◌⊎◌, Option, Some, None, if◌then◌else◌, nat_le, ◌&&◌, option_map}
use Rattle.std.specs.Str.{bytes_eq}
use Rattle.std.specs.Str.Parse.{digits_value}
use Rattle.std.proofs.lemmas.Bool.{lt-leb, leb-false}
use Rattle.std.proofs.lemmas.Slice.Eq.{bytes_eq-Decides}
use Rattle.cbc_words.specs.Actions.{Text, IsOutOfForm, IsUnknown, IsWrongRest, IsWrongBudget, action_of, budget_of, files_and_last, is_decimal, only_number, small_number, some_files}
use Rattle.cbc_words.specs.declared.action.Action.{Action}
use Rattle.std.proofs.lemmas.List.{length-append}
use Rattle.clap.specs.Walk.{is_empty}
use Rattle.clap.specs.Words.{fault_of, matches_of}
use Rattle.cbc_words.specs.SimpleCommand.{simple_command}
use Rattle.cbc_words.specs.Words.{IsRefused, by_clap, unknown_action, wrong_rest, wrong_budget, action_word, budget_text, command_in, command_of, is_json, rest_words}
use Rattle.cbc_words.proofs.ActionLaws.{front_and_last}
use Rattle.cbc_words.proofs.CommandLaws.{joined, none_left}
use Rattle.cbc_words.proofs.RestLaws.{files_and_last-append}

-- the branch of an `if` that gives nothing
if_none : {A P : Type 0} (b : Bool) (x y : Option A) → (if b then x else y) ≡ None
    → (b ≡ true → x ≡ None → P) → (b ≡ false → y ≡ None → P) → P
if_none true x y h f g = f refl h
if_none false x y h f g = g refl h

map_none : {A B : Type 0} (f : A → B) (o : Option A) → option_map f o ≡ None → o ≡ None
map_none f None h = refl
map_none f (Some a) h = cc

-- ---- numbers

small_none : (text : Text) → small_number text ≡ None → IsOutOfForm text
small_none text h = cases (is_decimal text) (nat_le (digits_value 10 text) 1000000) refl refl h
  where
    cases : (d l : Bool) → is_decimal text ≡ d → nat_le (digits_value 10 text) 1000000 ≡ l
        → (if d && l then Some (digits_value 10 text) else None) ≡ None → IsOutOfForm text
    cases false l decimal low h = inl decimal
    cases true false decimal low h = inr (leb-false _ _ low)
    cases true true decimal low h = cc

none_small : (text : Text) → IsOutOfForm text → small_number text ≡ None
none_small text (inl e) = rw e refl
none_small text (inr above) = rw (lt-leb (digits_value 10 text) 1000000 above) (either (is_decimal text))
  where
    either : (d : Bool) → (if d && false then Some (digits_value 10 text) else None) ≡ None
    either true = refl
    either false = refl

-- ---- REST

some_files_none : (rest : List Text) → some_files rest ≡ None → length rest < 1
some_files_none [] h = omega arith
some_files_none (f ∷ fs) h = cc

none_some_files : (rest : List Text) → length rest < 1 → some_files rest ≡ None
none_some_files [] h = refl
none_some_files (f ∷ fs) h = absurd (omega arith)

files_and_last_none : (rest : List Text) → files_and_last rest ≡ None → length rest < 2
files_and_last_none [] h = omega arith
files_and_last_none (w ∷ ws) h =
    let parts = front_and_last w ws in
    let front = parts.0 in
    let last = parts.1.0 in
    let there = subst (λ rest. files_and_last rest ≡ None) parts.1.1 h in
    let alone = some_files_none front (map_none {B = List Text × Text} (λ fs. (fs, last)) (some_files front) (sym (files_and_last-append front last) ∙ there)) in
    let size : length (w ∷ ws) ≡ length (front ++ last ∷ []) = ap (λ (ts : List Text). length ts) parts.1.1 in
    omega (arith, alone, size, length-append front (last ∷ []))

none_files_and_last : (rest : List Text) → length rest < 2 → files_and_last rest ≡ None
none_files_and_last [] h = refl
none_files_and_last (w ∷ []) h = refl
none_files_and_last (v ∷ w ∷ ws) h = absurd (omega arith)

only_number_none : (rest : List Text) → only_number rest ≡ None
    → (length rest ≢ 1) ⊎ ((text : Text) × (rest ≡ text ∷ []) × IsOutOfForm text)
only_number_none [] h = inl (λ e. absurd (omega (arith, e)))
only_number_none (text ∷ []) h = inr (text, refl, small_none text h)
only_number_none (v ∷ w ∷ ws) h = inl (λ e. absurd (omega (arith, e)))

none_only_number : (rest : List Text)
    → (length rest ≢ 1) ⊎ ((text : Text) × (rest ≡ text ∷ []) × IsOutOfForm text) → only_number rest ≡ None
none_only_number [] h = refl
none_only_number (text ∷ []) (inl more) = absurd (more refl)
none_only_number (text ∷ []) (inr wrong) = ap only_number wrong.1 ∙ none_small wrong.0 wrong.2
none_only_number (v ∷ w ∷ ws) h = refl

-- ---- actions

not_word : (word name : Text) → bytes_eq word name ≡ false → word ≢ name
not_word word name e same = let met : bytes_eq word name ≡ true = (bytes_eq-Decides word name).1 same in cc

test_of_other : (word name : Text) → word ≢ name → bytes_eq word name ≡ false
test_of_other word name other = cases (bytes_eq word name) refl
  where
    cases : (b : Bool) → bytes_eq word name ≡ b → bytes_eq word name ≡ false
    cases true e = absurd (other ((bytes_eq-Decides word name).0 e))
    cases false e = e

is : (word name : Text) → bytes_eq word name ≡ true → word ≡ name
is word name e = (bytes_eq-Decides word name).0 e

pub action_none : (word : Text) (rest : List Text) → action_of word rest ≡ None → IsUnknown word ⊎ IsWrongRest word rest
action_none word rest h =
    if_none (bytes_eq word (codes "solve")) _ _ h
    (λ e no. inr (inl (inl (is word (codes "solve") e), some_files_none rest (map_none _ _ no))))
    (λ not_solve h. if_none (bytes_eq word (codes "check")) _ _ h
    (λ e no. inr (inr (inl (inl (is word (codes "check") e), files_and_last_none rest (map_none _ _ no)))))
    (λ not_check h. if_none (bytes_eq word (codes "cover")) _ _ h
    (λ e no. inr (inl (inr (is word (codes "cover") e), some_files_none rest (map_none _ _ no))))
    (λ not_cover h. if_none (bytes_eq word (codes "replay")) _ _ h
    (λ e no. inr (inr (inl (inr (is word (codes "replay") e), files_and_last_none rest (map_none _ _ no)))))
    (λ not_replay h. if_none (bytes_eq word (codes "gen")) _ _ h
    (λ e no. inr (inr (inr (is word (codes "gen") e, only_number_none rest (map_none _ _ no)))))
    (λ not_gen h. inl (
      not_word word (codes "solve") not_solve,
      not_word word (codes "check") not_check,
      not_word word (codes "cover") not_cover,
      not_word word (codes "replay") not_replay,
      not_word word (codes "gen") not_gen,
    ))))))

pub none_unknown : (word : Text) (rest : List Text) → IsUnknown word → action_of word rest ≡ None
none_unknown word rest h = rw (
  test_of_other word (codes "solve") h.0,
  test_of_other word (codes "check") h.1,
  test_of_other word (codes "cover") h.2,
  test_of_other word (codes "replay") h.3,
  test_of_other word (codes "gen") h.4,
) refl

pub none_wrong_rest : (word : Text) (rest : List Text) → IsWrongRest word rest → action_of word rest ≡ None
none_wrong_rest word rest (inl (inl e, few)) = rw (e, none_some_files rest few) refl
none_wrong_rest word rest (inl (inr e, few)) = rw (e, none_some_files rest few) refl
none_wrong_rest word rest (inr (inl (inl e, few))) = rw (e, none_files_and_last rest few) refl
none_wrong_rest word rest (inr (inl (inr e, few))) = rw (e, none_files_and_last rest few) refl
none_wrong_rest word rest (inr (inr (e, wrong))) = rw (e, none_only_number rest wrong) refl

-- ---- the budget

pub budget_none : (text : Option Text) → budget_of text ≡ None → IsWrongBudget text
budget_none None h = cc
budget_none (Some text) h = (text, refl, small_none text h)

pub none_wrong_budget : (text : Option Text) → IsWrongBudget text → budget_of text ≡ None
none_wrong_budget text h = rw h.1 (none_small h.0 h.2)

-- ---- the command

test_of_some : {X : Type 0} (xs : List X) → xs ≢ [] → is_empty xs ≡ false
test_of_some xs some = cases (is_empty xs) refl
  where
    cases : (b : Bool) → is_empty xs ≡ b → is_empty xs ≡ false
    cases true e = absurd (some (none_left xs e))
    cases false e = e

joined_none : (oa : Option Action) (ob : Option ℕ) (json : Bool) → joined oa ob json ≡ None → (oa ≡ None) ⊎ (ob ≡ None)
joined_none None ob json h = inl refl
joined_none (Some action) None json h = inr refl
joined_none (Some action) (Some budget) json h = cc

no_budget : (oa : Option Action) (json : Bool) → joined oa None json ≡ None
no_budget None json = refl
no_budget (Some action) json = refl

nothing : {A : Type 0} (b : Bool) (o : Option A) → o ≡ None → (if b then o else None) ≡ None
nothing true o h = h
nothing false o h = refl

pub refused_sound : (words : List Text) → command_of words ≡ None → IsRefused words
unfolding command_of
refused_sound words h = cases (is_empty (fault_of simple_command words)) refl h
  where
    cases : (b : Bool) → is_empty (fault_of simple_command words) ≡ b
        → (if b then command_in (matches_of simple_command words) else None) ≡ None → IsRefused words
    cases false e h = by_clap (λ none.
        let empty : is_empty (fault_of simple_command words) ≡ true = ap (λ kinds. is_empty kinds) none in cc)
    cases true e h =
        let rows = matches_of simple_command words in
        elim (joined_none (action_of (action_word rows) (rest_words rows)) (budget_of (budget_text rows)) (is_json rows) h) [
          | inl no_action ↦ elim (action_none (action_word rows) (rest_words rows) no_action) [
            | inl unknown ↦ unknown_action unknown
            | inr wrong ↦ wrong_rest wrong
          ]
          | inr no_number ↦ wrong_budget (budget_none (budget_text rows) no_number)
        ]

pub refused_complete : (words : List Text) → IsRefused words → command_of words ≡ None
unfolding command_of
refused_complete words (by_clap refuses) =
    ap (λ (b : Bool). if b then command_in (matches_of simple_command words) else None)
    (test_of_some (fault_of simple_command words) refuses)
refused_complete words (unknown_action unknown) =
    let rows = matches_of simple_command words in
    nothing (is_empty (fault_of simple_command words)) (command_in rows)
    (ap (λ (oa : Option Action). joined oa (budget_of (budget_text rows)) (is_json rows))
    (none_unknown (action_word rows) (rest_words rows) unknown))
refused_complete words (wrong_rest wrong) =
    let rows = matches_of simple_command words in
    nothing (is_empty (fault_of simple_command words)) (command_in rows)
    (ap (λ (oa : Option Action). joined oa (budget_of (budget_text rows)) (is_json rows))
    (none_wrong_rest (action_word rows) (rest_words rows) wrong))
refused_complete words (wrong_budget wrong) =
    let rows = matches_of simple_command words in
    let oa = action_of (action_word rows) (rest_words rows) in
    nothing (is_empty (fault_of simple_command words)) (command_in rows)
    (ap (λ (ob : Option ℕ). joined oa ob (is_json rows)) (none_wrong_budget (budget_text rows) wrong)
    ∙ no_budget oa (is_json rows))
