-- The command as a function is the command of the table.
use Rattle.std.proofs.Common.{◌≡◌, ◌∙◌, subst, ℕ, List, [], ◌∷◌, Bool, true, false, refl, ap, length, arith}
use Rattle.std.specs.Prelude.{Option, Some, None, if◌then◌else◌}
use Rattle.std.proofs.lemmas.Bool.{eqb-true}
use Rattle.clap.specs.Walk.{is_empty}
use Rattle.clap.specs.Words.{fault_of, matches_of}
use Rattle.cbc_words.specs.Actions.{Text, ◌>>=◌, IsAction, IsBudget, action_of, budget_of}
use Rattle.cbc_words.specs.SimpleCommand.{simple_command}
use Rattle.cbc_words.specs.Words.{IsCommand, action_word, budget_text, command_in, command_of, is_json, rest_words}
use Rattle.cbc_words.specs.declared.action.Action.{Action}
use Rattle.cbc_words.specs.declared.action.Command.{Command}
use Rattle.cbc_words.proofs.ActionLaws.{some_same, action_sound, action_complete, budget_sound, budget_complete}

pub none_left : {X : Type 0} (xs : List X) → is_empty xs ≡ true → xs ≡ []
none_left [] e = refl
none_left (x ∷ xs) e = let zero : length (x ∷ xs) ≡ 0 = eqb-true _ _ e in absurd (omega (arith, zero))

-- what the table says of the values of the arguments
abbrev AreParts : Text → List Text → Option Text → Bool → Command → Type 0
AreParts word rest budget json command =
    IsAction word rest command.action × IsBudget budget command.budget × (command.json ≡ json)

-- the command of an action and a budget
abbrev pub joined : Option Action → Option ℕ → Bool → Option Command
joined oa ob json = do
  action ← oa
  budget ← ob
  Some (record { action = action; budget = budget; json = json })

parts_sound : (word : Text) (rest : List Text) (budget : Option Text) (json : Bool) (command : Command)
    → joined (action_of word rest) (budget_of budget) json ≡ Some command → AreParts word rest budget json command
parts_sound word rest budget json command h = parts (action_of word rest) (budget_of budget) refl refl h
  where
    parts : (oa : Option Action) (ob : Option ℕ) → action_of word rest ≡ oa → budget_of budget ≡ ob
        → joined oa ob json ≡ Some command → AreParts word rest budget json command
    parts None ob action_is budget_is h = cc
    parts (Some action) None action_is budget_is h = cc
    parts (Some action) (Some number) action_is budget_is h =
        let whole : Command = record { action = action; budget = number; json = json } in
        let same : whole ≡ command = some_same _ _ h in
        subst (AreParts word rest budget json) same
        (action_sound word rest action action_is, budget_sound budget number budget_is, refl)

parts_complete : (word : Text) (rest : List Text) (budget : Option Text) (json : Bool) (command : Command)
    → AreParts word rest budget json command → joined (action_of word rest) (budget_of budget) json ≡ Some command
parts_complete word rest budget json command h =
    rw (action_complete word rest command.action h.0, budget_complete budget command.budget h.1, ← h.2) refl

pub command_sound : (words : List Text) (command : Command) → command_of words ≡ Some command → IsCommand words command
unfolding command_of
command_sound words command h = go (is_empty (fault_of simple_command words)) refl h
  where
    go : (b : Bool) → is_empty (fault_of simple_command words) ≡ b
        → (if b then command_in (matches_of simple_command words) else None) ≡ Some command → IsCommand words command
    go false e h = cc
    go true e h =
        let rows = matches_of simple_command words in
        let parts = parts_sound (action_word rows) (rest_words rows) (budget_text rows) (is_json rows) command h in
        record {
          taken = none_left (fault_of simple_command words) e;
          action = parts.0;
          budget = parts.1;
          json = parts.2;
        }

pub command_complete : (words : List Text) (command : Command) → IsCommand words command → command_of words ≡ Some command
unfolding command_of
command_complete words command h =
    let rows = matches_of simple_command words in
    let taken : is_empty (fault_of simple_command words) ≡ true = ap (λ kinds. is_empty kinds) h.taken in
    ap (λ (b : Bool). if b then command_in rows else None) taken
    ∙ parts_complete (action_word rows) (rest_words rows) (budget_text rows) (is_json rows) command (h.action, h.budget, h.json)
