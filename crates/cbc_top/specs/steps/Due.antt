-- What is due after a part of a run. No public clause names this.
use Rattle.std.specs.Prelude.{◌≡◌, ◌⊎◌, ⊤, ℕ, List, Option, Result, Ok, Err}
use Rattle.std.specs.Io.KnownBytes.{Appends}
use Rattle.cbc_outside.specs.Outside.{Files, Rose, AppendsFront}
use Rattle.cbc_answers.specs.declared.status.Status.{Status}
use Rattle.cbc_answers.specs.declared.status.Status.TheVariants.{Refused, WriteFault}
use Rattle.cbc_top.specs.declared.stop.Stop.{Stop}
use Rattle.cbc_top.specs.declared.stop.Stop.TheVariants as stop
use Rattle.cbc_top.specs.Opening.{HasRead, HasFailed}
use Rattle.model_text.specs.Refusals.{refusal_text}

-- These files were read, and no other, and the contents have P.
abbrev pub Reads : (List (List ℕ) → List ℕ → Type 0) → Option Files → List (List ℕ) → List (List ℕ) → (List (List ℕ) → Type 0) → Type 0
Reads IsNext files old new P = (contents : List (List ℕ)) × HasRead IsNext files old new contents × P contents

-- what is due, by which file is next and what is lawful: bytes and a status, or a refusal's line, or the file that can't be read
abbrev pub DueAt : (List (List ℕ) → List ℕ → Type 0) → (List (List ℕ) → List ℕ → Status → Type 0) → Option Files → List (List ℕ) → List (List ℕ) → Option (List ℕ) → Result (List ℕ × Status) Stop → Type 0
DueAt IsNext Ends files old new blamed (Ok due) = Reads IsNext files old new (λ contents. Ends contents due.0 due.1)
DueAt IsNext Ends files old new blamed (Err (stop.Refused refusal)) = Reads IsNext files old new (λ contents. Ends contents (refusal_text refusal) Refused)
DueAt IsNext Ends files old new blamed (Err stop.ReadFault) = HasFailed IsNext files old new blamed
DueAt IsNext Ends files old new blamed (Err stop.Memory) = Reads IsNext files old new (λ contents. ⊤)

-- The bytes were written, and the run ends with the status; or a front of them that isn't all was, and it ends with a fault.
abbrev pub Says : Status → List ℕ → Option (List ℕ) → Option (List ℕ) → ℕ → ℕ → Status → Type 0
Says status bytes taken taken_now faults faults_now result =
    ((result ≡ status) × Appends taken taken_now bytes × (faults_now ≡ faults))
    ⊎ ((result ≡ WriteFault) × AppendsFront taken taken_now bytes × Rose faults faults_now)
