-- The source and the sink in memory: what each call answers, and what it leaves.
use Rattle.std.specs.Prelude.{ℕ, ◌-◌, ◌==◌, ◌||◌, List, [], ◌∷◌, ◌++◌, Option, Some, None, Result, Ok, Err, Bool, is_some, is_none, length, take, drop, min, if◌then◌else◌, slice_get, unwrap_or, option_map}
use Rattle.std.specs.List.{list_any}
use Rattle.cbc_outside.specs.declared.outside.Failed.{Failed}
use Rattle.cbc_outside.specs.Outside.{Files, lookup, count_up}

-- the one value of `Failed`
abbrev pub failed : Failed
failed = record {}

-- a source in memory: its files, the numbers of the calls that fail, how many calls were counted,
-- the names that were given to `open`, the open file's name, what is left of it, how many calls failed, and the file
-- of the last that did
pub record SourceState : Type 0 where
  pub files : Files
  pub failing : List ℕ
  pub calls : ℕ
  pub opened : List (List ℕ)
  pub open_name : Option (List ℕ)
  pub rest : List ℕ
  pub faults : ℕ
  pub fault_name : Option (List ℕ)

-- a sink in memory: the bytes taken, how many it can take in all, the numbers of the calls that fail,
-- how many calls were counted, and how many failed
pub record SinkState : Type 0 where
  pub taken : List ℕ
  pub room : ℕ
  pub failing : List ℕ
  pub calls : ℕ
  pub faults : ℕ

-- whether the call that follows so many counted ones is listed as one that fails
abbrev pub is_listed : List ℕ → ℕ → Bool
is_listed failing calls = list_any (λ number. number == count_up calls) failing

-- the bytes that `open` finds: none at a listed call, and none under a name that isn't there
abbrev pub found_bytes : SourceState → List ℕ → Option (List ℕ)
found_bytes s name = if is_listed s.failing s.calls then None else lookup s.files name

-- `open` fails where it finds no bytes
abbrev pub answer_of_open : SourceState → List ℕ → Result Unit Failed
answer_of_open s name = if is_some (found_bytes s name) then Ok tt else Err failed

-- after a call that failed at a file there is one fault more, at this file, and no file is open
abbrev pub after_fault : SourceState → Option (List ℕ) → SourceState
after_fault s name = record s {
  calls = count_up s.calls;
  open_name = None;
  rest = [];
  faults = count_up s.faults;
  fault_name = name;
}

-- after `open` that found bytes, they are all left to read
abbrev pub after_finding : SourceState → List ℕ → Option (List ℕ) → SourceState
after_finding s name None = after_fault s (Some name)
after_finding s name (Some bytes) = record s { calls = count_up s.calls; open_name = Some name; rest = bytes }

-- after `open` of a name, by the bytes that the call finds
abbrev pub after_open : SourceState → List ℕ → SourceState
after_open s name = after_finding (record s { opened = s.opened ++ name ∷ [] }) name (found_bytes s name)

-- `read` gives nothing without an open file, fails at a listed call, and else gives what is left, as
-- far as it fits
abbrev pub answer_of_read : SourceState → ℕ → Result ℕ Failed
answer_of_read s size =
    if is_none s.open_name then Ok 0
    else if is_listed s.failing s.calls then Err failed
    else Ok (min size (length s.rest))

-- `read` without an open file isn't counted; one that gives bytes takes them from what is left
abbrev pub after_read : SourceState → ℕ → SourceState
after_read s size =
    if is_none s.open_name then s
    else if is_listed s.failing s.calls then after_fault s s.open_name
    else record s { calls = count_up s.calls; rest = drop size s.rest }

-- how many bytes a sink can still take
abbrev pub room_left : SinkState → ℕ
room_left s = s.room - length s.taken

-- whether a sink refuses the next piece: it does at a listed call, and where the room is full
abbrev pub is_refused : SinkState → Bool
is_refused s = is_listed s.failing s.calls || (room_left s == 0)

-- `write` takes nothing of an empty piece, fails where the sink refuses, and else takes what fits
abbrev pub answer_of_write : SinkState → List ℕ → Result ℕ Failed
answer_of_write s piece =
    if length piece == 0 then Ok 0
    else if is_refused s then Err failed
    else Ok (min (length piece) (room_left s))

-- `write` of an empty piece isn't counted; one that the sink refuses is a fault and takes nothing
abbrev pub after_write : SinkState → List ℕ → SinkState
after_write s piece =
    if length piece == 0 then s
    else if is_refused s then record s { calls = count_up s.calls; faults = count_up s.faults }
    else record s { calls = count_up s.calls; taken = s.taken ++ take (room_left s) piece }

-- the bytes of the file at a place
abbrev pub bytes_at : Files → ℕ → List ℕ
bytes_at files place = unwrap_or (option_map (λ file. file.1) (slice_get files place)) []
