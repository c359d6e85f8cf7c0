-- Files that are read, one after another.
use Rattle.std.proofs.Common.{◌≡◌, ◌∙◌, sym, subst, ap, refl, ℕ, zero, suc, ◌+◌, ◌<◌, ◌≤◌, ◌==◌, false, List, [], ◌∷◌, ◌++◌, length, length-append, append_assoc, append-nil, arith}
use Rattle.std.specs.Prelude.{Option, Some, Ok, Err, slice_get}
use Rattle.cbc_outside.specs.Outside.{Files, IsWhole}
use Rattle.cbc_outside.specs.declared.streams.ReadStop.{ReadStop}
use Rattle.cbc_outside.specs.declared.streams.ReadStop.TheVariants as reading
use Rattle.cbc_top.specs.ModelFiles.{lines_on, joined, IsNextOf}
use Rattle.cbc_top.specs.Opening.{AreRead, HasRead, HasFailed}
use Rattle.cbc_top.specs.steps.Reads.{Adds, HasJoined, Joins, separated}

-- ---- files that were opened, and one more

read_more : (IsNext : List (List ℕ) → List ℕ → Type 0) (files : Option Files) (before names contents : List (List ℕ)) (name bytes : List ℕ)
    → AreRead IsNext files before names contents → IsNext (before ++ contents) name → IsWhole files name bytes
    → AreRead IsNext files before (names ++ name ∷ []) (contents ++ bytes ∷ [])
read_more IsNext files before [] [] name bytes read next whole = (subst (λ z. IsNext z name) (append-nil before) next, whole, tt)
read_more IsNext files before (n ∷ names) (b ∷ contents) name bytes read next whole = (
  read.0,
  read.1,
  read_more IsNext files (before ++ b ∷ []) names contents name bytes read.2 (subst (λ z. IsNext z name) (sym (append_assoc before (b ∷ []) contents)) next) whole,
)
read_more IsNext files before (n ∷ names) [] name bytes read next whole = absurd read
read_more IsNext files before [] (b ∷ contents) name bytes read next whole = absurd read

pub one_more : (IsNext : List (List ℕ) → List ℕ → Type 0) (files : Option Files) (old before new contents : List (List ℕ)) (name bytes : List ℕ)
    → HasRead IsNext files old before contents → IsNext contents name → IsWhole files name bytes → new ≡ before ++ name ∷ []
    → HasRead IsNext files old new (contents ++ bytes ∷ [])
one_more IsNext files old before new contents name bytes read next whole opened = record {
  names = read.names ++ name ∷ [];
  opened = opened ∙ ap (λ z. z ++ name ∷ []) read.opened ∙ append_assoc old read.names (name ∷ []);
  read = read_more IsNext files [] read.names contents name bytes read.read next whole;
}

-- ---- the bytes of some files

lines_more : (contents : List (List ℕ)) (bytes : List ℕ) → lines_on (contents ++ bytes ∷ []) ≡ lines_on contents ++ 10 ∷ bytes
lines_more [] bytes = ap (λ z. 10 ∷ z) (append-nil bytes)
lines_more (b ∷ contents) bytes = ap (λ z. 10 ∷ (b ++ z)) (lines_more contents bytes) ∙ ap (λ z. 10 ∷ z) (sym (append_assoc b (lines_on contents) (10 ∷ bytes)))

-- one more file is behind a line feed, if there is one before it
joined_more : (contents : List (List ℕ)) (bytes : List ℕ) → 0 < length contents → joined (contents ++ bytes ∷ []) ≡ joined contents ++ 10 ∷ bytes
joined_more [] bytes some = absurd (omega (arith, some))
joined_more (b ∷ contents) bytes some = ap (λ z. b ++ z) (lines_more contents bytes) ∙ sym (append_assoc b (lines_on contents) (10 ∷ bytes))

-- ---- one more file of a model

below : (names : List (List ℕ)) (place : ℕ) (name : List ℕ) → slice_get names place ≡ Some name → place < length names
below [] place name is = absurd cc
below (n ∷ names) zero name is = omega arith
below (n ∷ names) (suc place) name is = let less = below names place name is in omega (arith, less)

length_more : (contents : List (List ℕ)) (bytes : List ℕ) → length (contents ++ bytes ∷ []) ≡ 1 + length contents
length_more contents bytes = let count = length-append contents (bytes ∷ []) in omega (arith, count)

-- the bytes so far, with a line feed behind them if there are some files, and one more file
abbrev pub Behind : List (List ℕ) → List ℕ → Type 0
Behind contents before = (bytes : List ℕ) → joined (contents ++ bytes ∷ []) ≡ before ++ bytes

is_later : (place : ℕ) → 0 < place → (place == 0) ≡ false
is_later place later = grind arith

later : (place : ℕ) (text : List ℕ) → 0 < place → separated place text ≡ text ++ 10 ∷ []
later place text some = rw (is_later place some) refl

pub behind_at : (contents : List (List ℕ)) (text before : List ℕ) → text ≡ joined contents → before ≡ separated (length contents) text → Behind contents before
behind_at [] text before are sep = λ bytes. append-nil bytes ∙ ap (λ z. z ++ bytes) (sym (sep ∙ are))
behind_at (b ∷ contents) text before are sep = λ bytes.
    joined_more (b ∷ contents) bytes (omega arith) ∙ sym (append_assoc (joined (b ∷ contents)) (10 ∷ []) bytes) ∙ ap (λ z. (z ++ 10 ∷ []) ++ bytes) (sym are)
    ∙ ap (λ z. z ++ bytes) (sym (sep ∙ later (length (b ∷ contents)) text (omega arith)))

-- it could not be read, or passes the limit
pub stops_at : (names : List (List ℕ)) (files : Option Files) (old mid new contents : List (List ℕ)) (name before now : List ℕ) (blamed : Option (List ℕ)) (e : ReadStop)
    → HasRead (IsNextOf names) files old mid contents → IsNextOf names contents name → Behind contents before → new ≡ mid ++ name ∷ [] → Adds files name before now blamed (Err e)
    → Joins names files old new blamed (Err e)
stops_at names files old mid new contents name before now blamed reading.TooLong read next behind opened adds =
    let less = below names (length contents) name next.1 in
    let count = length_more contents adds.0 in (
      contents ++ adds.0 ∷ [],
      one_more (IsNextOf names) files old mid new contents name adds.0 read next adds.1 opened,
      (omega (arith, less, count), subst (λ z. 4194304 < length z) (sym (behind adds.0)) adds.2),
    )
stops_at names files old mid new contents name before now blamed reading.Failed read next behind opened adds =
    record { before = mid; contents = contents; read = read; name = name; next = next; opened = opened; is_blamed = adds }
stops_at names files old mid new contents name before now blamed reading.Memory read next behind opened adds =
    (contents ++ adds.0 ∷ [], one_more (IsNextOf names) files old mid new contents name adds.0 read next adds.1 opened)

-- it was read, and fits
pub goes_on : (names : List (List ℕ)) (files : Option Files) (old mid new contents : List (List ℕ)) (name before now : List ℕ) (blamed : Option (List ℕ))
    → HasRead (IsNextOf names) files old mid contents → IsNextOf names contents name → Behind contents before → new ≡ mid ++ name ∷ [] → Adds files name before now blamed (Ok tt)
    → HasJoined names files old new (1 + length contents) now
goes_on names files old mid new contents name before now blamed read next behind opened adds = record {
  contents = contents ++ adds.0 ∷ [];
  read = one_more (IsNextOf names) files old mid new contents name adds.0 read next adds.1 opened;
  number = length_more contents adds.0;
  are = adds.2 ∙ sym (behind adds.0);
  fit = adds.3;
}

next_place : (names : List (List ℕ)) (contents : List (List ℕ)) (name text : List ℕ) (count : ℕ) → text ≡ joined contents → length text ≤ 4194304 → length contents ≡ count
    → slice_get names count ≡ Some name → IsNextOf names contents name
next_place names contents name text count are fit number is =
    (subst (λ z. length z ≤ 4194304) are fit, subst (λ z. slice_get names z ≡ Some name) (sym number) is)

-- ---- the steps of the loop, at the file with this place

pub loop_stops : (names : List (List ℕ)) (files : Option Files) (old mid new : List (List ℕ)) (place : ℕ) (text before name now : List ℕ) (blamed : Option (List ℕ)) (e : ReadStop)
    → HasJoined names files old mid place text → before ≡ separated place text → slice_get names place ≡ Some name → new ≡ mid ++ name ∷ [] → Adds files name before now blamed (Err e)
    → Joins names files old new blamed (Err e)
loop_stops names files old mid new place text before name now blamed e j sep is opened adds =
    stops_at names files old mid new j.contents name before now blamed e j.read (next_place names j.contents name text place j.are j.fit j.number is)
    (behind_at j.contents text before j.are (subst (λ z. before ≡ separated z text) (sym j.number) sep)) opened adds

pub loop_goes_on : (names : List (List ℕ)) (files : Option Files) (old mid new : List (List ℕ)) (place : ℕ) (text before name now : List ℕ) (blamed : Option (List ℕ))
    → HasJoined names files old mid place text → before ≡ separated place text → slice_get names place ≡ Some name → new ≡ mid ++ name ∷ [] → Adds files name before now blamed (Ok tt)
    → HasJoined names files old new (place + 1) now
loop_goes_on names files old mid new place text before name now blamed j sep is opened adds =
    let next = next_place names j.contents name text place j.are j.fit j.number is in
    let more = goes_on names files old mid new j.contents name before now blamed j.read next (behind_at j.contents text before j.are (subst (λ z. before ≡ separated z text) (sym j.number) sep)) opened adds in
    record { contents = more.contents; read = more.read; number = let e = more.number in let n = j.number in omega (arith, e, n); are = more.are; fit = more.fit }

-- ---- another rule for what is next

read_under : (P Q : List (List ℕ) → List ℕ → Type 0) (files : Option Files) → ((contents : List (List ℕ)) (name : List ℕ) → P contents name → Q contents name)
    → (before names contents : List (List ℕ)) → AreRead P files before names contents → AreRead Q files before names contents
read_under P Q files pq before [] [] read = tt
read_under P Q files pq before (name ∷ names) (bytes ∷ contents) read = (pq before name read.0, read.1, read_under P Q files pq (before ++ bytes ∷ []) names contents read.2)
read_under P Q files pq before (name ∷ names) [] read = absurd read
read_under P Q files pq before [] (bytes ∷ contents) read = absurd read

pub has_read_under : (P Q : List (List ℕ) → List ℕ → Type 0) (files : Option Files) → ((contents : List (List ℕ)) (name : List ℕ) → P contents name → Q contents name)
    → (old new contents : List (List ℕ)) → HasRead P files old new contents → HasRead Q files old new contents
has_read_under P Q files pq old new contents read = record { names = read.names; opened = read.opened; read = read_under P Q files pq [] read.names contents read.read }

pub has_failed_under : (P Q : List (List ℕ) → List ℕ → Type 0) (files : Option Files) → ((contents : List (List ℕ)) (name : List ℕ) → P contents name → Q contents name)
    → (old new : List (List ℕ)) (blamed : Option (List ℕ)) → HasFailed P files old new blamed → HasFailed Q files old new blamed
has_failed_under P Q files pq old new blamed failed = record {
  before = failed.before;
  contents = failed.contents;
  read = has_read_under P Q files pq old failed.before failed.contents failed.read;
  name = failed.name;
  next = pq failed.contents failed.name failed.next;
  opened = failed.opened;
  is_blamed = failed.is_blamed;
}
