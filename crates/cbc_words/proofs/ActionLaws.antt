-- The functions give what the table says, and all of it.
use Rattle.std.proofs.Common.{◌≡◌, ◌≢◌, ◌∙◌, sym, subst, ℕ, List, [], ◌∷◌, ◌++◌, Bool, true, false, refl, ap, codes}
use Rattle.std.specs.Prelude.{Option, Some, None, if◌then◌else◌, nat_le, ◌&&◌, option_map, unwrap_or}
use Rattle.std.specs.Str.{bytes_eq}
use Rattle.std.specs.Str.Parse.{digits_value}
use Rattle.std.proofs.lemmas.Bool.{leb-true, le-leb}
use Rattle.std.proofs.lemmas.Slice.Eq.{bytes_eq-Decides}
use Rattle.clap.proofs.WalkLemmas.{both}
use Rattle.cbc_words.specs.Actions.{Text, IsAction, IsBudget, IsSmallNumber, action_of, budget_of, files_and_last, is_decimal, only_number, small_number, some_files}
use Rattle.cbc_words.specs.declared.action.Action.{Action}
use Rattle.cbc_words.specs.declared.action.Action.TheVariants.{Solve, Check, Cover, Replay, Gen}
use Rattle.cbc_words.proofs.RestLaws.{files_and_last-append}

pub some_same : {A : Type 0} (a b : A) → Some a ≡ Some b → a ≡ b
some_same a b h = ap (λ o. unwrap_or o a) h

-- the branch of an `if` that gives the value
if_some : {A P : Type 0} (b : Bool) (x y : Option A) (a : A) → (if b then x else y) ≡ Some a
    → (b ≡ true → x ≡ Some a → P) → (y ≡ Some a → P) → P
if_some true x y a h f g = f refl h
if_some false x y a h f g = g h

map_some : {A B P : Type 0} (f : A → B) (o : Option A) (b : B) → option_map f o ≡ Some b
    → ((a : A) → o ≡ Some a → f a ≡ b → P) → P
map_some f None b h g = cc
map_some f (Some a) b h g = g a refl (some_same _ _ h)

-- ---- numbers

pub small_sound : (text : Text) (n : ℕ) → small_number text ≡ Some n → IsSmallNumber text n
small_sound text n h =
    if_some (is_decimal text && nat_le (digits_value 10 text) 1000000) (Some (digits_value 10 text)) None n h
    (λ e same.
    let parts = both _ _ e in
    let value = some_same _ _ same in
    (parts.0, value, rw (← value) (leb-true _ _ parts.1)))
    (λ e. cc)

pub small_complete : (text : Text) (n : ℕ) → IsSmallNumber text n → small_number text ≡ Some n
small_complete text n h = rw (h.0, h.1, le-leb n 1000000 h.2) refl

-- ---- REST

some_files_sound : (rest files : List Text) → some_files rest ≡ Some files → (rest ≡ files) × (files ≢ [])
some_files_sound [] files h = cc
some_files_sound (f ∷ fs) files h =
    let same : (f ∷ fs) ≡ files = some_same _ _ h in
    subst (λ x. ((f ∷ fs) ≡ x) × (x ≢ [])) same (refl, λ e. cc)

some_files_complete : (files : List Text) → files ≢ [] → some_files files ≡ Some files
some_files_complete [] h = absurd (h refl)
some_files_complete (f ∷ fs) h = refl

-- the words but the last, and the last
pub front_and_last : (word : Text) (words : List Text)
    → (front : List Text) × ((last : Text) × ((word ∷ words) ≡ front ++ last ∷ []))
front_and_last word [] = ([], (word, refl))
front_and_last word (next ∷ words) =
    let more = front_and_last next words in
    (word ∷ more.0, (more.1.0, ap (λ (x : List Text). word ∷ x) more.1.1))

with_last_sound : (front : List Text) (last : Text) (x : List Text × Text)
    → option_map {U = List Text × Text} (λ fs. (fs, last)) (some_files front) ≡ Some x
    → (front ++ last ∷ [] ≡ x.0 ++ x.1 ∷ []) × (x.0 ≢ [])
with_last_sound [] last x h = cc
with_last_sound (f ∷ fs) last x h =
    let here : List Text × Text = (f ∷ fs, last) in
    let same : here ≡ x = some_same _ _ h in
    subst (λ (y : List Text × Text). ((f ∷ fs) ++ last ∷ [] ≡ y.0 ++ y.1 ∷ []) × (y.0 ≢ [])) same (refl, λ e. cc)

files_and_last_sound : (rest : List Text) (x : List Text × Text) → files_and_last rest ≡ Some x
    → (rest ≡ x.0 ++ x.1 ∷ []) × (x.0 ≢ [])
files_and_last_sound [] x h = cc
files_and_last_sound (w ∷ ws) x h =
    let parts = front_and_last w ws in
    let there = subst (λ rest. files_and_last rest ≡ Some x) parts.1.1 h in
    let both_ways = with_last_sound parts.0 parts.1.0 x (sym (files_and_last-append parts.0 parts.1.0) ∙ there) in
    (parts.1.1 ∙ both_ways.0, both_ways.1)

files_and_last_complete : (files : List Text) (last : Text) → files ≢ []
    → files_and_last (files ++ last ∷ []) ≡ Some (files, last)
files_and_last_complete files last h =
    files_and_last-append files last ∙ rw (some_files_complete files h) refl

only_number_sound : (rest : List Text) (n : ℕ) → only_number rest ≡ Some n
    → (text : Text) × (rest ≡ text ∷ []) × IsSmallNumber text n
only_number_sound [] n h = cc
only_number_sound (text ∷ []) n h = (text, refl, small_sound text n h)
only_number_sound (a ∷ b ∷ rest) n h = cc

-- ---- actions

word_is : (word name : Text) → bytes_eq word name ≡ true → word ≡ name
word_is word name e = (bytes_eq-Decides word name).0 e

is_same_word : (name : Text) → bytes_eq name name ≡ true
is_same_word name = (bytes_eq-Decides name name).1 refl

pub action_sound : (word : Text) (rest : List Text) (action : Action) → action_of word rest ≡ Some action
    → IsAction word rest action
action_sound word rest action h =
    if_some (bytes_eq word (codes "solve")) _ _ action h
    (λ e here. map_some _ _ action here (λ files is same.
    let parts = some_files_sound rest files is in
    subst (IsAction word rest) same (word_is word (codes "solve") e, parts.0, parts.1)))
    (λ h. if_some (bytes_eq word (codes "check")) _ _ action h
    (λ e here. map_some _ _ action here (λ x is same.
    let parts = files_and_last_sound rest x is in
    subst (IsAction word rest) same (word_is word (codes "check") e, parts.0, parts.1)))
    (λ h. if_some (bytes_eq word (codes "cover")) _ _ action h
    (λ e here. map_some _ _ action here (λ files is same.
    let parts = some_files_sound rest files is in
    subst (IsAction word rest) same (word_is word (codes "cover") e, parts.0, parts.1)))
    (λ h. if_some (bytes_eq word (codes "replay")) _ _ action h
    (λ e here. map_some _ _ action here (λ x is same.
    let parts = files_and_last_sound rest x is in
    subst (IsAction word rest) same (word_is word (codes "replay") e, parts.0, parts.1)))
    (λ h. if_some (bytes_eq word (codes "gen")) _ _ action h
    (λ e here. map_some _ _ action here (λ number is same.
    subst (IsAction word rest) same (word_is word (codes "gen") e, only_number_sound rest number is)))
    (λ h. cc)))))

pub action_complete : (word : Text) (rest : List Text) (action : Action) → IsAction word rest action
    → action_of word rest ≡ Some action
action_complete word rest (Solve files) h = rw (h.0, h.1, some_files_complete files h.2) refl
action_complete word rest (Check files tree) h = rw (h.0, h.1, files_and_last_complete files tree h.2) refl
action_complete word rest (Cover files) h = rw (h.0, h.1, some_files_complete files h.2) refl
action_complete word rest (Replay files test) h = rw (h.0, h.1, files_and_last_complete files test h.2) refl
action_complete word rest (Gen number) h = rw (h.0, h.1.1, small_complete h.1.0 number h.1.2) refl

-- ---- the budget

pub budget_sound : (text : Option Text) (budget : ℕ) → budget_of text ≡ Some budget → IsBudget text budget
budget_sound None budget h = sym (some_same _ _ h)
budget_sound (Some text) budget h = small_sound text budget h

pub budget_complete : (text : Option Text) (budget : ℕ) → IsBudget text budget → budget_of text ≡ Some budget
budget_complete None budget h = ap (λ n. Some n) (sym h)
budget_complete (Some text) budget h = small_complete text budget h
