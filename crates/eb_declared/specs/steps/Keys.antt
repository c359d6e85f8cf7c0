-- What is declared so far, as sets have it.
use Rattle.std.specs.Prelude.{ℕ, ◌≡◌, ⊤, Bool, true, false, ◌&&◌, ◌||◌, Option, None, Some, List, [], ◌∷◌, ◌++◌, Contains, bytes_eq}
use Rattle.std.specs.declared.cmp.Ordering.{Ordering}
use Rattle.std.specs.BTreeSet.{BTreeSet, contains_by}
use Rattle.eb_scoping.specs.Sets.{has_text}
use Rattle.std.specs.Borrow.{Bor}
use denote.Enum.Bare.{sameb}
use Rattle.eb_declared.specs.declared.part.Space.{Space as SpaceAt}
use Rattle.eb_declared.specs.declared.part.Space.TheVariants as at
use Rattle.eb_declared.specs.declared.repeats.Kind.{Kind}
use Rattle.eb_declared.specs.declared.repeats.Kind.TheVariants as kind
use Rattle.eb_declared.specs.declared.repeats.Key.{Key}
use Rattle.eb_declared.specs.contracts.repeats.Kind.{the_type}
use Rattle.eb_declared.specs.contracts.repeats.KeyOrd.TheImpl as key_ord
use Rattle.eb_declared.specs.Parts.{Space, space_units, space_model, space_parameters, space_events, space_axioms, space_invariants, space_assigned, space_words, space_sizes}
use Rattle.eb_declared.specs.Declarations.{Declaration, declared, AreApart, AreDistinct, Repeats, RepeatsFirst}
use Rattle.eb_declared.specs.Seen.{space}
use Rattle.std.specs.declared.result.Result.{Result}
use Rattle.std.specs.declared.result.Result.TheVariants.{Ok, Err}
use Rattle.eb_declared.specs.declared.fault.RepeatFault.{RepeatFault}
use Rattle.eb_declared.specs.declared.fault.RepeatFault.TheVariants as fault

abbrev pub same_parts : Kind → List ℕ → List ℕ → Kind → List ℕ → List ℕ → Bool
same_parts kind owner name kind' owner' name' = sameb the_type kind kind' && (bytes_eq owner owner' && bytes_eq name name')

abbrev pub same_key : Key → Kind → List ℕ → List ℕ → Bool
same_key k kind owner name = same_parts k.kind k.owner.now k.name.now kind owner name

-- the key of this name in a space of this kind, which is of this owner
abbrev pub key_at : Kind → List ℕ → List ℕ → Key
key_at kind owner name = record { kind = kind; owner = record { ref_ptr = (0, 0); now = owner }; name = record { ref_ptr = (0, 0); now = name } }

abbrev pub key_cmp : Kind → List ℕ → List ℕ → Key → Ordering
key_cmp kind owner name = (key_ord.ghosts).cmp (key_at kind owner name)

-- the set has this key
abbrev pub has : BTreeSet Key → Kind → List ℕ → List ℕ → Bool
has keys kind owner name = contains_by (key_cmp kind owner name) keys

abbrev pub kind_of : SpaceAt → Kind
kind_of at.Units = kind.Units
kind_of at.Model = kind.Model
kind_of (at.Parameters e) = kind.Parameters
kind_of at.Events = kind.Events
kind_of (at.Axioms c) = kind.Axioms
kind_of at.Invariants = kind.Invariants
kind_of (at.Assigned e) = kind.Assigned
kind_of at.Words = kind.Words
kind_of at.Sizes = kind.Sizes

abbrev pub owner_of : Space → List ℕ
owner_of space_units = []
owner_of space_model = []
owner_of (space_parameters e) = e
owner_of space_events = []
owner_of (space_axioms c) = c
owner_of space_invariants = []
owner_of (space_assigned e) = e
owner_of space_words = []
owner_of space_sizes = []

abbrev pub is_parameter : SpaceAt → Bool
is_parameter (at.Parameters e) = true
is_parameter at.Units = false
is_parameter at.Model = false
is_parameter at.Events = false
is_parameter (at.Axioms c) = false
is_parameter at.Invariants = false
is_parameter (at.Assigned e) = false
is_parameter at.Words = false
is_parameter at.Sizes = false

-- a parameter is hidden by the names of the model, and hides them
abbrev pub is_hidden : BTreeSet Key → BTreeSet (Bor (List ℕ)) → SpaceAt → List ℕ → Bool
is_hidden keys parameters (at.Parameters e) name = has keys kind.Model [] name
is_hidden keys parameters at.Units name = false
is_hidden keys parameters at.Model name = has_text parameters name
is_hidden keys parameters at.Events name = false
is_hidden keys parameters (at.Axioms c) name = false
is_hidden keys parameters at.Invariants name = false
is_hidden keys parameters (at.Assigned e) name = false
is_hidden keys parameters at.Words name = false
is_hidden keys parameters at.Sizes name = false

abbrev pub is_taken : BTreeSet Key → BTreeSet (Bor (List ℕ)) → SpaceAt → List ℕ → Bool
is_taken keys parameters s name = has keys (kind_of s) (owner_of (space s)) name || is_hidden keys parameters s name

abbrev pub kind_in : Space → Kind
kind_in space_units = kind.Units
kind_in space_model = kind.Model
kind_in (space_parameters e) = kind.Parameters
kind_in space_events = kind.Events
kind_in (space_axioms c) = kind.Axioms
kind_in space_invariants = kind.Invariants
kind_in (space_assigned e) = kind.Assigned
kind_in space_words = kind.Words
kind_in space_sizes = kind.Sizes

-- the sets have what these declare
pub record Keeps (keys : BTreeSet Key) (parameters : BTreeSet (Bor (List ℕ))) (ds : List Declaration) : Type 0 where
  pub had : (s : Space) (x : List ℕ) → has keys (kind_in s) (owner_of s) x ≡ true → Contains ds (declared s x)
  pub has_all : (s : Space) (x : List ℕ) → Contains ds (declared s x) → has keys (kind_in s) (owner_of s) x ≡ true
  pub parameter : (x : List ℕ) → has_text parameters x ≡ true → (event : List ℕ) × Contains ds (declared (space_parameters event) x)
  pub parameters_all : (event x : List ℕ) → Contains ds (declared (space_parameters event) x) → has_text parameters x ≡ true

-- the first name that stands a second time, if there is one
abbrev pub IsFirstTwice : List (List ℕ) → Option (List ℕ) → Type 0
IsFirstTwice xs None = AreApart xs
IsFirstTwice xs (Some x) = (front : List (List ℕ)) × (rest : List (List ℕ)) × (xs ≡ front ++ x ∷ rest) × Contains front x × AreApart front

abbrev pub BindsApart : List (List ℕ) → Result (Unit {0}) RepeatFault → Type 0
BindsApart xs (Ok u) = AreApart xs
BindsApart xs (Err (fault.Repeated name)) = (front : List (List ℕ)) × (rest : List (List ℕ)) × (xs ≡ front ++ name ∷ rest) × Contains front name × AreApart front
BindsApart xs (Err fault.Memory) = ⊤

-- the answer to a declaration behind these, and what is known then
abbrev pub Judged : List Declaration → Declaration → BTreeSet Key → BTreeSet (Bor (List ℕ)) → Result (Unit {0}) RepeatFault → Type 0
Judged before d keys parameters (Ok u) = Keeps keys parameters (before ++ d ∷ []) × ((name : List ℕ) → Repeats before d name → ⊥)
Judged before d keys parameters (Err (fault.Repeated name)) = Repeats before d name
Judged before d keys parameters (Err fault.Memory) = ⊤

abbrev pub AreJudged : List Declaration → Result (Unit {0}) RepeatFault → Type 0
AreJudged ds (Ok u) = AreDistinct ds
AreJudged ds (Err (fault.Repeated name)) = RepeatsFirst ds name
AreJudged ds (Err fault.Memory) = ⊤

-- these names stand apart, and the set has them
pub record HasFront (names : BTreeSet (Bor (List ℕ))) (front : List (List ℕ)) : Type 0 where
  pub apart : AreApart front
  pub had : (x : List ℕ) → has_text names x ≡ true → Contains front x
  pub has_all : (x : List ℕ) → Contains front x → has_text names x ≡ true

-- these declarations are distinct, and the sets have them
pub record JudgesFront (keys : BTreeSet Key) (parameters : BTreeSet (Bor (List ℕ))) (ds : List Declaration) : Type 0 where
  pub keeps : Keeps keys parameters ds
  pub distinct : AreDistinct ds
