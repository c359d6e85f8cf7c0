-- What is known of each number's type. Public contracts meet it only as the fields of a `Solution`.
use Rattle.std.specs.Prelude.{◌≡◌, ⊤, ℕ, ◌+◌, ◌<◌, ◌≤◌, Bool, true, false, cond, List, [], ◌∷◌, length, get_or}
use Rattle.eb_value.specs.declared.types.EbType.{EbType}
use Rattle.eb_value.specs.Types as type
use Rattle.type_equations.specs.declared.store.Entry.{Entry}
use Rattle.type_equations.specs.declared.store.Entry.TheVariants.{Free, Link, Integer, Boolean, Carrier, Product, Power}

-- the number's entry; nothing is known of a number past the end
abbrev pub entry_at : List Entry → ℕ → Entry
entry_at entries number = get_or entries number Free

-- the type of the number is as the entry says
abbrev pub Fits : (ℕ → EbType) → ℕ → Entry → Type 0
Fits σ number Free = ⊤
Fits σ number (Link other) = σ number ≡ σ other
Fits σ number Integer = σ number ≡ type.integer
Fits σ number Boolean = σ number ≡ type.boolean
Fits σ number (Carrier place) = σ number ≡ type.carrier place
Fits σ number (Product first second) = σ number ≡ type.product (σ first) (σ second)
Fits σ number (Power members) = σ number ≡ type.power (σ members)

-- there are so many entries, and they say nothing
pub record IsFree (total : ℕ) (entries : List Entry) : Type 0 where
  pub count : length entries ≡ total
  pub free : (number : ℕ) → entry_at entries number ≡ Free

-- the types are as the entries say
pub record Agrees (σ : ℕ → EbType) (entries : List Entry) : Type 0 where
  pub fits : (number : ℕ) → Fits σ number (entry_at entries number)

abbrev pub is_link : Entry → Bool
is_link (Link other) = true
is_link _ = false

-- links lead to smaller numbers, and parts are below the number of entries
abbrev pub IsPlaced : ℕ → ℕ → Entry → Type 0
IsPlaced count number Free = ⊤
IsPlaced count number (Link other) = other < number
IsPlaced count number Integer = ⊤
IsPlaced count number Boolean = ⊤
IsPlaced count number (Carrier place) = ⊤
IsPlaced count number (Product first second) = (first < count) × (second < count)
IsPlaced count number (Power members) = members < count

-- each entry is placed
pub record ArePlaced (entries : List Entry) : Type 0 where
  pub placed : (number : ℕ) → IsPlaced (length entries) number (entry_at entries number)

-- how many entries aren't links
abbrev pub roots : List Entry → ℕ
roots [] = 0
roots (e ∷ es) = cond (is_link e) (roots es) (roots es + 1)

-- the same types agree, and the same entries are links
pub record SaysTheSame (before after : List Entry) : Type 0 where
  pub count : length after ≡ length before
  pub placed : ArePlaced after
  pub to : (σ : ℕ → EbType) → Agrees σ before → Agrees σ after
  pub back : (σ : ℕ → EbType) → Agrees σ after → Agrees σ before
  pub links : (number : ℕ) → is_link (entry_at after number) ≡ is_link (entry_at before number)
  pub roots : roots after ≡ roots before

-- the number's type is that of the other, which isn't larger
pub record Leads (entries : List Entry) (number other : ℕ) : Type 0 where
  pub small : other ≤ number
  pub same : (σ : ℕ → EbType) → Agrees σ entries → σ number ≡ σ other
