-- What is declared where, as maps have it.
use Rattle.std.specs.Prelude.{◌+◌, ℕ, ◌≡◌, Bool, false, List, [], ◌∷◌, ◌++◌, Option, None, Some, map, filter, bytes_eq, if◌then◌else◌, ◌||◌}
use Rattle.std.specs.List.{flat_map}
use Rattle.std.specs.Global.{Vec}
use Rattle.std.specs.Borrow.{Bor}
use Rattle.std.specs.BTreeMap.{BTreeMap}
use Rattle.eb_syntax.specs.declared.units.EbUnit.{EbUnit}
use Rattle.eb_syntax.specs.declared.units.EbUnit.TheVariants as eb
use Rattle.eb_syntax.specs.declared.units.Machine.{Machine}
use Rattle.eb_scoping.specs.FreeNames.{is_among}
use Rattle.eb_scoping.specs.Models.{machine_of}
use Rattle.eb_scoping.specs.Groups.{group, IsIndex}
use Rattle.eb_scoping.specs.Sets.{has_text}
use Rattle.eb_lower.specs.Usages.{carriers, variables, clause_statics}
use Rattle.eb_lower.specs.declared.facts.Facts.{Facts}

abbrev pub seen_heads : List (Bor (List ℕ) × ℕ) → List (List ℕ × ℕ)
seen_heads heads = map (λ p. (p.0.now, p.1)) heads

abbrev pub heads_at : ℕ → List (List ℕ) → List (List ℕ × ℕ)
heads_at place names = map (λ x. (x, place)) names

-- the carrier sets and constants of a context of the model, with its place
abbrev pub static_heads : EbUnit → Bool → ℕ → List (List ℕ × ℕ)
static_heads (eb.Context c) is_marked place = if is_marked then flat_map (λ k. heads_at place (clause_statics k)) c.clauses else []
static_heads (eb.Machine m) is_marked place = []
static_heads (eb.Scope s) is_marked place = []
static_heads (eb.Queries qs) is_marked place = []

abbrev pub all_heads : ℕ → List EbUnit → List Bool → List (List ℕ × ℕ)
all_heads place [] bs = []
all_heads place (u ∷ us) [] = []
all_heads place (u ∷ us) (b ∷ bs) = static_heads u b place ++ all_heads (place + 1) us bs

abbrev pub AreStatics : List EbUnit → List Bool → BTreeMap (Bor (List ℕ)) (Vec ℕ) → Type 0
AreStatics us marks m = (name : List ℕ) → group m name ≡ map (λ p. p.1) (filter (λ p. bytes_eq name p.0) (all_heads 0 us marks))

abbrev pub context_name : EbUnit → List (List ℕ)
context_name (eb.Context c) = c.name.name ∷ []
context_name (eb.Machine m) = []
context_name (eb.Scope s) = []
context_name (eb.Queries qs) = []

abbrev pub context_names : List EbUnit → List (List ℕ)
context_names us = flat_map context_name us

abbrev pub unit_carriers : Bool → EbUnit → List (List ℕ)
unit_carriers is_marked (eb.Context c) = if is_marked then carriers c else []
unit_carriers is_marked (eb.Machine m) = []
unit_carriers is_marked (eb.Scope s) = []
unit_carriers is_marked (eb.Queries qs) = []

abbrev pub all_carriers : List EbUnit → List Bool → List (List ℕ)
all_carriers [] bs = []
all_carriers (u ∷ us) [] = []
all_carriers (u ∷ us) (b ∷ bs) = unit_carriers b u ++ all_carriers us bs

abbrev pub machine_variables : Option Machine → List (List ℕ)
machine_variables None = []
machine_variables (Some m) = variables m

abbrev pub all_variables : List EbUnit → List (List ℕ)
all_variables us = machine_variables (machine_of us)

pub record AreFacts (us : List EbUnit) (marks : List Bool) (f : Facts) : Type 0 where
  pub contexts : (name : List ℕ) → has_text f.contexts name ≡ is_among (context_names us) name
  pub carriers : (name : List ℕ) → has_text f.carriers name ≡ is_among (all_carriers us marks) name
  pub statics : AreStatics us marks f.statics
  pub variables : (name : List ℕ) → has_text f.variables name ≡ (is_among (all_variables us) name || false)
  pub places : IsIndex us f.places
