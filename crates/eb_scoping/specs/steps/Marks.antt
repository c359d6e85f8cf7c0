-- Marks of the contexts of a text.
use Rattle.std.specs.Prelude.{ℕ, ◌≡◌, ◌⊎◌, Bool, true, false, not, List, None, length, get_or}
use Rattle.std.specs.Borrow.{Bor}
use Rattle.std.specs.BTreeSet.{BTreeSet}
use Rattle.eb_syntax.specs.declared.units.EbUnit.{EbUnit}
use Rattle.eb_syntax.specs.declared.units.EbUnit.TheVariants as eb
use Rattle.eb_scoping.specs.Models.{machine_of, Reaches}
use Rattle.eb_scoping.specs.Groups.{IsContextAt}
use Rattle.eb_scoping.specs.Sets.{has_text}

abbrev pub IsMarkedAt : List Bool → ℕ → Type 0
IsMarkedAt marks i = get_or marks i false ≡ true

-- a mark for each unit: at a context true where the model has it
pub record AreContextsMarked (us : List EbUnit) (marks : List Bool) : Type 0 where
  pub size : length marks ≡ length us
  pub sound : (i : ℕ) (name : List ℕ) → IsContextAt us i name → IsMarkedAt marks i → (machine_of us ≡ None) ⊎ Reaches us name
  pub complete : (i : ℕ) (name : List ℕ) → IsContextAt us i name → (machine_of us ≡ None) ⊎ Reaches us name → IsMarkedAt marks i

-- the mark of a unit, from what is known of contexts
abbrev pub mark_of : EbUnit → Bool → Bool → Bool
mark_of (eb.Context c) is_context_marked is_behind_machine = is_context_marked
mark_of (eb.Machine m) is_context_marked is_behind_machine = not is_behind_machine
mark_of (eb.Scope s) is_context_marked is_behind_machine = false
mark_of (eb.Queries qs) is_context_marked is_behind_machine = false

-- whether the unit is a context whose name the set has
abbrev pub is_named_in : BTreeSet (Bor (List ℕ)) → EbUnit → Bool
is_named_in names (eb.Context c) = has_text names c.name.name
is_named_in names (eb.Machine m) = false
is_named_in names (eb.Scope s) = false
is_named_in names (eb.Queries qs) = false
