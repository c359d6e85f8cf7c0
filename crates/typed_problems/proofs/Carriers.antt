-- The set of all atoms of a carrier set has the type of sets of them.
use Rattle.std.proofs.Common.{◌≡◌, ◌∙◌, ◌==◌, ◌≤◌, ℕ, zero, suc, ◌+◌, true, ◌&&◌, List, refl, ap, ap₂, arith, rules}
use Rattle.std.specs.Prelude.{nat_le}
use Rattle.std.proofs.lemmas.Bool.Decides.{nat_tests}
use Rattle.eb_value.specs.declared.scope.Scope.{Scope}
use Rattle.eb_value.specs.declared.types.EbType.{EbType}
use Rattle.eb_value.specs.declared.types.EbType as type_module
use Rattle.eb_value.specs.declared.value.Value.{Value}
use Rattle.eb_value.specs.declared.value.Value as value_module
use Rattle.eb_value.specs.Types.{carrier, power}
use Rattle.eb_value.specs.Scopes.{vals, atoms_from}
use Rattle.eb_value.specs.Typing.{has_type, have_type, size_of}
use Rattle.eb_value.specs.Values.{atom, set, is_ascending}
use Rattle.typed_problems.proofs.Hypotheses.{Laws}

has_type-set : (scope : Scope) (xs : List Value) (t : EbType) → has_type scope (set xs) (power t) ≡ (is_ascending xs && have_type scope xs t)
has_type-set scope xs t = search (rules, value_module.the_lemmas, type_module.the_lemmas)

has_type-atom : (scope : Scope) (s k : ℕ) → has_type scope (atom s k) (carrier s) ≡ ((s == s) && (nat_le 1 k && nat_le k (size_of scope.sizes s)))
has_type-atom scope s k = search (rules, value_module.the_lemmas, type_module.the_lemmas)

vals-carrier : (scope : Scope) (s : ℕ) → vals scope (carrier s) ≡ atoms_from s 1 (size_of scope.sizes s)
vals-carrier scope s = search (rules, type_module.the_lemmas)

atom_tests : (s k n : ℕ) → 1 ≤ k → k ≤ n → ((s == s) && (nat_le 1 k && nat_le k n)) ≡ true
atom_tests s k n low high = grind (arith, nat_tests)

atoms_typed : (scope : Scope) (s k n : ℕ) → 1 ≤ k → k + n ≤ size_of scope.sizes s + 1 → have_type scope (atoms_from s k n) (carrier s) ≡ true
atoms_typed scope s k zero low high = refl
atoms_typed scope s k (suc n) low high = ap₂ (λ a b. a && b)
    (has_type-atom scope s k ∙ atom_tests s k (size_of scope.sizes s) low (omega arith))
    (atoms_typed scope s (k + 1) n (omega arith) (omega arith))

pub all_atoms : Laws → (scope : Scope) (s : ℕ) → has_type scope (set (vals scope (carrier s))) (power (carrier s)) ≡ true
all_atoms laws scope s = has_type-set scope (vals scope (carrier s)) (carrier s)
    ∙ ap₂ (λ a b. a && b) (laws.ascending scope (carrier s))
    (ap (λ vs. have_type scope vs (carrier s)) (vals-carrier scope s) ∙ atoms_typed scope s 1 (size_of scope.sizes s) (omega arith) (omega arith))
