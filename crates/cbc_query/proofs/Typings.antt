-- The types of a list one by one, and how many values they have.
use Rattle.std.proofs.Common.{◌≡◌, ◌∙◌, sym, ap, subst, ℕ, ◌+◌, ◌-◌, ◌^◌, ◌<◌, min, nat_lt, true, List, [], ◌∷◌, ◌++◌, length, take, arith}
use Rattle.std.proofs.lemmas.Bool.Decides.{nat_tests}
use Rattle.std.proofs.lemmas.List.{take_more}
use Rattle.std.proofs.lemmas.Option.{unwrap_or-slice_get}
use Rattle.eb_value.specs.declared.scope.Scope.{Scope}
use Rattle.eb_value.specs.declared.types.EbType.{EbType}
use Rattle.eb_value.specs.declared.value.Value.{Value}
use Rattle.eb_value.specs.Types.{boolean}
use Rattle.eb_value.specs.Values.{set, is_ascending}
use Rattle.eb_value.specs.Canonical.{IsCanonical, AreCanonical, family}
use Rattle.eb_value.specs.Counts.{cardinal}
use Rattle.eb_value.specs.Scopes.{vals}
use Rattle.cbc_query.specs.Settings.{type_in}
use Rattle.cbc_query.proofs.Counting.{length-vals}

pub type_next : (types : List EbType) (k : ℕ) → k < length types → take (k + 1) types ≡ take k types ++ type_in types k ∷ []
type_next types k h = take_more types k boolean h ∙ ap (λ t. take k types ++ t ∷ []) (sym (unwrap_or-slice_get types k boolean))

above : (n k : ℕ) → n ≡ min k (2 ^ 64 - 1) → nat_lt 4096 n ≡ nat_lt 4096 k
above n k e = grind (arith, nat_tests)

pub many_is : (scope : Scope) (t : EbType) (n : ℕ) → n ≡ min (length (vals scope t)) (2 ^ 64 - 1) → nat_lt 4096 n ≡ nat_lt 4096 (cardinal scope t)
many_is scope t n e = above n (cardinal scope t) (e ∙ ap (λ k. min k (2 ^ 64 - 1)) (length-vals scope t))

pub canonical_set : (v : Value) (ms : List Value) (scope : Scope) (t : EbType) → v ≡ set ms → ms ≡ vals scope t → is_ascending (vals scope t) ≡ true → AreCanonical (vals scope t) → IsCanonical v
canonical_set v ms scope t e m a h = subst IsCanonical (sym (e ∙ ap set m)) (family a h)
