-- Where no test that is written so fits a type.
use Rattle.std.proofs.Common.{◌≡◌, ◌∙◌, refl, sym, ap, subst, ℕ, ℤ, List, Bool, true, false, ◌&&◌, cond, Option, Some, None}
use Rattle.eb_value.specs.declared.scope.Scope.{Scope}
use Rattle.eb_value.specs.declared.types.EbType.{EbType}
use Rattle.eb_value.specs.declared.value.Value.{Value}
use Rattle.eb_value.specs.Texts.{value_text}
use Rattle.eb_value.specs.Typing.{has_type}
use Rattle.eb_term.specs.declared.operators.Side.{Side}
use Rattle.eb_term.specs.Typed.{part_type_at}
use Rattle.occ_domains.specs.declared.tests.Test.{Test}
use Rattle.tree_lines.specs.Words.{test_text}
use Rattle.tree_lines.specs.Written.{Asked, asked_text}
use Rattle.tree_lines.specs.Written as form
use Rattle.tree_lines.specs.Lines.{fits_type, is_integer_type, is_plain_type, is_plain_value}
use Rattle.tree_lines.specs.steps.Fitting.{plain}
use Rattle.tree_lines.proofs.TestForms.{asked_as}

-- no test that is written so fits
abbrev pub FitsNone : Scope → List (List ℕ) → Option EbType → Asked → Type 0
FitsNone scope names ty asked = (t : Test) → test_text names t ≡ asked_text asked → fits_type scope ty t ≡ false

-- where no integers stand at the path
pub number_fits_none : (scope : Scope) (names : List (List ℕ)) (ty : EbType) (path : List Side) (n : ℤ) → is_integer_type (part_type_at path ty) ≡ false
    → FitsNone scope names (Some ty) (form.at_most path n)
number_fits_none scope names ty path n none = λ t e.
    let a = asked_as names t (form.at_most path n) e in
    ap (fits_type scope (Some ty)) a.1 ∙ none

-- where no value of the type at the path has this text
pub value_fits_none : (scope : Scope) (names : List (List ℕ)) (ty : EbType) (path : List Side) (word : List ℕ)
    → ((v : Value) → value_text names v ≡ word → is_plain_value scope v (part_type_at path ty) ≡ false) → FitsNone scope names (Some ty) (form.is path word)
value_fits_none scope names ty path word none = λ t e.
    let a = asked_as names t (form.is path word) e in
    ap (fits_type scope (Some ty)) a.1 ∙ none a.0 a.2

not_plain_by : (scope : Scope) (t : EbType) (v : Value) (q : Bool) → is_plain_type t ≡ q → cond q (Some t) None ≡ None → is_plain_type t && has_type scope v t ≡ false
not_plain_by scope t v true same e = absurd (cc)
not_plain_by scope t v false same e = rw same refl

pub not_plain : (scope : Scope) (o : Option EbType) (v : Value) → plain o ≡ None → is_plain_value scope v o ≡ false
not_plain scope None v e = refl
not_plain scope (Some t) v e = not_plain_by scope t v (is_plain_type t) refl e

plain_by : (u t : EbType) (q : Bool) → is_plain_type u ≡ q → cond q (Some u) None ≡ Some t → (Some u ≡ Some t) × (is_plain_type t ≡ true)
plain_by u t true same e = (e, let one : u ≡ t = cc in subst (λ z. is_plain_type z ≡ true) one same)
plain_by u t false same e = absurd (cc)

-- the type is plain, and that at the path
pub plain_is : (o : Option EbType) (t : EbType) → plain o ≡ Some t → (o ≡ Some t) × (is_plain_type t ≡ true)
plain_is None t e = absurd (cc)
plain_is (Some u) t e = plain_by u t (is_plain_type u) refl e

untyped_by : (scope : Scope) (t : EbType) (v : Value) (q b : Bool) → has_type scope v t ≡ b → (has_type scope v t ≡ true → ⊥) → q && b ≡ false
untyped_by scope t v q true same none = absurd (none same)
untyped_by scope t v true false same none = refl
untyped_by scope t v false false same none = refl

pub untyped : (scope : Scope) (o : Option EbType) (t : EbType) (v : Value) → o ≡ Some t → (has_type scope v t ≡ true → ⊥) → is_plain_value scope v o ≡ false
untyped scope o t v e none = subst (λ z. is_plain_value scope v z ≡ false) (sym e) (untyped_by scope t v (is_plain_type t) (has_type scope v t) refl none)
