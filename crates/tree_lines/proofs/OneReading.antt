-- A text has one reading.
use Rattle.std.proofs.Common.{◌≡◌, ◌∙◌, refl, sym, ap, ap₂, subst, arith, ℕ, ℤ, ◌<◌, ◌≤◌, List, [], ◌∷◌, length, true, false, Option, Some, None, Result, Ok, Err}
use Rattle.std.specs.Fmt.{signed_decimal}
use Rattle.eb_value.specs.declared.types.EbType.{EbType}
use Rattle.eb_value.specs.declared.value.Value.{Value}
use Rattle.eb_value.specs.Texts.{value_text, values_text}
use Rattle.eb_value.specs.Typing.{in_range, has_type, AreOfTypes}
use Rattle.eb_term.specs.declared.operators.Side.{Side}
use Rattle.eb_term.specs.declared.problem.Problem.{Problem}
use Rattle.eb_term.specs.Typed.{part_type_at}
use Rattle.occ_domains.specs.declared.tests.Test.{Test}
use Rattle.occ_domains.specs.declared.tests.Test.TheVariants as test
use Rattle.occurrences.specs.declared.place.Place.{Place}
use Rattle.occurrences.specs.declared.place.Place.TheVariants as place
use Rattle.occurrences.specs.Occurrences.{StandsInside, Occurs}
use Rattle.occurrences.specs.Typed.{type_there}
use Rattle.tree_lines.specs.declared.line.Line.{Line}
use Rattle.tree_lines.specs.declared.line.Line.TheVariants as line
use Rattle.tree_lines.specs.declared.line.LineFault.{LineFault}
use Rattle.tree_lines.specs.declared.line.LineFault.TheVariants.{BadLine, NoSuchOccurrence, BadTest, Memory}
use Rattle.tree_lines.specs.Written.{Asked, Written, asked_text}
use Rattle.tree_lines.specs.Written as form
use Rattle.tree_lines.specs.Lines.{Reader, has_small_test, is_plain_type, is_plain_value, fits_type, NamesNothing, HasNoFittingTest, IsOf, IsReading}
use Rattle.tree_lines.specs.steps.Reading as spec
use Rattle.tree_lines.proofs.NumberLaws.{both_true, integer_printed}
use Rattle.tree_lines.proofs.OccursLaws.{choice_is, definition_is, node_is}
use Rattle.tree_lines.proofs.TestForms.{AskedAs, asked_as}
use Rattle.tree_lines.proofs.WrittenLaws.{one_form}
use Rattle.tree_lines.proofs.LineForms.{IsAt, IsOfForm, occurrence, of_form}

-- values of the same types are told by their texts
abbrev pub AreTold : Reader → Type 0
AreTold r = (types : List EbType) (vs ws : List Value) → AreOfTypes r.scope vs types → AreOfTypes r.scope ws types → values_text r.names vs ≡ values_text r.names ws → vs ≡ ws

-- a node stands inside one row of binders
abbrev pub HasOneRow : Problem → Type 0
HasOneRow p = (k : ℕ) (a b : List EbType) → StandsInside p k a → StandsInside p k b → a ≡ b

same_values : (r : Reader) → HasOneRow r.problem → AreTold r → (at : Place) (bound others : List Value) → Occurs r.scope r.problem at bound → Occurs r.scope r.problem at others
    → values_text r.names bound ≡ values_text r.names others → bound ≡ others
same_values r one told (place.Choice k) bound others a b e = (choice_is r.scope r.problem k bound a).1 ∙ sym (choice_is r.scope r.problem k others b).1
same_values r one told (place.Definition k) bound others a b e = (definition_is r.scope r.problem k bound a).1 ∙ sym (definition_is r.scope r.problem k others b).1
same_values r one told (place.Node k) bound others a b e =
    let x = node_is r.scope r.problem k bound a in
    let y = node_is r.scope r.problem k others b in
    told x.0 bound others x.2 (subst (AreOfTypes r.scope others) (one k y.0 x.0 y.1 x.1) y.2) e

same_bound : (r : Reader) → HasOneRow r.problem → AreTold r → (at : Place) (inside : List ℕ) (bound others : List Value) → IsAt r at inside bound → IsAt r at inside others → bound ≡ others
same_bound r one told at inside bound others a b = same_values r one told at bound others a.there b.there (a.text ∙ sym b.text)

-- ---- tests

same_integer : (n m : ℤ) → in_range n ≡ true → in_range m ≡ true → signed_decimal n ≡ signed_decimal m → n ≡ m
same_integer n m hn hm e = let same : Some n ≡ Some m = sym (integer_printed n hn) ∙ ap spec.integer_of e ∙ integer_printed m hm in cc

same_plain : (r : Reader) → AreTold r → (o : Option EbType) (v w : Value) → is_plain_value r.scope v o ≡ true → is_plain_value r.scope w o ≡ true → value_text r.names v ≡ value_text r.names w → v ≡ w
same_plain r told None v w hv hw e = absurd (cc)
same_plain r told (Some t) v w hv hw e =
    let one : v ∷ [] ≡ w ∷ [] = told (t ∷ []) (v ∷ []) (w ∷ []) ((both_true (is_plain_type t) (has_type r.scope v t) hv).1, tt) ((both_true (is_plain_type t) (has_type r.scope w t) hw).1, tt) e in
    cc

same_is : (r : Reader) → AreTold r → (ty : Option EbType) (path : List Side) (v w : Value) → fits_type r.scope ty (test.Is path v) ≡ true → fits_type r.scope ty (test.Is path w) ≡ true
    → value_text r.names v ≡ value_text r.names w → v ≡ w
same_is r told None path v w hv hw e = absurd (cc)
same_is r told (Some t) path v w hv hw e = same_plain r told (part_type_at path t) v w hv hw e

same_asked : (r : Reader) → AreTold r → (ty : Option EbType) (asked : Asked) (t u : Test) → AskedAs r.names asked t → AskedAs r.names asked u → has_small_test t ≡ true → has_small_test u ≡ true
    → fits_type r.scope ty t ≡ true → fits_type r.scope ty u ≡ true → t ≡ u
same_asked r told ty (form.at_most q m) t u a b st su ft fu =
    a.1 ∙ ap (test.AtMost q) (same_integer a.0 b.0 (subst (λ x. has_small_test x ≡ true) a.1 st) (subst (λ x. has_small_test x ≡ true) b.1 su) (a.2 ∙ sym b.2)) ∙ sym b.1
same_asked r told ty (form.is q w) t u a b st su ft fu =
    a.1 ∙ ap (test.Is q) (same_is r told ty q a.0 b.0 (subst (λ x. fits_type r.scope ty x ≡ true) a.1 ft) (subst (λ x. fits_type r.scope ty x ≡ true) b.1 fu) (a.2 ∙ sym b.2)) ∙ sym b.1
same_asked r told ty (form.has q w) t u a b st su ft fu = absurd a
same_asked r told ty (form.card q m) t u a b st su ft fu = absurd a
same_asked r told ty form.says_defined t u a b st su ft fu = a ∙ sym b
same_asked r told ty form.says_true t u a b st su ft fu = a ∙ sym b
same_asked r told ty form.says_false t u a b st su ft fu = a ∙ sym b
same_asked r told ty form.says_undefined t u a b st su ft fu = a ∙ sym b

-- ---- lines

one_line : (r : Reader) → HasOneRow r.problem → AreTold r → (w : Written) (l m : Line) → IsOfForm r w l → IsOfForm r w m → l ≡ m
one_line r one told (form.narrow u at inside) l m a b = a.1 ∙ ap (λ x. line.Narrow u (occurrence at x)) (same_bound r one told at inside a.0 b.0 a.2 b.2) ∙ sym b.1
one_line r one told (form.split at inside asked) l m a b =
    let bound = same_bound r one told at inside a.0 b.0 a.3 b.3 in
    let same : a.1 ≡ b.1 = same_asked r told (type_there r.problem at) asked a.1 b.1 (asked_as r.names a.1 asked a.4) (asked_as r.names b.1 asked b.4) a.5 b.5 a.6 b.6 in
    a.2 ∙ ap₂ (λ x y. line.Split (occurrence at x) y) bound same ∙ sym b.2
one_line r one told (form.clash at inside) l m a b = a.1 ∙ ap (λ x. line.Clash (occurrence at x)) (same_bound r one told at inside a.0 b.0 a.2 b.2) ∙ sym b.1
one_line r one told (form.eval k) l m a b = a.0 ∙ sym b.0
one_line r one told form.left_open l m a b = a ∙ sym b
one_line r one told (form.header text) l m a b = a ∙ sym b
one_line r one told form.begins l m a b = a ∙ sym b
one_line r one told form.ends l m a b = a ∙ sym b

-- what is named is there
not_nothing : (r : Reader) (w : Written) (l : Line) → IsOfForm r w l → NamesNothing r w → ⊥
not_nothing r (form.narrow u at inside) l a none = let no : None ≡ Some a.3.0 = sym (none a.0 a.2.there a.2.text) ∙ a.3.1 in absurd (cc)
not_nothing r (form.split at inside asked) l a none = none a.0 a.3.there a.3.text
not_nothing r (form.clash at inside) l a none = none a.0 a.2.there a.2.text
not_nothing r (form.eval k) l a none = absurd (let h : k < length r.problem.facts = a.1 in let g : length r.problem.facts ≤ k = none in omega (arith, h, g))
not_nothing r form.left_open l a none = none
not_nothing r (form.header text) l a none = none
not_nothing r form.begins l a none = none
not_nothing r form.ends l a none = none

-- the test fits
not_unfitting : (r : Reader) (w : Written) (l : Line) → IsOfForm r w l → HasNoFittingTest r w → ⊥
not_unfitting r (form.narrow u at inside) l a none = none
not_unfitting r (form.split at inside asked) l a none = let no : true ≡ false = sym a.6 ∙ none.1 a.1 a.4 in absurd (cc)
not_unfitting r (form.clash at inside) l a none = none
not_unfitting r (form.eval k) l a none = none
not_unfitting r form.left_open l a none = none
not_unfitting r (form.header text) l a none = none
not_unfitting r form.begins l a none = none
not_unfitting r form.ends l a none = none

-- where an occurrence is there, it isn't nowhere
not_both : (r : Reader) (w : Written) → NamesNothing r w → HasNoFittingTest r w → ⊥
not_both r (form.narrow u at inside) none unfitting = unfitting
not_both r (form.split at inside asked) none unfitting = none unfitting.0.0 unfitting.0.1 unfitting.0.2
not_both r (form.clash at inside) none unfitting = unfitting
not_both r (form.eval k) none unfitting = unfitting
not_both r form.left_open none unfitting = unfitting
not_both r (form.header text) none unfitting = unfitting
not_both r form.begins none unfitting = unfitting
not_both r form.ends none unfitting = unfitting

-- the same at another form of the text
at_form : (P : Written → Type 0) (text : List ℕ) (v w : Written) → IsOf text v → IsOf text w → P v → P w
at_form P text v w a b p = subst P (one_form text v w a b) p

line_form : (r : Reader) (text : List ℕ) (l : Line) (w : Written) → IsReading r text (Ok l) → IsOf text w → IsOfForm r w l
line_form r text l w a of = of_form r text w l of a.1 a.2 a.3 a.4

pub one_reading : (r : Reader) → HasOneRow r.problem → AreTold r → (text : List ℕ) (a b : Result Line LineFault) → (a ≡ Err Memory → ⊥) → (b ≡ Err Memory → ⊥)
    → IsReading r text a → IsReading r text b → a ≡ b
one_reading r one told text (Ok l) (Ok m) na nb a b = ap Ok (one_line r one told a.0.0 l m (line_form r text l a.0.0 a a.0.1) (line_form r text m a.0.0 b a.0.1))
one_reading r one told text (Ok l) (Err BadLine) na nb a b = absurd (b a.0.0 a.0.1)
one_reading r one told text (Ok l) (Err NoSuchOccurrence) na nb a b = absurd (not_nothing r b.0 l (line_form r text l b.0 a b.1) b.2)
one_reading r one told text (Ok l) (Err BadTest) na nb a b = absurd (not_unfitting r b.0 l (line_form r text l b.0 a b.1) b.2)
one_reading r one told text (Ok l) (Err Memory) na nb a b = absurd (nb refl)
one_reading r one told text (Err BadLine) (Ok m) na nb a b = absurd (a b.0.0 b.0.1)
one_reading r one told text (Err BadLine) (Err BadLine) na nb a b = refl
one_reading r one told text (Err BadLine) (Err NoSuchOccurrence) na nb a b = absurd (a b.0 b.1)
one_reading r one told text (Err BadLine) (Err BadTest) na nb a b = absurd (a b.0 b.1)
one_reading r one told text (Err BadLine) (Err Memory) na nb a b = absurd (nb refl)
one_reading r one told text (Err NoSuchOccurrence) (Ok m) na nb a b = absurd (not_nothing r a.0 m (line_form r text m a.0 b a.1) a.2)
one_reading r one told text (Err NoSuchOccurrence) (Err BadLine) na nb a b = absurd (b a.0 a.1)
one_reading r one told text (Err NoSuchOccurrence) (Err NoSuchOccurrence) na nb a b = refl
one_reading r one told text (Err NoSuchOccurrence) (Err BadTest) na nb a b = absurd (not_both r b.0 (at_form (NamesNothing r) text a.0 b.0 a.1 b.1 a.2) b.2)
one_reading r one told text (Err NoSuchOccurrence) (Err Memory) na nb a b = absurd (nb refl)
one_reading r one told text (Err BadTest) (Ok m) na nb a b = absurd (not_unfitting r a.0 m (line_form r text m a.0 b a.1) a.2)
one_reading r one told text (Err BadTest) (Err BadLine) na nb a b = absurd (b a.0 a.1)
one_reading r one told text (Err BadTest) (Err NoSuchOccurrence) na nb a b = absurd (not_both r a.0 (at_form (NamesNothing r) text b.0 a.0 b.1 a.1 b.2) a.2)
one_reading r one told text (Err BadTest) (Err BadTest) na nb a b = refl
one_reading r one told text (Err BadTest) (Err Memory) na nb a b = absurd (nb refl)
one_reading r one told text (Err Memory) b na nb x y = absurd (na refl)
