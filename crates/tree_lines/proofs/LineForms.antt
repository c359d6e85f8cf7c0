-- The line that is read of a form.
use Rattle.std.proofs.Common.{◌≡◌, ◌∙◌, refl, sym, ap, subst, ℕ, ◌<◌, List, ◌++◌, length, true, cond, Option, Some, None}
use Rattle.std.specs.Prelude.{codes, decimal, option_map}
use Rattle.std.specs.Str.{bytes_eq}
use Rattle.eb_value.specs.declared.value.Value.{Value}
use Rattle.eb_value.specs.Texts.{values_text}
use Rattle.occ_domains.specs.declared.tests.Test.{Test}
use Rattle.occurrences.specs.declared.place.Place.{Place}
use Rattle.occurrences.specs.declared.place.Place.TheVariants as place
use Rattle.occurrences.specs.declared.place.Occurrence.{Occurrence}
use Rattle.occurrences.specs.declared.place.Rule.{Rule}
use Rattle.occurrences.specs.declared.place.Rule.TheVariants as rule
use Rattle.occurrences.specs.Occurrences.{Occurs}
use Rattle.occurrences.specs.Targets.{target}
use Rattle.tree_lines.specs.declared.line.Line.{Line}
use Rattle.tree_lines.specs.declared.line.Line.TheVariants as line
use Rattle.tree_lines.specs.Words.{located, test_text, occurrence_text}
use Rattle.tree_lines.specs.Written.{Asked, Written, asked_text, written_text, is_small, is_located, is_asked, is_written}
use Rattle.tree_lines.specs.Written as form
use Rattle.tree_lines.specs.Lines.{Reader, place_number, has_small_test, has_small_numbers, IsThere, NamesWhatIsThere, fits_place, HasFittingTest, IsLine, IsOf}
use Rattle.tree_lines.specs.steps.Reading as spec
use Rattle.tree_lines.proofs.NumberLaws.{both_true, natural_printed}
use Rattle.tree_lines.proofs.PlaceLaws.{located_is, located_word}
use Rattle.tree_lines.proofs.WrittenLaws.{written_back, split_parts}
use Rattle.tree_lines.proofs.Apart.{located_apart}
use Rattle.tree_lines.proofs.SplitApart.{split_apart}

abbrev pub occurrence : Place → List Value → Occurrence
occurrence at bound = record { place = at; bound = bound }

-- an occurrence with these values in brackets
pub record IsAt (r : Reader) (at : Place) (inside : List ℕ) (bound : List Value) : Type 0 where
  pub text : values_text r.names bound ≡ inside
  pub there : Occurs r.scope r.problem at bound

-- the line that is written in this form, and fits the problem
abbrev pub IsOfForm : Reader → Written → Line → Type 0
IsOfForm r (form.narrow rule at inside) l = (bound : List Value) × (l ≡ line.Narrow rule (occurrence at bound)) × IsAt r at inside bound × ((to : Place) × (target r.problem rule at ≡ Some to))
IsOfForm r (form.split at inside asked) l = (bound : List Value) × (t : Test) × (l ≡ line.Split (occurrence at bound) t) × IsAt r at inside bound
    × (test_text r.names t ≡ asked_text asked) × (has_small_test t ≡ true) × (fits_place r at t ≡ true)
IsOfForm r (form.clash at inside) l = (bound : List Value) × (l ≡ line.Clash (occurrence at bound)) × IsAt r at inside bound
IsOfForm r (form.eval k) l = (l ≡ line.Eval k) × (k < length r.problem.facts)
IsOfForm r form.left_open l = l ≡ line.Open
IsOfForm r (form.header text) l = l ≡ line.Header
IsOfForm r form.begins l = l ≡ line.Begin
IsOfForm r form.ends l = l ≡ line.End

-- an occurrence's text, and the place and the text in brackets that are read of it
at_read : (r : Reader) (occ : Occurrence) (x : Place × List ℕ) → is_small (place_number occ.place) ≡ true → IsThere r occ → (located occ.place (values_text r.names occ.bound) ≡ located x.0 x.1)
    → is_small (place_number x.0) ≡ true → (occ.place ≡ x.0) × IsAt r x.0 x.1 occ.bound
at_read r occ x small there e other =
    let same = located_apart occ.place x.0 (values_text r.names occ.bound) x.1 small other e in
    (same.0, record { text = same.1; there = subst (λ p. Occurs r.scope r.problem p occ.bound) same.0 there })

small_place : (at : Place) (inside : List ℕ) → is_located at inside ≡ true → is_small (place_number at) ≡ true
small_place (place.Choice k) inside h = (both_true (is_small k) (form.is_none inside) h).0
small_place (place.Definition k) inside h = (both_true (is_small k) (form.is_none inside) h).0
small_place (place.Node k) inside h = (both_true (is_small k) (form.is_word inside) h).0

-- each kind of line
narrow_of : (r : Reader) (u : Rule) (occ : Occurrence) (w : Written) (o : Option (Place × List ℕ)) → spec.located_of (occurrence_text r.names occ.place occ.bound) ≡ o
    → option_map (λ x. form.narrow u x.0 x.1) o ≡ Some w → has_small_numbers (line.Narrow u occ) ≡ true → NamesWhatIsThere r (line.Narrow u occ) → IsOfForm r w (line.Narrow u occ)
narrow_of r u occ w None e same small there = absurd (cc)
narrow_of r u occ w (Some x) e same small there =
    let one : form.narrow u x.0 x.1 ≡ w = cc in
    let i = located_is (occurrence_text r.names occ.place occ.bound) x e in
    let a = at_read r occ x small there.0 i.0 (small_place x.0 x.1 i.1) in
    subst (λ v. IsOfForm r v (line.Narrow u occ)) one
    (occ.bound, ap (λ p. line.Narrow u (occurrence p occ.bound)) a.0, a.1, subst (λ p. (to : Place) × (target r.problem u p ≡ Some to)) a.0 there.1)

clash_of : (r : Reader) (occ : Occurrence) (w : Written) (o : Option (Place × List ℕ)) → spec.located_of (occurrence_text r.names occ.place occ.bound) ≡ o
    → option_map (λ x. form.clash x.0 x.1) o ≡ Some w → has_small_numbers (line.Clash occ) ≡ true → IsThere r occ → IsOfForm r w (line.Clash occ)
clash_of r occ w None e same small there = absurd (cc)
clash_of r occ w (Some x) e same small there =
    let one : form.clash x.0 x.1 ≡ w = cc in
    let i = located_is (occurrence_text r.names occ.place occ.bound) x e in
    let a = at_read r occ x small there i.0 (small_place x.0 x.1 i.1) in
    subst (λ v. IsOfForm r v (line.Clash occ)) one (occ.bound, ap (λ p. line.Clash (occurrence p occ.bound)) a.0, a.1)

split_of : (r : Reader) (occ : Occurrence) (t : Test) (w : Written) → spec.split_of (occurrence_text r.names occ.place occ.bound ++ (codes " " ++ test_text r.names t)) ≡ Some w
    → has_small_numbers (line.Split occ t) ≡ true → IsThere r occ → fits_place r occ.place t ≡ true → IsOfForm r w (line.Split occ t)
split_of r occ t w same small there fits =
    let p = split_parts (occurrence_text r.names occ.place occ.bound ++ (codes " " ++ test_text r.names t)) w same in
    let both = both_true (is_small (place_number occ.place)) (has_small_test t) small in
    let apart = split_apart occ.place (values_text r.names occ.bound) (test_text r.names t) p.asked (located p.at p.inside) both.0 (located_word p.at p.inside p.located) p.small (sym p.whole) in
    let a = at_read r occ (p.at, p.inside) both.0 there (sym apart.0) (small_place p.at p.inside p.located) in
    subst (λ v. IsOfForm r v (line.Split occ t)) (sym p.form)
    (occ.bound, t, ap (λ q. line.Split (occurrence q occ.bound) t) a.0, a.1, sym apart.1, both.1, subst (λ q. fits_place r q t ≡ true) a.0 fits)

eval_of : (r : Reader) (k : ℕ) (w : Written) (o : Option ℕ) → spec.natural_of (decimal k) ≡ o → option_map form.eval o ≡ Some w → is_small k ≡ true → k < length r.problem.facts → IsOfForm r w (line.Eval k)
eval_of r k w None e same small there = absurd (cc)
eval_of r k w (Some j) e same small there =
    let one : form.eval j ≡ w = cc in
    let number : j ≡ k = (let both : Some j ≡ Some k = sym e ∙ natural_printed k small in cc) in
    subst (λ v. IsOfForm r v (line.Eval k)) one (ap line.Eval (sym number), subst (λ n. n < length r.problem.facts) (sym number) there)

abbrev word_else : List ℕ → Option Written
word_else text = cond (bytes_eq text (codes "tree 1")) (Some form.begins) (cond (bytes_eq text (codes "end")) (Some form.ends) (cond (bytes_eq text (codes "o")) (Some form.left_open) None))

-- The form of a line's text is that of the line.
pub of_form : (r : Reader) (text : List ℕ) (w : Written) (l : Line) → IsOf text w → IsLine r.names text l → has_small_numbers l ≡ true → NamesWhatIsThere r l → HasFittingTest r l → IsOfForm r w l
of_form r text w (line.Narrow rule.Up occ) of own small there fits =
    narrow_of r rule.Up occ w (spec.located_of (occurrence_text r.names occ.place occ.bound)) refl (sym (ap spec.written_of own) ∙ written_back text w of) small there
of_form r text w (line.Narrow rule.Down occ) of own small there fits =
    narrow_of r rule.Down occ w (spec.located_of (occurrence_text r.names occ.place occ.bound)) refl (sym (ap spec.written_of own) ∙ written_back text w of) small there
of_form r text w (line.Narrow rule.Refer occ) of own small there fits =
    narrow_of r rule.Refer occ w (spec.located_of (occurrence_text r.names occ.place occ.bound)) refl (sym (ap spec.written_of own) ∙ written_back text w of) small there
of_form r text w (line.Split occ t) of own small there fits = split_of r occ t w (sym (ap spec.written_of own) ∙ written_back text w of) small there fits
of_form r text w (line.Clash occ) of own small there fits =
    clash_of r occ w (spec.located_of (occurrence_text r.names occ.place occ.bound)) refl (sym (ap spec.written_of own) ∙ written_back text w of) small there
of_form r text w (line.Eval k) of own small there fits = eval_of r k w (spec.natural_of (decimal k)) refl (sym (ap spec.written_of own) ∙ written_back text w of) small there
of_form r text w line.Open of own small there fits =
    let one : Some form.left_open ≡ Some w = sym (ap spec.written_of own) ∙ written_back text w of in
    let same : form.left_open ≡ w = cc in subst (λ v. IsOfForm r v line.Open) same refl
of_form r text w line.Header of own small there fits =
    let one : Some (form.header text) ≡ Some w = sym (ap (λ b. spec.or_written (cond b (Some (form.header text)) (word_else text)) (spec.by_prefix text)) own) ∙ written_back text w of in
    let same : form.header text ≡ w = cc in subst (λ v. IsOfForm r v line.Header) same refl
of_form r text w line.Begin of own small there fits =
    let one : Some form.begins ≡ Some w = sym (ap spec.written_of own) ∙ written_back text w of in
    let same : form.begins ≡ w = cc in subst (λ v. IsOfForm r v line.Begin) same refl
of_form r text w line.End of own small there fits =
    let one : Some form.ends ≡ Some w = sym (ap spec.written_of own) ∙ written_back text w of in
    let same : form.ends ≡ w = cc in subst (λ v. IsOfForm r v line.End) same refl
