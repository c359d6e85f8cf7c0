-- A text has the form that is read from it, and no other.
use Rattle.std.proofs.Common.{◌≡◌, ◌∙◌, refl, sym, ap, ap₂, subst, ℕ, List, ◌++◌, take, drop, Bool, true, false, cond, Option, Some, None}
use Rattle.std.specs.Prelude.{codes, option_and_then, option_map}
use Rattle.std.specs.Str.{bytes_eq}
use Rattle.std.proofs.lemmas.List.{take-append-drop}
use Rattle.occurrences.specs.declared.place.Place.{Place}
use Rattle.occurrences.specs.declared.place.Rule.{Rule}
use Rattle.occurrences.specs.declared.place.Rule.TheVariants as rule
use Rattle.tree_lines.specs.Words.{rule_text, located, is_header}
use Rattle.tree_lines.specs.Written.{Asked, Written, asked_text, written_text, is_small, is_located, is_asked, is_written}
use Rattle.tree_lines.specs.Written as form
use Rattle.tree_lines.specs.Lines.{IsOf}
use Rattle.tree_lines.specs.steps.Reading as spec
use Rattle.tree_lines.proofs.NumberLaws.{both_true, same_bytes, natural_is, natural_printed}
use Rattle.tree_lines.proofs.FormParts.{stripped_is, word_front, word_behind}
use Rattle.tree_lines.proofs.PlaceLaws.{located_is, located_back, located_word}
use Rattle.tree_lines.proofs.AskedLaws.{test_is, test_back}

-- ---- from the text

narrowed_by : (r : Rule) (text : List ℕ) (w : Written) (o : Option (Place × List ℕ)) → spec.located_of text ≡ o → option_map (λ x. form.narrow r x.0 x.1) o ≡ Some w → IsOf (rule_text r ++ text) w
narrowed_by r text w None e same = absurd (cc)
narrowed_by r text w (Some x) e same =
    let one : form.narrow r x.0 x.1 ≡ w = cc in
    let i = located_is text x e in
    subst (IsOf (rule_text r ++ text)) one (ap (λ y. rule_text r ++ y) i.0, i.1)

clash_by : (text : List ℕ) (w : Written) (o : Option (Place × List ℕ)) → spec.located_of text ≡ o → option_map (λ x. form.clash x.0 x.1) o ≡ Some w → IsOf (codes "x " ++ text) w
clash_by text w None e same = absurd (cc)
clash_by text w (Some x) e same =
    let one : form.clash x.0 x.1 ≡ w = cc in
    let i = located_is text x e in
    subst (IsOf (codes "x " ++ text)) one (ap (λ y. codes "x " ++ y) i.0, i.1)

eval_by : (text : List ℕ) (w : Written) (o : Option ℕ) → spec.natural_of text ≡ o → option_map form.eval o ≡ Some w → IsOf (codes "e " ++ text) w
eval_by text w None e same = absurd (cc)
eval_by text w (Some k) e same =
    let one : form.eval k ≡ w = cc in
    let i = natural_is text k e in
    subst (IsOf (codes "e " ++ text)) one (ap (λ y. codes "e " ++ y) i.1, i.0)

-- a place with what stands in brackets, and a test behind it
pub record IsSplit (text : List ℕ) (w : Written) : Type 0 where
  pub at : Place
  pub inside : List ℕ
  pub asked : Asked
  pub form : w ≡ form.split at inside asked
  pub whole : text ≡ located at inside ++ (codes " " ++ asked_text asked)
  pub located : is_located at inside ≡ true
  pub small : is_asked asked ≡ true

split_by : (text : List ℕ) (w : Written) (l : Option (Place × List ℕ)) (b : Option (List ℕ)) (a : Option Asked) → spec.located_of (take (spec.word_length text) text) ≡ l
    → spec.stripped (codes " ") (drop (spec.word_length text) text) ≡ b → option_and_then spec.test_of b ≡ a → spec.split_with l a ≡ Some w → IsSplit text w
split_by text w None b a el eb ea same = absurd (cc)
split_by text w (Some x) b None el eb ea same = absurd (cc)
split_by text w (Some x) None (Some asked) el eb ea same = absurd (cc)
split_by text w (Some x) (Some rest) (Some asked) el eb ea same =
    let i = located_is (take (spec.word_length text) text) x el in
    let t = test_is rest asked ea in
    let behind : drop (spec.word_length text) text ≡ codes " " ++ asked_text asked = stripped_is (codes " ") (drop (spec.word_length text) text) rest eb ∙ ap (λ y. codes " " ++ y) t.0 in
    record {
      at = x.0;
      inside = x.1;
      asked = asked;
      form = (let one : w ≡ form.split x.0 x.1 asked = cc in one);
      whole = sym (take-append-drop (spec.word_length text) text) ∙ ap₂ (λ y z. y ++ z) i.0 behind;
      located = i.1;
      small = t.1;
    }

pub split_parts : (text : List ℕ) (w : Written) → spec.split_of text ≡ Some w → IsSplit text w
split_parts text w same = split_by text w (spec.located_of (take (spec.word_length text) text)) (spec.stripped (codes " ") (drop (spec.word_length text) text))
    (option_and_then spec.test_of (spec.stripped (codes " ") (drop (spec.word_length text) text))) refl refl refl same

split_is : (text : List ℕ) (w : Written) → spec.split_of text ≡ Some w → IsOf (codes "s " ++ text) w
split_is text w same =
    let p = split_parts text w same in
    subst (IsOf (codes "s " ++ text)) (sym p.form) (ap (λ y. codes "s " ++ y) p.whole, rw (p.located, p.small) refl)

narrow_by : (text : List ℕ) (w : Written) (u d r : Option (List ℕ)) → spec.stripped (codes "u ") text ≡ u → spec.stripped (codes "d ") text ≡ d → spec.stripped (codes "r ") text ≡ r
    → spec.by_rest u (spec.narrowed_of rule.Up) (spec.by_rest d (spec.narrowed_of rule.Down) (spec.by_rest r (spec.narrowed_of rule.Refer) None)) ≡ Some w → IsOf text w
narrow_by text w (Some rest) d r eu ed er same = subst (λ t. IsOf t w) (sym (stripped_is (codes "u ") text rest eu)) (narrowed_by rule.Up rest w (spec.located_of rest) refl same)
narrow_by text w None (Some rest) r eu ed er same = subst (λ t. IsOf t w) (sym (stripped_is (codes "d ") text rest ed)) (narrowed_by rule.Down rest w (spec.located_of rest) refl same)
narrow_by text w None None (Some rest) eu ed er same = subst (λ t. IsOf t w) (sym (stripped_is (codes "r ") text rest er)) (narrowed_by rule.Refer rest w (spec.located_of rest) refl same)
narrow_by text w None None None eu ed er same = absurd (cc)

prefix_by : (text : List ℕ) (w : Written) (s x e : Option (List ℕ)) → spec.stripped (codes "s ") text ≡ s → spec.stripped (codes "x ") text ≡ x → spec.stripped (codes "e ") text ≡ e
    → spec.by_rest s spec.split_of (spec.by_rest x spec.clash_of (spec.by_rest e spec.eval_of (spec.narrow_of text))) ≡ Some w → IsOf text w
prefix_by text w (Some rest) x e es ex ee same = subst (λ t. IsOf t w) (sym (stripped_is (codes "s ") text rest es)) (split_is rest w same)
prefix_by text w None (Some rest) e es ex ee same = subst (λ t. IsOf t w) (sym (stripped_is (codes "x ") text rest ex)) (clash_by rest w (spec.located_of rest) refl same)
prefix_by text w None None (Some rest) es ex ee same = subst (λ t. IsOf t w) (sym (stripped_is (codes "e ") text rest ee)) (eval_by rest w (spec.natural_of rest) refl same)
prefix_by text w None None None es ex ee same = narrow_by text w (spec.stripped (codes "u ") text) (spec.stripped (codes "d ") text) (spec.stripped (codes "r ") text) refl refl refl same

word_by : (text : List ℕ) (w : Written) (a b c d : Bool) → is_header text ≡ a → bytes_eq text (codes "tree 1") ≡ b → bytes_eq text (codes "end") ≡ c → bytes_eq text (codes "o") ≡ d
    → cond a (Some (form.header text)) (cond b (Some form.begins) (cond c (Some form.ends) (cond d (Some form.left_open) None))) ≡ Some w → IsOf text w
word_by text w true b c d ea eb ec ed same = let one : form.header text ≡ w = cc in subst (IsOf text) one (refl, ea)
word_by text w false true c d ea eb ec ed same = let one : form.begins ≡ w = cc in subst (IsOf text) one (same_bytes text (codes "tree 1") eb, refl)
word_by text w false false true d ea eb ec ed same = let one : form.ends ≡ w = cc in subst (IsOf text) one (same_bytes text (codes "end") ec, refl)
word_by text w false false false true ea eb ec ed same = let one : form.left_open ≡ w = cc in subst (IsOf text) one (same_bytes text (codes "o") ed, refl)
word_by text w false false false false ea eb ec ed same = absurd (cc)

written_by : (text : List ℕ) (w : Written) (o : Option Written) → spec.word_of text ≡ o → spec.or_written o (spec.by_prefix text) ≡ Some w → IsOf text w
written_by text w (Some word) e same = let one : Some word ≡ Some w = same in
    word_by text w (is_header text) (bytes_eq text (codes "tree 1")) (bytes_eq text (codes "end")) (bytes_eq text (codes "o")) refl refl refl refl (e ∙ one)
written_by text w None e same = prefix_by text w (spec.stripped (codes "s ") text) (spec.stripped (codes "x ") text) (spec.stripped (codes "e ") text) refl refl refl same

-- the text has the form that is read
pub written_is : (text : List ℕ) (w : Written) → spec.written_of text ≡ Some w → IsOf text w
written_is text w same = written_by text w (spec.word_of text) refl same

-- ---- and back

split_back : (at : Place) (inside : List ℕ) (asked : Asked) → is_located at inside ≡ true → is_asked asked ≡ true
    → spec.split_of (located at inside ++ (codes " " ++ asked_text asked)) ≡ Some (form.split at inside asked)
split_back at inside asked there small =
    let word = located_word at inside there in
    ap₂ (λ x y. spec.split_with (spec.located_of x) (option_and_then spec.test_of (spec.stripped (codes " ") y))) (word_front (located at inside) (asked_text asked) word) (word_behind (located at inside) (asked_text asked) word)
    ∙ ap₂ spec.split_with (located_back at inside there) (test_back asked small)

own_back : (w : Written) → is_written w ≡ true → spec.written_of (written_text w) ≡ Some w
own_back (form.narrow rule.Up at inside) h = ap (option_map (λ x. form.narrow rule.Up x.0 x.1)) (located_back at inside h)
own_back (form.narrow rule.Down at inside) h = ap (option_map (λ x. form.narrow rule.Down x.0 x.1)) (located_back at inside h)
own_back (form.narrow rule.Refer at inside) h = ap (option_map (λ x. form.narrow rule.Refer x.0 x.1)) (located_back at inside h)
own_back (form.split at inside asked) h = let both = both_true (is_located at inside) (is_asked asked) h in split_back at inside asked both.0 both.1
own_back (form.clash at inside) h = ap (option_map (λ x. form.clash x.0 x.1)) (located_back at inside h)
own_back (form.eval k) h = ap (option_map form.eval) (natural_printed k h)
own_back form.left_open h = refl
own_back (form.header text) h = rw h refl
own_back form.begins h = refl
own_back form.ends h = refl

-- a form is read from its text
pub written_back : (text : List ℕ) (w : Written) → IsOf text w → spec.written_of text ≡ Some w
written_back text w h = ap spec.written_of h.0 ∙ own_back w h.1

pub one_form : (text : List ℕ) (v w : Written) → IsOf text v → IsOf text w → v ≡ w
one_form text v w a b = let same : Some v ≡ Some w = sym (written_back text v a) ∙ written_back text w b in cc
