-- The text of a tree that holds is whole.
use Rattle.std.proofs.Common.{◌≡◌, ◌∙◌, ℕ, suc, ◌<◌, ◌^◌, ◌==◌, List, [], ◌∷◌, ◌++◌, map, true, false, not, sym, refl, arith, ℤ, pos, negsuc, ap₂, subst, ap}
use Rattle.std.specs.Prelude.{codes, decimal}
use Rattle.std.specs.List.{list_all}
use Rattle.std.specs.Int.{IsInRange}
use Rattle.std.specs.Fmt.{signed_decimal}
use Rattle.std.specs.Str.Parse.{AllDigits}
use Rattle.std.proofs.lemmas.Fmt.{decimal_is_IsNumeral}
use Rattle.std.proofs.lemmas.Int.{ints}
use Rattle.std.proofs.lemmas.List.Folds.{list_all-append}
use Rattle.std.proofs.lemmas.Str.Parse.{digit_at}
use Rattle.eb_value.specs.Typing.{in_range}
use Rattle.eb_value.specs.declared.scope.Scope.{Scope}
use Rattle.eb_term.specs.declared.problem.Problem.{Problem}
use Rattle.tree_form.specs.declared.line.Line.{Line}
use Rattle.tree_form.specs.declared.line.Line.TheVariants as line
use Rattle.tree_form.specs.Lines.{line_text, is_header, is_small, has_small_numbers, IsLine}
use Rattle.occ_store.specs.Stores.{Store}
use Rattle.tree_checker.specs.Trees.{Facts, facts_of, Task, Tree, Fits, Holds, lines_of, opens}
use Rattle.tree_checker.specs.Trees as trees
use Rattle.tree_checker.specs.Texts.{joined, is_one_line, AreLines, IsWholeText, task_of, tree_text, is_header_line, IsPrinted}
use Rattle.tree_checker.proofs.TextLaws.{joined_append, both}

-- the bytes of numbers are digits and a sign
digits_on_line : (ds : List ℕ) → AllDigits 10 ds → is_one_line ds ≡ true
digits_on_line [] h = refl
digits_on_line (b ∷ ds) h =
    let range : IsInRange 48 57 b = digit_at (b ∷ ds) 0 h (omega arith) in
    let other : b == 10 ≡ false = grind arith in
    rw other (digits_on_line ds h.1)

decimal_on_line : (k : ℕ) → k < 2 ^ 64 → is_one_line (decimal k) ≡ true
decimal_on_line k small = digits_on_line (decimal k) (decimal_is_IsNumeral k small).0.1

small_decimal : (k : ℕ) → is_small k ≡ true → is_one_line (decimal k) ≡ true
small_decimal k e = let small : k < 2 ^ 64 = grind arith in decimal_on_line k small

signed_on_line : (n : ℤ) → in_range n ≡ true → is_one_line (signed_decimal n) ≡ true
signed_on_line (pos k) e = let small : k < 2 ^ 64 = grind (arith, ints) in decimal_on_line k small
signed_on_line (negsuc k) e = let small : suc k < 2 ^ 64 = grind (arith, ints) in decimal_on_line (suc k) small

text_on_line : (l : Line) → has_small_numbers l ≡ true → is_one_line (line_text l) ≡ true
text_on_line (line.Split k n) e =
    let e' = both (is_small k) (in_range n) e in
    list_all-append (λ b. not (b == 10)) (decimal k) (codes " le - " ++ signed_decimal n) ∙ rw (small_decimal k e'.0) (signed_on_line n e'.1)
text_on_line (line.Clash k) e = small_decimal k e
text_on_line (line.Eval k) e = small_decimal k e
text_on_line line.Open e = refl
text_on_line line.Header e = refl
text_on_line line.Begin e = refl
text_on_line line.End e = refl

own_line : (l : Line) → has_small_numbers l ≡ true → IsLine (line_text l) l
own_line (line.Split k n) e = (refl, e)
own_line (line.Clash k) e = (refl, e)
own_line (line.Eval k) e = (refl, e)
own_line line.Open e = (refl, e)
own_line line.Header e = refl
own_line line.Begin e = (refl, e)
own_line line.End e = (refl, e)

record ArePrinted (texts : List (List ℕ)) (lines : List Line) : Type 0 where
  each : list_all is_one_line texts ≡ true
  are_lines : AreLines texts lines

end_printed : ArePrinted (codes "end" ∷ []) (line.End ∷ [])
end_printed = record { each = refl; are_lines = ((refl, refl), tt) }

body_printed : (lines : List Line) → list_all has_small_numbers lines ≡ true → ArePrinted (map line_text lines ++ (codes "end" ∷ [])) (lines ++ (line.End ∷ []))
body_printed [] e = end_printed
body_printed (l ∷ lines) e =
    let e' = both (has_small_numbers l) (list_all has_small_numbers lines) e in
    let rest = body_printed lines e'.1 in
    record { each = rw (text_on_line l e'.0) rest.each; are_lines = (own_line l e'.0, rest.are_lines) }

headers_printed : (headers : List (List ℕ)) (texts : List (List ℕ)) (lines : List Line) → list_all is_header_line headers ≡ true → ArePrinted texts lines → ArePrinted (headers ++ texts) (map (λ _. line.Header) headers ++ lines)
headers_printed [] texts lines e p = p
headers_printed (h ∷ headers) texts lines e p =
    let e' = both (is_header_line h) (list_all is_header_line headers) e in
    let here = both (is_header h) (is_one_line h) e'.0 in
    let rest = headers_printed headers texts lines e'.1 p in
    record { each = rw here.1 rest.each; are_lines = (here.0, rest.are_lines) }

all_headers : (headers : List (List ℕ)) → list_all trees.is_header (map (λ _. line.Header) headers) ≡ true
all_headers [] = refl
all_headers (h ∷ headers) = all_headers headers

pub printed_whole : (scope : Scope) (problem : Problem) (first : Store) (tree : Tree) (headers : List (List ℕ)) → Holds (facts_of scope problem) first tree → list_all has_small_numbers (lines_of tree) ≡ true → list_all is_header_line headers ≡ true
    → IsWholeText (task_of scope problem first) (joined headers ++ tree_text tree) (opens (lines_of tree))
printed_whole scope problem first tree headers holds small heads =
    let body = body_printed (lines_of tree) small in
    let tree_printed : ArePrinted (codes "tree 1" ∷ (map line_text (lines_of tree) ++ (codes "end" ∷ []))) (line.Begin ∷ (lines_of tree ++ (line.End ∷ []))) = record { each = body.each; are_lines = ((refl, refl), body.are_lines) } in
    let all = headers_printed headers (codes "tree 1" ∷ (map line_text (lines_of tree) ++ (codes "end" ∷ []))) (line.Begin ∷ (lines_of tree ++ (line.End ∷ []))) heads tree_printed in
    record {
      texts = headers ++ (codes "tree 1" ∷ (map line_text (lines_of tree) ++ (codes "end" ∷ [])));
      each = all.each;
      joins = sym (joined_append headers (codes "tree 1" ∷ (map line_text (lines_of tree) ++ (codes "end" ∷ []))));
      lines = map (λ _. line.Header) headers ++ (line.Begin ∷ (lines_of tree ++ (line.End ∷ [])));
      are_lines = all.are_lines;
      whole = record { headers = map (λ _. line.Header) headers; tree = tree; all = all_headers headers; holds = holds; text = refl; open_lines = refl };
    }

-- Texts of lines that fall into two parts fall so themselves.
record Falls (texts : List (List ℕ)) (xs ys : List Line) : Type 0 where
  front : List (List ℕ)
  back : List (List ℕ)
  whole : texts ≡ front ++ back
  front_lines : AreLines front xs
  back_lines : AreLines back ys

falls_into : (texts : List (List ℕ)) (xs ys : List Line) → AreLines texts (xs ++ ys) → Falls texts xs ys
falls_into texts [] ys are = record { front = []; back = texts; whole = refl; front_lines = tt; back_lines = are }
falls_into [] (x ∷ xs) ys are = absurd are
falls_into (text ∷ texts) (x ∷ xs) ys are =
    let rest = falls_into texts xs ys are.1 in
    record { front = text ∷ rest.front; back = rest.back; whole = ap (λ z. text ∷ z) rest.whole; front_lines = (are.0, rest.front_lines); back_lines = rest.back_lines }

each_part : (xs ys : List (List ℕ)) → list_all is_one_line (xs ++ ys) ≡ true → list_all is_one_line xs ≡ true
each_part xs ys e = (both (list_all is_one_line xs) (list_all is_one_line ys) (sym (list_all-append is_one_line xs ys) ∙ e)).0

header_texts : (texts : List (List ℕ)) (lines : List Line) → list_all is_one_line texts ≡ true → list_all trees.is_header lines ≡ true → AreLines texts lines → list_all is_header_line texts ≡ true
header_texts [] [] each all are = refl
header_texts [] (l ∷ lines) each all are = absurd are
header_texts (text ∷ texts) [] each all are = absurd are
header_texts (text ∷ texts) (line.Header ∷ lines) each all are =
    let e = both (is_one_line text) (list_all is_one_line texts) each in
    let here : is_header text ≡ true = are.0 in
    rw (here, e.0) (header_texts texts lines e.1 all are.1)
header_texts (text ∷ texts) (_ ∷ lines) each all are = absurd (cc)

-- a line that fits a store has one text
fitting_text : (facts : Facts) (store : Store) (l : Line) (text : List ℕ) → Fits facts store l → IsLine text l → (text ≡ line_text l) × (has_small_numbers l ≡ true)
fitting_text facts store (line.Split k n) text fits is = is
fitting_text facts store (line.Clash k) text fits is = is
fitting_text facts store (line.Eval k) text fits is = is
fitting_text facts store line.Open text fits is = is
fitting_text facts store line.Header text fits is = absurd fits
fitting_text facts store line.Begin text fits is = absurd fits
fitting_text facts store line.End text fits is = absurd fits

record AreOwn (texts : List (List ℕ)) (lines : List Line) : Type 0 where
  printed : texts ≡ map line_text lines
  small : list_all has_small_numbers lines ≡ true

one_own : (text : List ℕ) (l : Line) (texts : List (List ℕ)) (lines : List Line) → (text ≡ line_text l) × (has_small_numbers l ≡ true) → AreOwn texts lines → AreOwn (text ∷ texts) (l ∷ lines)
one_own text l texts lines here rest = record { printed = ap₂ (λ x xs. x ∷ xs) here.0 rest.printed; small = rw here.1 rest.small }

map_both : (xs ys : List Line) → map line_text (xs ++ ys) ≡ map line_text xs ++ map line_text ys
map_both [] ys = refl
map_both (x ∷ xs) ys = ap (λ z. line_text x ∷ z) (map_both xs ys)

own_both : (a b : List (List ℕ)) (xs ys : List Line) → AreOwn a xs → AreOwn b ys → AreOwn (a ++ b) (xs ++ ys)
own_both a b xs ys p q = record {
  printed = ap₂ (λ x y. x ++ y) p.printed q.printed ∙ sym (map_both xs ys);
  small = list_all-append has_small_numbers xs ys ∙ rw p.small q.small;
}

tree_texts : (facts : Facts) (tree : Tree) (store : Store) (texts : List (List ℕ)) → Holds facts store tree → AreLines texts (lines_of tree) → AreOwn texts (lines_of tree)
tree_texts facts (trees.leaf l) store [] (fits, parts) are = absurd are
tree_texts facts (trees.leaf l) store (text ∷ []) (fits, parts) are = one_own text l [] [] (fitting_text facts store l text fits are.0) (record { printed = refl; small = refl })
tree_texts facts (trees.leaf l) store (text ∷ other ∷ texts) (fits, parts) are = absurd are.1
tree_texts facts (trees.one l tree) store [] (a, fits, parts, holds) are = absurd are
tree_texts facts (trees.one l tree) store (text ∷ texts) (a, fits, parts, holds) are =
    one_own text l texts (lines_of tree) (fitting_text facts store l text fits are.0) (tree_texts facts tree a texts holds are.1)
tree_texts facts (trees.two l first second) store [] (a, b, fits, parts, holds, holds') are = absurd are
tree_texts facts (trees.two l first second) store (text ∷ texts) (a, b, fits, parts, holds, holds') are =
    let f = falls_into texts (lines_of first) (lines_of second) are.1 in
    let rest = own_both f.front f.back (lines_of first) (lines_of second) (tree_texts facts first a f.front holds f.front_lines) (tree_texts facts second b f.back holds' f.back_lines) in
    one_own text l texts (lines_of first ++ lines_of second) (fitting_text facts store l text fits are.0) (subst (λ z. AreOwn z (lines_of first ++ lines_of second)) (sym f.whole) rest)

end_text : (texts : List (List ℕ)) → AreLines texts (line.End ∷ []) → texts ≡ codes "end" ∷ []
end_text [] are = absurd are
end_text (text ∷ []) are = ap (λ z. z ∷ []) are.0.0
end_text (text ∷ other ∷ texts) are = absurd are.1

begun : (facts : Facts) (store : Store) (tree : Tree) (texts : List (List ℕ)) → Holds facts store tree → AreLines texts (line.Begin ∷ (lines_of tree ++ (line.End ∷ [])))
    → (texts ≡ codes "tree 1" ∷ (map line_text (lines_of tree) ++ (codes "end" ∷ []))) × (list_all has_small_numbers (lines_of tree) ≡ true)
begun facts store tree [] holds are = absurd are
begun facts store tree (text ∷ texts) holds are =
    let f = falls_into texts (lines_of tree) (line.End ∷ []) are.1 in
    let own = tree_texts facts tree store f.front holds f.front_lines in
    (ap₂ (λ x xs. x ∷ xs) are.0.0 (f.whole ∙ ap₂ (λ x y. x ++ y) own.printed (end_text f.back f.back_lines)), own.small)

pub whole_printed : (task : Task) (text : List ℕ) (count : ℕ) → IsWholeText task text count → IsPrinted task text count
whole_printed task text count w =
    let v = w.whole in
    let f = falls_into w.texts v.headers (line.Begin ∷ (lines_of v.tree ++ (line.End ∷ []))) (subst (AreLines w.texts) v.text w.are_lines) in
    let tree = begun task.facts task.first v.tree f.back v.holds f.back_lines in
    record {
      headers = f.front;
      are_headers = header_texts f.front v.headers (each_part f.front f.back (subst (λ z. list_all is_one_line z ≡ true) f.whole w.each)) v.all f.front_lines;
      tree = v.tree;
      holds = v.holds;
      small = tree.1;
      printed = w.joins ∙ ap joined f.whole ∙ joined_append f.front f.back ∙ ap (λ z. joined f.front ++ joined z) tree.0;
      open_lines = v.open_lines;
    }
