-- The trees that are printed have their verdict.
use Rattle.std.proofs.Common.{◌≡◌, ◌∙◌, map, Some, sym, ap, refl, ℕ, ◌<◌, ◌≤◌, ◌^◌, Bool, true, false, not, ◌&&◌, ◌==◌, ℤ, pos, negsuc, ◌≤ℤ◌, List, [], ◌∷◌, ◌++◌, length, append_assoc, codes, decimal, arith}
use Rattle.std.specs.List.{All, list_all, flat_map}
use Rattle.std.specs.Str.{all_ascii_digits}
use Rattle.std.specs.Char.{is_ascii_digit}
use Rattle.std.proofs.lemmas.Fmt.{digits_decimal}
use Rattle.std.proofs.lemmas.Int.{ints}
use Rattle.std.proofs.lemmas.List.Elements.{All-head, All-tail}
use Rattle.eb_value.specs.declared.scope.Scope.{Scope}
use Rattle.eb_value.specs.Typing.{in_range}
use Rattle.eb_term.specs.declared.problem.Problem.{Problem}
use Rattle.occ_store.specs.Stores.{Store, IsFirst, HaveIntegers}
use Rattle.tree_form.specs.Lines.{has_small_numbers}
use Rattle.tree_checker.specs.declared.verdict.Verdict.TheVariants as verdict
use Rattle.tree_checker.specs.Trees.{Tree, facts_of, Holds, lines_of, opens}
use Rattle.tree_checker.specs.Texts.{joined, IsPrinted, IsWholeText, IsVerdict, task_of, tree_text, is_one_line, is_header_line}
use Rattle.branch_search.specs.Search.{IsRefutation, IsUndecided}
use Rattle.cbc_query.specs.declared.note.Note.{Note}
use Rattle.cbc_query.specs.Notes.{axioms_notes}
use Rattle.model_text.specs.declared.asked.Asked.{Asked}
use Rattle.model_text.specs.Asking.{IsLawful}
use Rattle.cbc_answers.specs.Answers.{problem_of, IsPlain, note_text, head_text, refuted_text, undecided_text}
use Rattle.std.specs.Str.Parse.{digits_value}
use Rattle.std.proofs.lemmas.Str.Parse.{IsNumeralModel, numerals_by_value, tells_all_ascii_digits}
use Rattle.cbc_answers.proofs.Witnesses.{few_in}

low_small : (lo hi : ℤ) → negsuc 32767 ≤ℤ lo → lo ≤ℤ hi → hi ≤ℤ pos 32767 → in_range lo ≡ true
low_small lo hi least some greatest = grind (arith, ints)

high_small : (lo hi : ℤ) → negsuc 32767 ≤ℤ lo → lo ≤ℤ hi → hi ≤ℤ pos 32767 → in_range hi ≡ true
high_small lo hi least some greatest = grind (arith, ints)

-- ---- the headers

own : IsNumeralModel (λ ds. all_ascii_digits ds ≡ true) (digits_value 10)
own = numerals_by_value _ tells_all_ascii_digits

no_feed : (digits : List ℕ) → all_ascii_digits digits ≡ true → is_one_line digits ≡ true
no_feed [] h = refl
no_feed (b ∷ bs) h = both (is_ascii_digit b) (all_ascii_digits bs) b bs refl h (λ e. no_feed bs e) where
  both : (d more : Bool) (b : ℕ) (bs : List ℕ) → is_ascii_digit b ≡ d → (d && more) ≡ true → (more ≡ true → is_one_line bs ≡ true) → is_one_line (b ∷ bs) ≡ true
  both true more b bs digit h rest = let other : not (b == 10) ≡ true = grind arith in rw (other, rest h) refl
  both false more b bs digit h rest = absurd (cc)

budget_header : (budget : ℕ) → budget < 2 ^ 64 → is_header_line (codes "undecided " ++ decimal budget) ≡ true
budget_header budget small = no_feed (decimal budget) (digits_decimal own budget small)

-- the line of a note, without its line feed
abbrev note_line : Note → List ℕ
note_line n = codes "note scoped " ++ (n.label ++ (codes " " ++ n.identifier))

all_append : (test : ℕ → Bool) (xs ys : List ℕ) → list_all test xs ≡ true → list_all test ys ≡ true → list_all test (xs ++ ys) ≡ true
all_append test [] ys h k = k
all_append test (x ∷ xs) ys h k = both (test x) (list_all test xs) h (λ e. all_append test xs ys e k) where
  both : (b more : Bool) → (b && more) ≡ true → (more ≡ true → list_all test (xs ++ ys) ≡ true) → (b && list_all test (xs ++ ys)) ≡ true
  both true more h f = f h
  both false more h f = absurd cc

note_header : (n : Note) → IsPlain n → is_header_line (note_line n) ≡ true
note_header n plain = all_append (λ b. not (b == 10)) n.label (32 ∷ n.identifier) plain.0 plain.1

-- the lines before a tree: the query, its notes and the answer
abbrev headers_of : List Note → List ℕ → List (List ℕ)
headers_of ns answer = codes "query axioms" ∷ (map note_line ns ++ (answer ∷ []))

notes_headers : (ns : List Note) (answer : List ℕ) → All IsPlain ns → is_header_line answer ≡ true → list_all is_header_line (map note_line ns ++ (answer ∷ [])) ≡ true
notes_headers [] answer plain h = rw h refl
notes_headers (n ∷ ns) answer plain h = rw (note_header n (All-head IsPlain n ns plain), notes_headers ns answer (All-tail IsPlain n ns plain) h) refl

headers : (ns : List Note) (answer : List ℕ) → All IsPlain ns → is_header_line answer ≡ true → list_all is_header_line (headers_of ns answer) ≡ true
headers ns answer plain h = notes_headers ns answer plain h

label_joined : (n : Note) (more : List ℕ) → (n.label ++ (codes " " ++ n.identifier)) ++ (10 ∷ more) ≡ (n.label ++ (codes " " ++ (n.identifier ++ codes "\n"))) ++ more
label_joined n more =
    append_assoc n.label (codes " " ++ n.identifier) (10 ∷ more)
    ∙ ap (λ z. n.label ++ z) (append_assoc (codes " ") n.identifier (10 ∷ more) ∙ ap (λ z. codes " " ++ z) (sym (append_assoc n.identifier (codes "\n") more)))
    ∙ sym (append_assoc n.label (codes " " ++ (n.identifier ++ codes "\n")) more)

note_joined : (n : Note) (more : List ℕ) → note_line n ++ (10 ∷ more) ≡ note_text n ++ more
note_joined n more =
    append_assoc (codes "note scoped ") (n.label ++ (codes " " ++ n.identifier)) (10 ∷ more)
    ∙ ap (λ z. codes "note scoped " ++ z) (label_joined n more)
    ∙ sym (append_assoc (codes "note scoped ") (n.label ++ (codes " " ++ (n.identifier ++ codes "\n"))) more)

notes_joined : (ns : List Note) (answer rest : List ℕ) → joined (map note_line ns ++ (answer ∷ [])) ++ rest ≡ flat_map note_text ns ++ (answer ++ (10 ∷ rest))
notes_joined [] answer rest = append_assoc answer (10 ∷ []) rest
notes_joined (n ∷ ns) answer rest =
    append_assoc (note_line n) (10 ∷ joined (map note_line ns ++ (answer ∷ []))) rest
    ∙ note_joined n (joined (map note_line ns ++ (answer ∷ [])) ++ rest)
    ∙ ap (λ z. note_text n ++ z) (notes_joined ns answer rest)
    ∙ sym (append_assoc (note_text n) (flat_map note_text ns) (answer ++ (10 ∷ rest)))

-- what is printed for a query with these notes, as lines before a tree
pub headed : (ns : List Note) (answer rest : List ℕ) → (codes "query axioms\n" ++ flat_map note_text ns) ++ (answer ++ (10 ∷ rest)) ≡ joined (headers_of ns answer) ++ rest
headed ns answer rest =
    append_assoc (codes "query axioms\n") (flat_map note_text ns) (answer ++ (10 ∷ rest))
    ∙ ap (λ z. codes "query axioms\n" ++ z) (sym (notes_joined ns answer rest))
    ∙ sym (append_assoc (codes "query axioms\n") (joined (map note_line ns ++ (answer ∷ []))) rest)

-- ---- the verdicts

abbrev pub SmallTrees : Type 0
SmallTrees = (scope : Scope) → (problem : Problem) → (first : Store) → (tree : Tree)
    → HaveIntegers problem.choices → scope.lo ≤ℤ scope.hi → in_range scope.lo ≡ true → in_range scope.hi ≡ true
    → length problem.choices < 2 ^ 32 → length problem.facts ≤ 2 ^ 62
    → IsFirst scope problem.choices first → Holds (facts_of scope problem) first tree → list_all has_small_numbers (lines_of tree) ≡ true

abbrev pub PrintedTexts : Type 0
PrintedTexts = (scope : Scope) → (problem : Problem) → (first : Store) → (text : List ℕ) → (count : ℕ) → IsPrinted (task_of scope problem first) text count → IsWholeText (task_of scope problem first) text count

are_small : SmallTrees → (a : Asked) (first : Store) (tree : Tree) → IsLawful a → a.problem ≡ Some (problem_of a) → IsFirst a.scope (problem_of a).choices first → Holds (facts_of a.scope (problem_of a)) first tree
    → list_all has_small_numbers (lines_of tree) ≡ true
are_small small a first tree is some is_first holds =
    let few = few_in a is some in
    small a.scope (problem_of a) first tree is.integers is.small.some (low_small a.scope.lo a.scope.hi is.small.least is.small.some is.small.greatest)
    (high_small a.scope.lo a.scope.hi is.small.least is.small.some is.small.greatest) few.0 few.1 is_first holds

abbrev notes : Asked → List Note
notes a = axioms_notes a.scope a.model a.types

pub refuted_verdict : SmallTrees → PrintedTexts → (a : Asked) (budget : ℕ) (tree : Tree) → IsLawful a → a.problem ≡ Some (problem_of a) → All IsPlain (notes a) → IsRefutation a.scope (problem_of a) budget tree
    → IsVerdict a.scope (problem_of a) (refuted_text a tree) verdict.Accepted
refuted_verdict small printed a budget tree is some plain r = (
  r.first,
  r.is_first,
  printed a.scope (problem_of a) r.first (refuted_text a tree) 0 (record {
    headers = headers_of (notes a) (codes "refuted");
    are_headers = headers (notes a) (codes "refuted") plain refl;
    tree = tree;
    holds = r.holds;
    small = are_small small a r.first tree is some r.is_first r.holds;
    printed = headed (notes a) (codes "refuted") (tree_text tree);
    open_lines = sym r.closed;
  }),
)

pub undecided_verdict : SmallTrees → PrintedTexts → (a : Asked) (budget : ℕ) (tree : Tree) → budget < 2 ^ 64 → IsLawful a → a.problem ≡ Some (problem_of a) → All IsPlain (notes a) → IsUndecided a.scope (problem_of a) budget tree
    → IsVerdict a.scope (problem_of a) (undecided_text a budget tree) (verdict.Partial (opens (lines_of tree)))
undecided_verdict small printed a budget tree fits is some plain u = (
  u.first,
  u.is_first,
  (
    u.left_open,
    printed a.scope (problem_of a) u.first (undecided_text a budget tree) (opens (lines_of tree)) (record {
      headers = headers_of (notes a) (codes "undecided " ++ decimal budget);
      are_headers = headers (notes a) (codes "undecided " ++ decimal budget) plain (budget_header budget fits);
      tree = tree;
      holds = u.holds;
      small = are_small small a u.first tree is some u.is_first u.holds;
      printed = ap (λ z. head_text a ++ z) (sym (append_assoc (codes "undecided ") (decimal budget) (10 ∷ tree_text tree))) ∙ headed (notes a) (codes "undecided " ++ decimal budget) (tree_text tree);
      open_lines = refl;
    }),
  ),
)
