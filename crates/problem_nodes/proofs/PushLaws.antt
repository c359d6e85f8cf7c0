-- What the lists are after more nodes.
use Rattle.std.proofs.Common.{◌≡◌, ◌∙◌, ℕ, suc, ◌+◌, ◌<◌, List, [], ◌∷◌, ◌++◌, length, take, sym, ap, ap₂, arith, rules}
use Rattle.std.proofs.Common.{append_assoc, append-nil}
use Rattle.std.proofs.lemmas.List.{length-append, length-take}
use Rattle.std.proofs.lemmas.Grind.{flat_map-append}
use Rattle.std.proofs.Math.Seq.{set-append_seam, take-suc}
use Rattle.std.proofs.Math.ListN.{set, get_or}
use Rattle.std.specs.List.{flat_map}
use Rattle.eb_term.specs.declared.operators.Binary.{Binary}
use Rattle.eb_term.specs.declared.operators.Binder.{Binder}
use Rattle.eb_term.specs.declared.problem.Problem.{Problem}
use Rattle.eb_term.specs.declared.term.Term.{Term}
use Rattle.eb_term.specs.declared.term.Head.{the_lemmas}
use Rattle.eb_term.specs.declared.term.Head.TheVariants as head
use Rattle.eb_term.specs.Nodes.{subterms}
use Rattle.problem_nodes.specs.declared.nodes.Above.{Above}
use Rattle.problem_nodes.specs.declared.nodes.Above.TheVariants as above
use Rattle.problem_nodes.specs.declared.lists.Made.TheVariants as made
use Rattle.problem_nodes.specs.Places.{parts, size, starts, definition_roots, fact_roots}
use Rattle.problem_nodes.specs.Aboves.{row, rows}
use Rattle.problem_nodes.specs.steps.Lists.{ends_from}
use Rattle.problem_nodes.specs.steps.Lists.{Listed, extended, begun, made_at, lists_of}
use Rattle.problem_nodes.proofs.PartLaws.{subterms_are, row_is}
use Rattle.problem_nodes.proofs.LengthLaws.{ends-length}

-- ---- one after the other

pub extended_even : (l : Listed) (nodes : List Term) (more : List Above) → length l.ends ≡ length l.terms → length (extended l nodes more).ends ≡ length (extended l nodes more).terms
extended_even l nodes more e =
    length-append l.ends (ends_from (length l.terms) nodes) ∙ ap₂ (λ m n. m + n) e (ends-length (length l.terms) nodes) ∙ sym (length-append l.terms nodes)

ends-append : (k : ℕ) (xs ys : List Term) → ends_from k (xs ++ ys) ≡ ends_from k xs ++ ends_from (k + length xs) ys
ends-append k [] ys = ap (λ n. ends_from n ys) (let q : k ≡ k + 0 = omega arith in q)
ends-append k (x ∷ xs) ys = ap (λ es. (k + size x) ∷ es) (ends-append (suc k) xs ys ∙ ap (λ n. ends_from (suc k) xs ++ ends_from n ys) (let q : suc k + length xs ≡ k + suc (length xs) = omega arith in q))

pub extended_twice : (l : Listed) (xs ys : List Term) (a b : List Above) → extended (extended l xs a) ys b ≡ extended l (xs ++ ys) (a ++ b)
extended_twice l xs ys a b =
    let terms = append_assoc l.terms xs ys in
    let aboves = append_assoc l.aboves a b in
    let ends =
    append_assoc l.ends (ends_from (length l.terms) xs) (ends_from (length (l.terms ++ xs)) ys)
    ∙ ap (λ n. l.ends ++ (ends_from (length l.terms) xs ++ ends_from n ys)) (length-append l.terms xs)
    ∙ ap (λ es. l.ends ++ es) (sym (ends-append (length l.terms) xs ys)) in
    λ i. record { terms = terms i; aboves = aboves i; ends = ends i }

-- ---- rows

pub rows-append : (made : ℕ → Above) (place k : ℕ) (xs ys : List Term) → rows made place k (xs ++ ys) ≡ rows made place k xs ++ rows made (place + length xs) (k + length (flat_map subterms xs)) ys
rows-append made place k [] ys = ap₂ (λ p n. rows made p n ys) (let q : place ≡ place + 0 = omega arith in q) (let q : k ≡ k + 0 = omega arith in q)
rows-append made place k (x ∷ xs) ys =
    ap (λ r. row x k (made place) ++ r) (rows-append made (suc place) (k + size x) xs ys
    ∙ ap₂ (λ p n. rows made (suc place) (k + size x) xs ++ rows made p n ys) (let q : suc place + length xs ≡ place + suc (length xs) = omega arith in q)
    (let q : (k + size x) + length (flat_map subterms xs) ≡ k + length (subterms x ++ flat_map subterms xs) = omega (arith, length-append (subterms x) (flat_map subterms xs)) in q))
    ∙ sym (append_assoc (row x k (made place)) (rows made (suc place) (k + size x) xs) (rows made (place + suc (length xs)) (k + length (subterms x ++ flat_map subterms xs)) ys))

-- ---- two parts

-- the lists after a row of terms and then one more term
pub row_longer : (l : Listed) (made : ℕ → Above) (ts : List Term) (t : Term) → extended (extended l (flat_map subterms ts) (rows made 0 (length l.terms) ts)) (subterms t)
    (row t (length (l.terms ++ flat_map subterms ts)) (made (length ts)))
    ≡ extended l (flat_map subterms (ts ++ (t ∷ []))) (rows made 0 (length l.terms) (ts ++ (t ∷ [])))
row_longer l made ts t =
    let k = length l.terms in
    extended_twice l (flat_map subterms ts) (subterms t) (rows made 0 k ts) (row t (length (l.terms ++ flat_map subterms ts)) (made (length ts)))
    ∙ ap₂ (extended l)
    (ap (λ x. flat_map subterms ts ++ x) (sym (append-nil (subterms t))) ∙ sym (flat_map-append subterms ts (t ∷ [])))
    (ap₂ (λ n p. rows made 0 k ts ++ row t n (made p)) (length-append l.terms (flat_map subterms ts)) (let q : length ts ≡ 0 + length ts = omega arith in q)
    ∙ ap (λ x. rows made 0 k ts ++ x) (sym (append-nil (row t (k + length (flat_map subterms ts)) (made (0 + length ts)))))
    ∙ sym (rows-append made 0 k ts (t ∷ [])))

pub one_row : (l : Listed) (made : ℕ → Above) (t : Term) → extended l (subterms t) (row t (length l.terms) (made 0)) ≡ extended l (flat_map subterms (t ∷ [])) (rows made 0 (length l.terms) (t ∷ []))
one_row l made t = ap₂ (extended l) (sym (append-nil (subterms t))) (sym (append-nil (row t (length l.terms) (made 0))))

pub two_rows : (l : Listed) (made : ℕ → Above) (a b : Term) → extended (extended l (subterms a) (row a (length l.terms) (made 0))) (subterms b) (row b (length (l.terms ++ subterms a)) (made 1))
    ≡ extended l (flat_map subterms (a ∷ b ∷ [])) (rows made 0 (length l.terms) (a ∷ b ∷ []))
two_rows l made a b =
    ap₂ (λ m n. extended m (subterms b) (row b n (made 1))) (one_row l made a) (ap (λ x. length (l.terms ++ x)) (sym (append-nil (subterms a))))
    ∙ row_longer l made (a ∷ []) b

-- ---- a node and its parts

-- the lists where the nodes of the node with this number end
abbrev pub the_record : Listed → ℕ → Listed
the_record more number = record { terms = more.terms; aboves = more.aboves; ends = set more.ends number (length more.terms) }

pub closed : (l : Listed) (t : Term) (a : Above) → length l.ends ≡ length l.terms →
    let more = extended (begun l t a) (flat_map subterms (parts t)) (rows (above.Part (length l.terms)) 0 (length (begun l t a).terms) (parts t)) in
    the_record more (length l.terms) ≡ extended l (subterms t) (row t (length l.terms) a)
closed l t a even =
    let k = length l.terms in
    let nodes = flat_map subterms (parts t) in
    let after : length (l.terms ++ (t ∷ [])) ≡ suc k = omega (arith, length-append l.terms (t ∷ [])) in
    let terms : (l.terms ++ (t ∷ [])) ++ nodes ≡ l.terms ++ subterms t = append_assoc l.terms (t ∷ []) nodes ∙ ap (λ x. l.terms ++ x) (sym (subterms_are t)) in
    let below = rows (above.Part k) 0 (length (l.terms ++ (t ∷ []))) (parts t) in
    let aboves : (l.aboves ++ (a ∷ [])) ++ below ≡ l.aboves ++ row t k a =
    append_assoc l.aboves (a ∷ []) below ∙ ap (λ n. l.aboves ++ (a ∷ rows (above.Part k) 0 n (parts t))) after ∙ ap (λ x. l.aboves ++ x) (sym (row_is t k a)) in
    let end = length ((l.terms ++ (t ∷ [])) ++ nodes) in
    let tails = ends_from (length (l.terms ++ (t ∷ []))) nodes in
    let last : end ≡ k + size t = ap length terms ∙ length-append l.terms (subterms t) in
    let ends : set ((l.ends ++ (0 ∷ [])) ++ tails) k end ≡ l.ends ++ ends_from k (subterms t) =
    ap (λ es. set es k end) (append_assoc l.ends (0 ∷ []) tails)
    ∙ ap (λ n. set (l.ends ++ (0 ∷ tails)) n end) (sym even)
    ∙ set-append_seam l.ends 0 tails end
    ∙ ap₂ (λ n m. l.ends ++ (n ∷ ends_from m nodes)) last after
    ∙ ap (λ x. l.ends ++ ends_from k x) (sym (subterms_are t)) in
    λ i. record { terms = terms i; aboves = aboves i; ends = ends i }

-- ---- the parts of a node

pub binary_parts : (t a b : Term) (o : Binary) → t.head ≡ head.Binary o a b → parts t ≡ a ∷ b ∷ []
binary_parts t a b o p = search (rules, the_lemmas, p)

pub over_parts : (t range body : Term) (o : Binder) → t.head ≡ head.Over o range body → parts t ≡ range ∷ body ∷ []
over_parts t range body o p = search (rules, the_lemmas, p)

-- the lists after two parts, the first from l to m, the second from m to n
pub two_parts : (l m n : Listed) (node a b : Term) (x y : Above) (number : ℕ) → parts node ≡ a ∷ b ∷ []
    → m ≡ extended l (subterms a) (row a (length l.terms) x) → x ≡ above.Part number 0
    → y ≡ above.Part number 1 → n ≡ extended m (subterms b) (row b (length m.terms) y)
    → n ≡ extended l (flat_map subterms (parts node)) (rows (made_at (made.Parts number)) 0 (length l.terms) (parts node))
two_parts l m n node a b x y number two e f g h =
    let at = made_at (made.Parts number) in
    h ∙ ap₂ (λ k z. extended k (subterms b) (row b (length k.terms) z)) (e ∙ ap (λ z. extended l (subterms a) (row a (length l.terms) z)) f) g
    ∙ two_rows l at a b
    ∙ ap (λ ps. extended l (flat_map subterms ps) (rows at 0 (length l.terms) ps)) (sym two)

-- the lists after a row of terms, from l to m, and one more, from m to n
pub next_row : (l m n : Listed) (ts more : List Term) (t : Term) (x : Above) (place : ℕ) (made : ℕ → Above) → more ≡ ts ++ (t ∷ []) → length ts ≡ place
    → m ≡ extended l (flat_map subterms ts) (rows made 0 (length l.terms) ts) → x ≡ made place
    → n ≡ extended m (subterms t) (row t (length m.terms) x)
    → n ≡ extended l (flat_map subterms more) (rows made 0 (length l.terms) more)
next_row l m n ts more t x place made longer count e f h =
    h ∙ ap₂ (λ k z. extended k (subterms t) (row t (length k.terms) z)) e (f ∙ ap made (sym count))
    ∙ row_longer l made ts t
    ∙ ap (λ us. extended l (flat_map subterms us) (rows made 0 (length l.terms) us)) (sym longer)

-- ---- the numbers of terms

pub starts-append : (k : ℕ) (xs ys : List Term) → starts k (xs ++ ys) ≡ starts k xs ++ starts (k + length (flat_map subterms xs)) ys
starts-append k [] ys = ap (λ n. starts n ys) (let q : k ≡ k + 0 = omega arith in q)
starts-append k (x ∷ xs) ys =
    ap (λ ns. k ∷ ns) (starts-append (k + size x) xs ys
    ∙ ap (λ n. starts (k + size x) xs ++ starts n ys)
    (let q : (k + size x) + length (flat_map subterms xs) ≡ k + length (subterms x ++ flat_map subterms xs) = omega (arith, length-append (subterms x) (flat_map subterms xs)) in q))

-- the numbers after one more term, which begins where the lists end
pub next_root : (l m : Listed) (before after : List ℕ) (us vs : List Term) (t : Term) (below : List Above) → vs ≡ us ++ (t ∷ []) → m ≡ extended l (flat_map subterms us) below
    → before ≡ starts (length l.terms) us → after ≡ before ++ (length m.terms ∷ []) → after ≡ starts (length l.terms) vs
next_root l m before after us vs t below longer e f g =
    g ∙ ap₂ (λ ns n. ns ++ (n ∷ [])) f (ap (λ k. length k.terms) e ∙ length-append l.terms (flat_map subterms us))
    ∙ sym (starts-append (length l.terms) us (t ∷ []))
    ∙ ap (starts (length l.terms)) (sym longer)

-- ---- turns of a loop over terms

pub taken_more : (ts : List Term) (j : ℕ) (t : Term) → j < length ts → t ≡ get_or ts j t → take (j + 1) ts ≡ take j ts ++ (t ∷ [])
taken_more ts j t below e =
    ap (λ n. take n ts) (let q : j + 1 ≡ suc j = omega arith in q) ∙ take-suc ts j t below ∙ ap (λ x. take j ts ++ (x ∷ [])) (sym e)

pub taken_length : (ts : List Term) (j : ℕ) → j < length ts → length (take j ts) ≡ j
taken_length ts j below = omega (arith, length-take j ts, below)

-- ---- the lists of a problem

abbrev empty : Listed
empty = record { terms = []; aboves = []; ends = [] }

pub lists_are : (p : Problem) (a b c : Listed) (ds fs : List Term) → a ≡ empty → ds ≡ p.definitions → fs ≡ p.facts
    → b ≡ extended a (flat_map subterms ds) (rows (made_at made.Definitions) 0 (length a.terms) ds)
    → c ≡ extended b (flat_map subterms fs) (rows (made_at made.Facts) 0 (length b.terms) fs) → c ≡ lists_of p
lists_are p a b c ds fs e f g h k =
    let first = h ∙ ap₂ (λ l ts. extended l (flat_map subterms ts) (rows (made_at made.Definitions) 0 (length l.terms) ts)) e f in
    k ∙ ap₂ (λ l ts. extended l (flat_map subterms ts) (rows (made_at made.Facts) 0 (length l.terms) ts)) first g
    ∙ extended_twice empty (flat_map subterms p.definitions) (flat_map subterms p.facts) (rows (made_at made.Definitions) 0 0 p.definitions)
    (rows (made_at made.Facts) 0 (length (flat_map subterms p.definitions)) p.facts)

pub definition_roots_are : (p : Problem) (a : Listed) (ds : List Term) (roots : List ℕ) → a ≡ empty → ds ≡ p.definitions → roots ≡ starts (length a.terms) ds → roots ≡ definition_roots p
definition_roots_are p a ds roots e f g = g ∙ ap₂ (λ l ts. starts (length l.terms) ts) e f

pub fact_roots_are : (p : Problem) (a b : Listed) (ds fs : List Term) (below : List Above) (roots : List ℕ) → a ≡ empty → ds ≡ p.definitions → fs ≡ p.facts
    → b ≡ extended a (flat_map subterms ds) below → roots ≡ starts (length b.terms) fs → roots ≡ fact_roots p
fact_roots_are p a b ds fs below roots e f g h k =
    k ∙ ap₂ (λ n ts. starts n ts) (ap (λ l. length l.terms) h ∙ ap₂ (λ l ts. length (l.terms ++ flat_map subterms ts)) e f) g
