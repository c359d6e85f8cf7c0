-- Induction over terms by their parts; and the nodes of a term and what they stand below, by its parts.
use Rattle.std.proofs.Common.{◌≡◌, ◌∙◌, refl, sym, ap, ap₂, ℕ, suc, ◌+◌, List, [], ◌∷◌, ◌++◌, map, length, length-append, append-nil, rules, subst}
use Rattle.std.specs.List.{flat_map, AllByRecursion}
use Rattle.eb_term.specs.declared.term.Term.{Term, ind-Term, fold_out-Term}
use Rattle.eb_term.specs.declared.term.Head.{Head, Head-F, map-Head, the_lemmas}
use Rattle.eb_term.specs.declared.term.Head.TheViews.{roll-Head, roll-Term}
use Rattle.eb_term.specs.declared.term.Head.TheOpen as head
use Rattle.eb_term.specs.Terms as term
use Rattle.eb_term.specs.Terms.{by_parts}
use Rattle.eb_term.specs.Nodes.{Listed, listed_step, subterms}
use Rattle.problem_nodes.specs.declared.nodes.Above.{Above}
use Rattle.problem_nodes.specs.declared.nodes.Above.TheVariants as above
use Rattle.problem_nodes.specs.Places.{parts, parts_of_layer, size}
use Rattle.problem_nodes.specs.Aboves.{Row, row, rows, rows_of_parts, joined}

-- ---- induction by parts

abbrev Known : (Term → Type 0) → Type 0
Known P = (t : Term) × P t

-- A head says nothing by itself: its term does.
abbrev KnownHead : (Term → Type 0) → Type 0
KnownHead P = (h : Head) × P (roll-Term (record { head = h }))

each_known : (P : Term → Type 0) (ts : List (Known P)) → AllByRecursion P (map (λ t. t.0) ts)
each_known P [] = tt
each_known P (t ∷ ts) = (t.1, each_known P ts)

-- what holds of a term where it holds of its parts
abbrev Step : (Term → Type 0) → Type 0
Step P = (t : Term) → AllByRecursion P (parts t) → P t

at_parts : (P : Term → Type 0) → Step P → (t : Term) (ts : List Term) → parts t ≡ ts → AllByRecursion P ts → P t
at_parts P s t ts e all = s t (subst (AllByRecursion P) (sym e) all)

step : (P : Term → Type 0) → Step P → (y : Head-F (KnownHead P) (Known P)) → P (roll-Term (record { head = roll-Head (map-Head (KnownHead P) (Known P) Head Term (λ e. e.0) (λ e. e.0) y) }))
unfolding roll-Head denote.Hole.Carrier.roll
step P s (head.Truth b) = at_parts P s (term.truth b) [] (search (rules, the_lemmas)) tt
step P s (head.Literal v ty) = at_parts P s (term.literal v ty) [] (search (rules, the_lemmas)) tt
step P s (head.Reference place ty) = at_parts P s (term.reference place ty) [] (search (rules, the_lemmas)) tt
step P s (head.Variable k path ty) = at_parts P s (term.variable k path ty) [] (search (rules, the_lemmas)) tt
step P s (head.Infinite i) = at_parts P s (term.infinite i) [] (search (rules, the_lemmas)) tt
step P s (head.Identity ty) = at_parts P s (term.identity ty) [] (search (rules, the_lemmas)) tt
step P s (head.Projection x a b) = at_parts P s (term.projection x a b) [] (search (rules, the_lemmas)) tt
step P s (head.Unary o a) = at_parts P s (term.unary o a.0) (a.0 ∷ []) (search (rules, the_lemmas)) (a.1, tt)
step P s (head.Binary o a b) = at_parts P s (term.binary o a.0 b.0) (a.0 ∷ b.0 ∷ []) (search (rules, the_lemmas)) (a.1, (b.1, tt))
step P s (head.Many o ts) = at_parts P s (term.many o (map (λ t. t.0) ts)) (map (λ t. t.0) ts) (search (rules, the_lemmas)) (each_known P ts)
step P s (head.Over o a b) = at_parts P s (term.over o a.0 b.0) (a.0 ∷ b.0 ∷ []) (search (rules, the_lemmas)) (a.1, (b.1, tt))
step P s (head.All o ty a) = at_parts P s (term.all o ty a.0) (a.0 ∷ []) (search (rules, the_lemmas)) (a.1, tt)

pub ind_parts : (P : Term → Type 0) → Step P → (t : Term) → P t
ind_parts P s =
    ind-Term (λ h. P (roll-Term (record { head = h }))) P
    (λ x y is. subst (λ z. P (roll-Term (record { head = roll-Head z }))) is (step P s y))
    (λ x y is. subst (λ z. P (roll-Term z)) is y.head.1)

-- ---- a function by one step, at the layer of a term

mapped : (A : Type 0) → (Head-F A A → A) → Head-F Head Term → Head-F A A
mapped A f = map-Head Head Term A A (λ h. by_parts A f (term.of_head h)) (by_parts A f)

at_layer : (A : Type 0) (f : Head-F A A → A) (t : Term) → by_parts A f t ≡ f (mapped A f (term.layer t))
unfolding mapped
at_layer A f t = search (rules, fold_out-Term, the_lemmas)

-- ---- the nodes by the parts

abbrev listing : Term → Listed
listing = by_parts Listed listed_step

abbrev IsWhole : Term → Type 0
IsWhole t = (listing t).whole ≡ t

wholes : (ts : List Term) → AllByRecursion IsWhole ts → map (λ l. l.whole) (map listing ts) ≡ ts
wholes [] all = refl
wholes (t ∷ ts) all = ap₂ (λ x xs. x ∷ xs) all.0 (wholes ts all.1)

whole_of_layer : (y : Head-F Head Term) → AllByRecursion IsWhole (parts_of_layer y) → (listed_step (mapped Listed listed_step y)).whole ≡ term.of_head (roll-Head y)
unfolding mapped roll-Head denote.Hole.Carrier.roll
whole_of_layer (head.Truth b) all = refl
whole_of_layer (head.Literal v ty) all = refl
whole_of_layer (head.Reference place ty) all = refl
whole_of_layer (head.Variable k path ty) all = refl
whole_of_layer (head.Infinite i) all = refl
whole_of_layer (head.Identity ty) all = refl
whole_of_layer (head.Projection x a b) all = refl
whole_of_layer (head.Unary o a) all = ap (term.unary o) all.0
whole_of_layer (head.Binary o a b) all = ap₂ (term.binary o) all.0 all.1.0
whole_of_layer (head.Many o ts) all = ap (term.many o) (wholes ts all)
whole_of_layer (head.Over o a b) all = ap₂ (term.over o) all.0 all.1.0
whole_of_layer (head.All o ty a) all = ap (term.all o ty) all.0

whole_is : (t : Term) → IsWhole t
whole_is = ind_parts IsWhole (λ t all. ap (λ l. l.whole) (at_layer Listed listed_step t) ∙ whole_of_layer (term.layer t) all ∙ search (rules, the_lemmas))

listed_nodes : (ts : List Term) → flat_map (λ l. l.nodes) (map listing ts) ≡ flat_map subterms ts
listed_nodes [] = refl
listed_nodes (t ∷ ts) = ap (λ z. subterms t ++ z) (listed_nodes ts)

nodes_of_layer : (y : Head-F Head Term) → (listed_step (mapped Listed listed_step y)).nodes ≡ (listed_step (mapped Listed listed_step y)).whole ∷ flat_map subterms (parts_of_layer y)
unfolding mapped
nodes_of_layer (head.Unary o a) = ap (λ z. term.unary o (listing a).whole ∷ z) (sym (append-nil (subterms a)))
nodes_of_layer (head.Binary o a b) = ap (λ z. term.binary o (listing a).whole (listing b).whole ∷ subterms a ++ z) (sym (append-nil (subterms b)))
nodes_of_layer (head.Many o ts) = ap (λ z. term.many o (map (λ l. l.whole) (map listing ts)) ∷ z) (listed_nodes ts)
nodes_of_layer (head.Over o a b) = ap (λ z. term.over o (listing a).whole (listing b).whole ∷ subterms a ++ z) (sym (append-nil (subterms b)))
nodes_of_layer (head.All o ty a) = ap (λ z. term.all o ty (listing a).whole ∷ z) (sym (append-nil (subterms a)))
nodes_of_layer _ = refl

-- the term itself, and then the nodes of its parts
pub subterms_are : (t : Term) → subterms t ≡ t ∷ flat_map subterms (parts t)
subterms_are t =
    let e = at_layer Listed listed_step t in
    ap (λ l. l.nodes) e ∙ nodes_of_layer (term.layer t) ∙ ap (λ u. u ∷ flat_map subterms (parts t)) (sym (ap (λ l. l.whole) e) ∙ whole_is t)

-- ---- what the nodes stand below, by the parts

row_step : Head-F Row Row → Row
row_step layer k a = a ∷ joined (above.Part k) 0 (suc k) (rows_of_parts layer)

parts_mapped : (y : Head-F Head Term) → rows_of_parts (mapped Row row_step y) ≡ map row (parts_of_layer y)
unfolding mapped row row_step
parts_mapped (head.Unary o a) = refl
parts_mapped (head.Binary o a b) = refl
parts_mapped (head.Many o ts) = refl
parts_mapped (head.Over o a b) = refl
parts_mapped (head.All o ty a) = refl
parts_mapped _ = refl

row_joined : (t : Term) (k : ℕ) (a : Above) → row t k a ≡ a ∷ joined (above.Part k) 0 (suc k) (map row (parts t))
unfolding row row_step
row_joined t k a =
    ap (λ f. f k a) (at_layer Row row_step t) ∙ ap (λ rs. a ∷ joined (above.Part k) 0 (suc k) rs) (parts_mapped (term.layer t))

abbrev IsAsLong : Term → Type 0
IsAsLong t = (k : ℕ) (a : Above) → length (row t k a) ≡ size t

joined_length : (made : ℕ → Above) (place k : ℕ) (ts : List Term) → AllByRecursion IsAsLong ts
    → length (joined made place k (map row ts)) ≡ length (flat_map subterms ts)
joined_length made place k [] all = refl
joined_length made place k (t ∷ ts) all =
    length-append (row t k (made place)) (joined made (suc place) (k + length (row t k (made place))) (map row ts))
    ∙ ap₂ (λ m n. m + n) (all.0 k (made place)) (joined_length made (suc place) (k + length (row t k (made place))) ts all.1)
    ∙ sym (length-append (subterms t) (flat_map subterms ts))

-- a term has as many nodes as they stand below
pub row-length : (t : Term) (k : ℕ) (a : Above) → length (row t k a) ≡ size t
row-length =
    ind_parts IsAsLong (λ t all k a. ap length (row_joined t k a) ∙ ap suc (joined_length (above.Part k) 0 (suc k) (parts t) all) ∙ sym (ap length (subterms_are t)))

joined_rows : (made : ℕ → Above) (place k : ℕ) (ts : List Term) → joined made place k (map row ts) ≡ rows made place k ts
joined_rows made place k [] = refl
joined_rows made place k (t ∷ ts) =
    ap (λ z. row t k (made place) ++ z) (ap (λ n. joined made (suc place) (k + n) (map row ts)) (row-length t k (made place)) ∙ joined_rows made (suc place) (k + size t) ts)

pub row_is : (t : Term) (k : ℕ) (a : Above) → row t k a ≡ a ∷ rows (above.Part k) 0 (suc k) (parts t)
row_is t k a = row_joined t k a ∙ ap (λ z. a ∷ z) (joined_rows (above.Part k) 0 (suc k) (parts t))

pub rows-length : (made : ℕ → Above) (place k : ℕ) (ts : List Term) → length (rows made place k ts) ≡ length (flat_map subterms ts)
rows-length made place k [] = refl
rows-length made place k (t ∷ ts) =
    length-append (row t k (made place)) (rows made (suc place) (k + size t) ts)
    ∙ ap₂ (λ m n. m + n) (row-length t k (made place)) (rows-length made (suc place) (k + size t) ts)
    ∙ sym (length-append (subterms t) (flat_map subterms ts))
