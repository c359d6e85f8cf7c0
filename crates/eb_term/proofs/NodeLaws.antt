-- The nodes of a term by its head: the term, and then the nodes of its parts.
use Rattle.std.proofs.Common.{◌≡◌, ◌∙◌, refl, sym, ap, ap₂, subst, Bool, ℕ, List, [], ◌∷◌, ◌++◌, map, rules}
use Rattle.std.specs.List.{flat_map}
use Rattle.eb_value.specs.declared.types.EbType.{EbType}
use Rattle.eb_value.specs.declared.value.Value.{Value}
use Rattle.eb_term.specs.declared.operators.Unary.{Unary}
use Rattle.eb_term.specs.declared.operators.Binary.{Binary}
use Rattle.eb_term.specs.declared.operators.Binder.{Binder}
use Rattle.eb_term.specs.declared.operators.Infinite.{Infinite}
use Rattle.eb_term.specs.declared.operators.Many.{Many}
use Rattle.eb_term.specs.declared.operators.Side.{Side}
use Rattle.eb_term.specs.declared.term.Term.{Term, ind-Term, fold_out-Term}
use Rattle.eb_term.specs.declared.term.Head.{Head, Head-F, map-Head, the_lemmas}
use Rattle.eb_term.specs.declared.term.Head.TheViews.{roll-Head, roll-Term}
use Rattle.eb_term.specs.declared.term.Head.TheOpen as layer
use Rattle.eb_term.specs.declared.term.Head.TheVariants as head
use Rattle.eb_term.specs.Terms as term
use Rattle.eb_term.specs.Terms.{by_parts}
use Rattle.eb_term.specs.Nodes.{Listed, listed, listed_step, subterms}

abbrev listing : Term → Listed
listing = by_parts Listed listed_step

-- ---- what is listed for a term is for this very term

abbrev IsOfItself : Term → Type 0
IsOfItself t = (listing t).whole ≡ t

abbrev Known : Type 0
Known = (t : Term) × IsOfItself t

-- A head says nothing by itself: its term does.
abbrev KnownHead : Type 0
KnownHead = (h : Head) × IsOfItself (roll-Term (record { head = h }))

truth_whole : (b : Bool) → IsOfItself (term.truth b)
truth_whole b = search (rules, the_lemmas)

literal_whole : (v : Value) (ty : EbType) → IsOfItself (term.literal v ty)
literal_whole v ty = search (rules, the_lemmas)

reference_whole : (place : ℕ) (ty : EbType) → IsOfItself (term.reference place ty)
reference_whole place ty = search (rules, the_lemmas)

variable_whole : (k : ℕ) (path : List Side) (ty : EbType) → IsOfItself (term.variable k path ty)
variable_whole k path ty = search (rules, the_lemmas)

infinite_whole : (i : Infinite) → IsOfItself (term.infinite i)
infinite_whole i = search (rules, the_lemmas)

identity_whole : (ty : EbType) → IsOfItself (term.identity ty)
identity_whole ty = search (rules, the_lemmas)

projection_whole : (s : Side) (a b : EbType) → IsOfItself (term.projection s a b)
projection_whole s a b = search (rules, the_lemmas)

unary_whole : (o : Unary) (a : Term) → (listing (term.unary o a)).whole ≡ term.unary o (listing a).whole
unary_whole o a = search (rules, the_lemmas)

binary_whole : (o : Binary) (a b : Term) → (listing (term.binary o a b)).whole ≡ term.binary o (listing a).whole (listing b).whole
binary_whole o a b = search (rules, the_lemmas)

many_whole : (o : Many) (ts : List Term) → (listing (term.many o ts)).whole ≡ term.many o (map (λ l. l.whole) (map listing ts))
many_whole o ts = search (rules, the_lemmas)

over_whole : (o : Binder) (range body : Term) → (listing (term.over o range body)).whole ≡ term.over o (listing range).whole (listing body).whole
over_whole o range body = search (rules, the_lemmas)

all_whole : (o : Binder) (ty : EbType) (body : Term) → (listing (term.all o ty body)).whole ≡ term.all o ty (listing body).whole
all_whole o ty body = search (rules, the_lemmas)

wholes : (ts : List Known) → map (λ l. l.whole) (map listing (map (λ t. t.0) ts)) ≡ map (λ t. t.0) ts
wholes [] = refl
wholes (t ∷ ts) = ap₂ (λ x xs. x ∷ xs) t.1 (wholes ts)

step : (y : Head-F KnownHead Known) → IsOfItself (roll-Term (record { head = roll-Head (map-Head KnownHead Known Head Term (λ e. e.0) (λ e. e.0) y) }))
unfolding roll-Head denote.Hole.Carrier.roll
step (layer.Truth b) = truth_whole b
step (layer.Literal v ty) = literal_whole v ty
step (layer.Reference place ty) = reference_whole place ty
step (layer.Variable k path ty) = variable_whole k path ty
step (layer.Infinite i) = infinite_whole i
step (layer.Identity ty) = identity_whole ty
step (layer.Projection s a b) = projection_whole s a b
step (layer.Unary o a) = unary_whole o a.0 ∙ ap (term.unary o) a.1
step (layer.Binary o a b) = binary_whole o a.0 b.0 ∙ ap₂ (term.binary o) a.1 b.1
step (layer.Many o ts) = many_whole o (map (λ t. t.0) ts) ∙ ap (term.many o) (wholes ts)
step (layer.Over o range body) = over_whole o range.0 body.0 ∙ ap₂ (term.over o) range.1 body.1
step (layer.All o ty body) = all_whole o ty body.0 ∙ ap (term.all o ty) body.1

pub whole_is : (t : Term) → IsOfItself t
whole_is =
    ind-Term (λ h. IsOfItself (roll-Term (record { head = h }))) IsOfItself
    (λ x y is. subst (λ z. IsOfItself (roll-Term (record { head = roll-Head z }))) is (step y))
    (λ x y is. subst (λ z. IsOfItself (roll-Term z)) is y.head.1)

-- ---- the nodes by the head

-- where what is listed for the term is this, its nodes are the term and those of its parts
nodes_are : (t u : Term) (parts : List Term) → listing t ≡ listed u parts → subterms t ≡ t ∷ parts
nodes_are t u parts e = ap (λ l. l.nodes) e ∙ ap (λ x. x ∷ parts) (sym (ap (λ l. l.whole) e) ∙ whole_is t)

pub truth_nodes : (t : Term) (b : Bool) → t.head ≡ head.Truth b → subterms t ≡ t ∷ []
truth_nodes t b p = nodes_are t (term.truth b) [] (search (rules, fold_out-Term, the_lemmas, p))

pub literal_nodes : (t : Term) (v : Value) (ty : EbType) → t.head ≡ head.Literal v ty → subterms t ≡ t ∷ []
literal_nodes t v ty p = nodes_are t (term.literal v ty) [] (search (rules, fold_out-Term, the_lemmas, p))

pub reference_nodes : (t : Term) (place : ℕ) (ty : EbType) → t.head ≡ head.Reference place ty → subterms t ≡ t ∷ []
reference_nodes t place ty p = nodes_are t (term.reference place ty) [] (search (rules, fold_out-Term, the_lemmas, p))

pub variable_nodes : (t : Term) (k : ℕ) (path : List Side) (ty : EbType) → t.head ≡ head.Variable k path ty → subterms t ≡ t ∷ []
variable_nodes t k path ty p = nodes_are t (term.variable k path ty) [] (search (rules, fold_out-Term, the_lemmas, p))

pub infinite_nodes : (t : Term) (i : Infinite) → t.head ≡ head.Infinite i → subterms t ≡ t ∷ []
infinite_nodes t i p = nodes_are t (term.infinite i) [] (search (rules, fold_out-Term, the_lemmas, p))

pub identity_nodes : (t : Term) (ty : EbType) → t.head ≡ head.Identity ty → subterms t ≡ t ∷ []
identity_nodes t ty p = nodes_are t (term.identity ty) [] (search (rules, fold_out-Term, the_lemmas, p))

pub projection_nodes : (t : Term) (s : Side) (a b : EbType) → t.head ≡ head.Projection s a b → subterms t ≡ t ∷ []
projection_nodes t s a b p = nodes_are t (term.projection s a b) [] (search (rules, fold_out-Term, the_lemmas, p))

pub unary_nodes : (t a : Term) (o : Unary) → t.head ≡ head.Unary o a → subterms t ≡ t ∷ subterms a
unary_nodes t a o p = nodes_are t (term.unary o (listing a).whole) (subterms a) (search (rules, fold_out-Term, the_lemmas, p))

pub binary_nodes : (t a b : Term) (o : Binary) → t.head ≡ head.Binary o a b → subterms t ≡ t ∷ subterms a ++ subterms b
binary_nodes t a b o p =
    nodes_are t (term.binary o (listing a).whole (listing b).whole) (subterms a ++ subterms b) (search (rules, fold_out-Term, the_lemmas, p))

listed_nodes : (ts : List Term) → flat_map (λ l. l.nodes) (map listing ts) ≡ flat_map subterms ts
listed_nodes [] = refl
listed_nodes (t ∷ ts) = ap (λ z. subterms t ++ z) (listed_nodes ts)

pub many_nodes : (t : Term) (o : Many) (ts : List Term) → t.head ≡ head.Many o ts → subterms t ≡ t ∷ flat_map subterms ts
many_nodes t o ts p =
    nodes_are t (term.many o (map (λ l. l.whole) (map listing ts))) (flat_map (λ l. l.nodes) (map listing ts)) (search (rules, fold_out-Term, the_lemmas, p))
    ∙ ap (λ z. t ∷ z) (listed_nodes ts)

pub over_nodes : (t range body : Term) (o : Binder) → t.head ≡ head.Over o range body → subterms t ≡ t ∷ subterms range ++ subterms body
over_nodes t range body o p =
    nodes_are t (term.over o (listing range).whole (listing body).whole) (subterms range ++ subterms body) (search (rules, fold_out-Term, the_lemmas, p))

pub all_nodes : (t body : Term) (o : Binder) (ty : EbType) → t.head ≡ head.All o ty body → subterms t ≡ t ∷ subterms body
all_nodes t body o ty p = nodes_are t (term.all o ty (listing body).whole) (subterms body) (search (rules, fold_out-Term, the_lemmas, p))
