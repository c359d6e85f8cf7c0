-- Where a formula has a sort, there are types for the new numbers that solve its equations.
use Rattle.std.proofs.Common.{◌≡◌, ◌∙◌, ℕ, zero, suc, ◌+◌, ◌<◌, ◌≤◌, List, [], ◌∷◌, map, length, refl, sym, ap, subst, arith}
use Rattle.std.proofs.lemmas.Bool.{lt-ltb}
use Rattle.std.proofs.lemmas.Option.{slice_get_within}
use Rattle.std.specs.Prelude.{⊤, Option, Some, None, slice_get, fold, option_map, option_and_then}
use Rattle.eb_syntax.specs.declared.ast.Mark.{Mark}
use Rattle.eb_syntax.specs.declared.ast.Mark.TheVariants as mark
use Rattle.eb_syntax.specs.declared.ast.Identifier.{Identifier}
use Rattle.eb_value.specs.declared.types.EbType.{EbType}
use Rattle.eb_value.specs.Types as type
use Rattle.type_equations.specs.declared.equation.Equation.TheVariants as eq
use Rattle.type_table.specs.declared.pattern.Letter.{Letter}
use Rattle.type_table.specs.declared.pattern.Letter.TheVariants.{A, B, C, D}
use Rattle.type_table.specs.declared.pattern.Pattern.{Pattern}
use Rattle.type_table.specs.declared.pattern.Pattern.TheVariants as p
use Rattle.eb_typing.specs.declared.generated.Found.{Found}
use Rattle.eb_typing.specs.declared.generated.Found.TheVariants.{Predicate, Expression}
use Rattle.eb_typing.specs.declared.generated.Letters.{Letters}
use Rattle.eb_typing.specs.declared.generated.Generated.{Generated}
use Rattle.type_table.specs.Rows.{Sort, predicate, expression, Choice, chosen, sort}
use Rattle.eb_typing.specs.Numbering.{Numbered, typed, unknown, tuple, made, Parts, none, also}
use Rattle.eb_resolved.specs.Patterns.{Group, ungrouped, paired, closed, with_one, grouped, pattern_from}
use Rattle.eb_typing.specs.Typing.{HasSort, HaveSorts, ArePredicates}
use Rattle.eb_typing.specs.steps.Generating as g
use Rattle.eb_typing.specs.steps.Generating.{put, contradict, letter, state, build, fit, fits, row, gen, gens, checked, paired_with, token, tuple_end, tuple_made, demand, demanded, letters_at, after_letters, rank, width, widest}
use Rattle.eb_typing.specs.steps.Demanding.{all_demanded}
use Rattle.eb_typing.proofs.Soundness.{sort_at, group_at}
use Rattle.eb_typing.proofs.Extending.{has_get, Grows, stays, never, puts, then, weaker, news, fresh, new_power, new_product, inner, power_put, relation_put}

abbrev Claim : Type 1
Claim = (ℕ → EbType) → Type 0

-- so many letters have these types
abbrev At : ℕ → Letters → Choice → Claim
At w l v σ = (0 < w → σ l.a ≡ v.for_a) × (1 < w → σ l.b ≡ v.for_b) × (2 < w → σ l.c ≡ v.for_c) × (3 < w → σ l.d ≡ v.for_d)

at_letter : (w : ℕ) (l : Letters) (v : Choice) (σ : ℕ → EbType) (x : Letter) → rank x ≤ w → At w l v σ → σ (letter l x) ≡ chosen v x
at_letter w l v σ A r h = h.0 (omega (arith, r))
at_letter w l v σ B r h = h.1 (omega (arith, r))
at_letter w l v σ C r h = h.2 (omega (arith, r))
at_letter w l v σ D r h = h.3 (omega (arith, r))

-- what is known of what was found
abbrev Found_as : Claim → Found → Sort → Claim
Found_as G f s σ = G σ × (sort_at σ f ≡ s)

expression_is : (t u : EbType) → expression t ≡ expression u → t ≡ u
expression_is t u e = cc

no_sort : (t : EbType) → predicate ≡ expression t → ⊥
no_sort t e = absurd cc

state_complete : {types : List EbType} (w : ℕ) (l : Letters) (v : Choice) (q : Pattern) (k : ℕ) (h : Generated) (G : Claim) → width q ≤ w → ((σ : ℕ → EbType) → G σ → At w l v σ) → ((σ : ℕ → EbType) → G σ → expression (σ k) ≡ sort v q) → Grows types h (state l q k h) G G
state_complete w l v p.Predicate k h G r at is = never h (contradict k h) G G refl (λ σ e. no_sort (σ k) (sym (is σ e)))
state_complete w l v p.Integer k h G r at is = puts (eq.Integer k) h G (λ σ e. expression_is (σ k) type.integer (is σ e))
state_complete w l v p.Boolean k h G r at is = puts (eq.Boolean k) h G (λ σ e. expression_is (σ k) type.boolean (is σ e))
state_complete w l v (p.Type x) k h G r at is = puts (eq.Same k (letter l x)) h G (λ σ e. expression_is (σ k) (chosen v x) (is σ e) ∙ sym (at_letter w l v σ x r (at σ e)))
state_complete w l v (p.Pair x y) k h G r at is =
    puts (eq.Product k (letter l x) (letter l y)) h G (λ σ e.
    expression_is (σ k) (type.product (chosen v x) (chosen v y)) (is σ e)
    ∙ (ap (λ z. type.product z (chosen v y)) (sym (at_letter w l v σ x (omega (arith, r)) (at σ e))) ∙ ap (type.product (σ (letter l x))) (sym (at_letter w l v σ y (omega (arith, r)) (at σ e)))))
state_complete w l v p.Integers k h G r at is =
    let q = g.integer h in let E : Claim = λ σ. σ q.0 ≡ type.integer in
    inner h q.1 (put (eq.Power k q.0) q.1) G E (news eq.Integer type.integer h G (λ σ e i. i))
    (power_put k q.0 type.integer q.1 (λ σ. G σ × E σ) (λ σ e. expression_is (σ k) (type.power type.integer) (is σ e.0)) (λ σ e. e.1))
state_complete w l v p.Booleans k h G r at is =
    let q = g.boolean h in let E : Claim = λ σ. σ q.0 ≡ type.boolean in
    inner h q.1 (put (eq.Power k q.0) q.1) G E (news eq.Boolean type.boolean h G (λ σ e i. i))
    (power_put k q.0 type.boolean q.1 (λ σ. G σ × E σ) (λ σ e. expression_is (σ k) (type.power type.boolean) (is σ e.0)) (λ σ e. e.1))
state_complete w l v (p.Atoms c) k h G r at is =
    let q = g.carrier c h in let E : Claim = λ σ. σ q.0 ≡ type.carrier c in
    inner h q.1 (put (eq.Power k q.0) q.1) G E (news (λ n. eq.Carrier n c) (type.carrier c) h G (λ σ e i. i))
    (power_put k q.0 (type.carrier c) q.1 (λ σ. G σ × E σ) (λ σ e. expression_is (σ k) (type.power (type.carrier c)) (is σ e.0)) (λ σ e. e.1))
state_complete w l v (p.Set x) k h G r at is =
    power_put k (letter l x) (chosen v x) h G (λ σ e. expression_is (σ k) (type.power (chosen v x)) (is σ e)) (λ σ e. at_letter w l v σ x r (at σ e))
state_complete w l v (p.Sets x) k h G r at is =
    let t = type.power (chosen v x) in
    let q = g.power (letter l x) h in let E : Claim = λ σ. σ q.0 ≡ t in
    inner h q.1 (put (eq.Power k q.0) q.1) G E (new_power (letter l x) (chosen v x) h G (λ σ e. at_letter w l v σ x r (at σ e)))
    (power_put k q.0 t q.1 (λ σ. G σ × E σ) (λ σ e. expression_is (σ k) (type.power t) (is σ e.0)) (λ σ e. e.1))
state_complete w l v (p.Relation x y) k h G r at is =
    relation_put k (letter l x) (letter l y) (chosen v x) (chosen v y) h G (λ σ e. expression_is (σ k) (type.power (type.product (chosen v x) (chosen v y))) (is σ e))
    (λ σ e. at_letter w l v σ x (omega (arith, r)) (at σ e)) (λ σ e. at_letter w l v σ y (omega (arith, r)) (at σ e))
state_complete w l v (p.Relations x y) k h G r at is =
    let t = type.power (type.product (chosen v x) (chosen v y)) in
    let n = h.next in let f = g.after_fresh h in let m = put (eq.Power k n) f in
    let E : Claim = λ σ. σ n ≡ t in let F : Claim = λ σ. G σ × E σ in
    inner h f (g.state_relation n (letter l x) (letter l y) m) G E (fresh t h G)
    (then f m (g.state_relation n (letter l x) (letter l y) m) F F F
    (power_put k n t f F (λ σ e. expression_is (σ k) (type.power t) (is σ e.0)) (λ σ e. e.1))
    (relation_put n (letter l x) (letter l y) (chosen v x) (chosen v y) m F (λ σ e. e.1) (λ σ e. at_letter w l v σ x (omega (arith, r)) (at σ e.0)) (λ σ e. at_letter w l v σ y (omega (arith, r)) (at σ e.0))))
state_complete w l v p.ToPairs k h G r at is =
    let t = type.product v.for_b v.for_c in
    let q = g.product l.b l.c h in let E : Claim = λ σ. σ q.0 ≡ t in
    inner h q.1 (g.state_relation k l.a q.0 q.1) G E
    (new_product l.b l.c v.for_b v.for_c h G (λ σ e. at_letter w l v σ B (omega (arith, r)) (at σ e)) (λ σ e. at_letter w l v σ C (omega (arith, r)) (at σ e)))
    (relation_put k l.a q.0 v.for_a t q.1 (λ σ. G σ × E σ) (λ σ e. expression_is (σ k) (type.power (type.product v.for_a t)) (is σ e.0)) (λ σ e. at_letter w l v σ A (omega (arith, r)) (at σ e.0)) (λ σ e. e.1))
state_complete w l v p.BetweenPairs k h G r at is =
    let s = type.product v.for_a v.for_b in let t = type.product v.for_c v.for_d in
    let q = g.product l.a l.b h in let u = g.product l.c l.d q.1 in
    let E : Claim = λ σ. σ q.0 ≡ s in let F : Claim = λ σ. G σ × E σ in let I : Claim = λ σ. σ u.0 ≡ t in
    inner h q.1 (g.state_relation k q.0 u.0 u.1) G E
    (new_product l.a l.b v.for_a v.for_b h G (λ σ e. at_letter w l v σ A (omega (arith, r)) (at σ e)) (λ σ e. at_letter w l v σ B (omega (arith, r)) (at σ e)))
    (inner q.1 u.1 (g.state_relation k q.0 u.0 u.1) F I
    (new_product l.c l.d v.for_c v.for_d q.1 F (λ σ e. at_letter w l v σ C (omega (arith, r)) (at σ e.0)) (λ σ e. at_letter w l v σ D (omega (arith, r)) (at σ e.0)))
    (relation_put k q.0 u.0 s t u.1 (λ σ. F σ × I σ) (λ σ e. expression_is (σ k) (type.power (type.product s t)) (is σ e.0.0)) (λ σ e. e.0.1) (λ σ e. e.1)))
state_complete w l v p.ToFirst k h G r at is =
    let t = type.product v.for_a v.for_b in
    let q = g.product l.a l.b h in let E : Claim = λ σ. σ q.0 ≡ t in
    inner h q.1 (g.state_relation k q.0 l.a q.1) G E
    (new_product l.a l.b v.for_a v.for_b h G (λ σ e. at_letter w l v σ A (omega (arith, r)) (at σ e)) (λ σ e. at_letter w l v σ B (omega (arith, r)) (at σ e)))
    (relation_put k q.0 l.a t v.for_a q.1 (λ σ. G σ × E σ) (λ σ e. expression_is (σ k) (type.power (type.product t v.for_a)) (is σ e.0)) (λ σ e. e.1) (λ σ e. at_letter w l v σ A (omega (arith, r)) (at σ e.0)))
state_complete w l v p.ToSecond k h G r at is =
    let t = type.product v.for_a v.for_b in
    let q = g.product l.a l.b h in let E : Claim = λ σ. σ q.0 ≡ t in
    inner h q.1 (g.state_relation k q.0 l.b q.1) G E
    (new_product l.a l.b v.for_a v.for_b h G (λ σ e. at_letter w l v σ A (omega (arith, r)) (at σ e)) (λ σ e. at_letter w l v σ B (omega (arith, r)) (at σ e)))
    (relation_put k q.0 l.b t v.for_b q.1 (λ σ. G σ × E σ) (λ σ e. expression_is (σ k) (type.power (type.product t v.for_b)) (is σ e.0)) (λ σ e. e.1) (λ σ e. at_letter w l v σ B (omega (arith, r)) (at σ e.0)))

stated_complete : {types : List EbType} (w : ℕ) (l : Letters) (v : Choice) (q : Pattern) (t : EbType) (h : Generated) (G : Claim) → width q ≤ w → ((σ : ℕ → EbType) → G σ → At w l v σ) → sort v q ≡ expression t
    → Grows types h (g.stated l q h).1 G (Found_as G (g.stated l q h).0 (sort v q))
stated_complete w l v q t h G r at is =
    let n = h.next in let f = g.after_fresh h in let m = state l q n f in
    let F : Claim = λ σ. G σ × (σ n ≡ t) in
    weaker h m G F (Found_as G (Expression n) (sort v q)) (λ σ e. (e.0, ap expression e.1 ∙ sym is))
    (then h f m G F F (fresh t h G) (state_complete w l v q n f F r (λ σ e. at σ e.0) (λ σ e. ap expression e.1 ∙ sym is)))

build_complete : {types : List EbType} (w : ℕ) (l : Letters) (v : Choice) (q : Pattern) (h : Generated) (G : Claim) → width q ≤ w → ((σ : ℕ → EbType) → G σ → At w l v σ) → Grows types h (build l q h).1 G (Found_as G (build l q h).0 (sort v q))
build_complete w l v p.Predicate h G r at = stays h G (Found_as G Predicate predicate) (λ σ has e. (e, refl))
build_complete w l v (p.Type x) h G r at = stays h G (Found_as G (Expression (letter l x)) (expression (chosen v x))) (λ σ has e. (e, ap expression (at_letter w l v σ x r (at σ e))))
build_complete w l v p.Integer h G r at = stated_complete w l v p.Integer type.integer h G r at refl
build_complete w l v p.Boolean h G r at = stated_complete w l v p.Boolean type.boolean h G r at refl
build_complete w l v (p.Pair x y) h G r at = stated_complete w l v (p.Pair x y) (type.product (chosen v x) (chosen v y)) h G r at refl
build_complete w l v p.Integers h G r at = stated_complete w l v p.Integers (type.power type.integer) h G r at refl
build_complete w l v p.Booleans h G r at = stated_complete w l v p.Booleans (type.power type.boolean) h G r at refl
build_complete w l v (p.Atoms c) h G r at = stated_complete w l v (p.Atoms c) (type.power (type.carrier c)) h G r at refl
build_complete w l v (p.Set x) h G r at = stated_complete w l v (p.Set x) (type.power (chosen v x)) h G r at refl
build_complete w l v (p.Sets x) h G r at = stated_complete w l v (p.Sets x) (type.power (type.power (chosen v x))) h G r at refl
build_complete w l v (p.Relation x y) h G r at = stated_complete w l v (p.Relation x y) (type.power (type.product (chosen v x) (chosen v y))) h G r at refl
build_complete w l v (p.Relations x y) h G r at = stated_complete w l v (p.Relations x y) (type.power (type.power (type.product (chosen v x) (chosen v y)))) h G r at refl
build_complete w l v p.ToPairs h G r at = stated_complete w l v p.ToPairs (type.power (type.product v.for_a (type.product v.for_b v.for_c))) h G r at refl
build_complete w l v p.BetweenPairs h G r at = stated_complete w l v p.BetweenPairs (type.power (type.product (type.product v.for_a v.for_b) (type.product v.for_c v.for_d))) h G r at refl
build_complete w l v p.ToFirst h G r at = stated_complete w l v p.ToFirst (type.power (type.product (type.product v.for_a v.for_b) v.for_a)) h G r at refl
build_complete w l v p.ToSecond h G r at = stated_complete w l v p.ToSecond (type.power (type.product (type.product v.for_a v.for_b) v.for_b)) h G r at refl

none_complete : {types : List EbType} (v : Choice) (q : Pattern) (h : Generated) (G : Claim) → ((σ : ℕ → EbType) → G σ → predicate ≡ sort v q) → Grows types h (g.no_expression q h) G G
none_complete v p.Predicate h G is = stays h G G (λ σ has e. e)
none_complete v (p.Type x) h G is = never h (contradict 0 h) G G refl (λ σ e. no_sort (chosen v x) (is σ e))
none_complete v p.Integer h G is = never h (contradict 0 h) G G refl (λ σ e. no_sort type.integer (is σ e))
none_complete v p.Boolean h G is = never h (contradict 0 h) G G refl (λ σ e. no_sort type.boolean (is σ e))
none_complete v (p.Pair x y) h G is = never h (contradict 0 h) G G refl (λ σ e. no_sort (type.product (chosen v x) (chosen v y)) (is σ e))
none_complete v p.Integers h G is = never h (contradict 0 h) G G refl (λ σ e. no_sort (type.power type.integer) (is σ e))
none_complete v p.Booleans h G is = never h (contradict 0 h) G G refl (λ σ e. no_sort (type.power type.boolean) (is σ e))
none_complete v (p.Atoms c) h G is = never h (contradict 0 h) G G refl (λ σ e. no_sort (type.power (type.carrier c)) (is σ e))
none_complete v (p.Set x) h G is = never h (contradict 0 h) G G refl (λ σ e. no_sort (type.power (chosen v x)) (is σ e))
none_complete v (p.Sets x) h G is = never h (contradict 0 h) G G refl (λ σ e. no_sort (type.power (type.power (chosen v x))) (is σ e))
none_complete v (p.Relation x y) h G is = never h (contradict 0 h) G G refl (λ σ e. no_sort (type.power (type.product (chosen v x) (chosen v y))) (is σ e))
none_complete v (p.Relations x y) h G is = never h (contradict 0 h) G G refl (λ σ e. no_sort (type.power (type.power (type.product (chosen v x) (chosen v y)))) (is σ e))
none_complete v p.ToPairs h G is = never h (contradict 0 h) G G refl (λ σ e. no_sort (type.power (type.product v.for_a (type.product v.for_b v.for_c))) (is σ e))
none_complete v p.BetweenPairs h G is = never h (contradict 0 h) G G refl (λ σ e. no_sort (type.power (type.product (type.product v.for_a v.for_b) (type.product v.for_c v.for_d))) (is σ e))
none_complete v p.ToFirst h G is = never h (contradict 0 h) G G refl (λ σ e. no_sort (type.power (type.product (type.product v.for_a v.for_b) v.for_a)) (is σ e))
none_complete v p.ToSecond h G is = never h (contradict 0 h) G G refl (λ σ e. no_sort (type.power (type.product (type.product v.for_a v.for_b) v.for_b)) (is σ e))

fit_complete : {types : List EbType} (w : ℕ) (l : Letters) (v : Choice) (q : Pattern) (f : Found) (h : Generated) (G : Claim) → width q ≤ w → ((σ : ℕ → EbType) → G σ → At w l v σ) → ((σ : ℕ → EbType) → G σ → sort_at σ f ≡ sort v q) → Grows types h (fit l q f h) G G
fit_complete w l v q Predicate h G r at is = none_complete v q h G is
fit_complete w l v q (Expression k) h G r at is = state_complete w l v q k h G r at is

heads : (a b : Sort) (xs ys : List Sort) → a ∷ xs ≡ b ∷ ys → a ≡ b
heads a b xs ys e = cc

tails : (a b : Sort) (xs ys : List Sort) → a ∷ xs ≡ b ∷ ys → xs ≡ ys
tails a b xs ys e = cc

fits_complete : {types : List EbType} (w : ℕ) (l : Letters) (v : Choice) (qs : List Pattern) (whole : Pattern) (fs : List Found) (h : Generated) (G : Claim) → widest qs whole ≤ w → ((σ : ℕ → EbType) → G σ → At w l v σ) → ((σ : ℕ → EbType) → G σ → map (sort_at σ) fs ≡ map (sort v) qs) → Grows types h (fits l qs fs h) G G
fits_complete w l v [] whole [] h G r at is = stays h G G (λ σ has e. e)
fits_complete w l v [] whole (f ∷ fs) h G r at is = never h (contradict 0 h) G G refl (λ σ e. let c : sort_at σ f ∷ map (sort_at σ) fs ≡ [] = is σ e in absurd cc)
fits_complete w l v (q ∷ qs) whole [] h G r at is = never h (contradict 0 h) G G refl (λ σ e. let c : [] ≡ sort v q ∷ map (sort v) qs = is σ e in absurd cc)
fits_complete w l v (q ∷ qs) whole (f ∷ fs) h G r at is =
    then h (fit l q f h) (fits l qs fs (fit l q f h)) G G G
    (fit_complete w l v q f h G (omega (arith, r)) at (λ σ e. heads (sort_at σ f) (sort v q) (map (sort_at σ) fs) (map (sort v) qs) (is σ e)))
    (fits_complete w l v qs whole fs (fit l q f h) G (omega (arith, r)) at (λ σ e. tails (sort_at σ f) (sort v q) (map (sort_at σ) fs) (map (sort v) qs) (is σ e)))

rank_few : (x : Letter) → rank x ≤ 4
rank_few A = omega arith
rank_few B = omega arith
rank_few C = omega arith
rank_few D = omega arith

width_few : (q : Pattern) → width q ≤ 4
width_few p.Predicate = omega arith
width_few p.Integer = omega arith
width_few p.Boolean = omega arith
width_few p.Integers = omega arith
width_few p.Booleans = omega arith
width_few (p.Atoms s) = omega arith
width_few (p.Type x) = rank_few x
width_few (p.Set x) = rank_few x
width_few (p.Sets x) = rank_few x
width_few (p.Pair x y) = omega (arith, rank_few x, rank_few y)
width_few (p.Relation x y) = omega (arith, rank_few x, rank_few y)
width_few (p.Relations x y) = omega (arith, rank_few x, rank_few y)
width_few p.ToPairs = omega arith
width_few p.BetweenPairs = omega arith
width_few p.ToFirst = omega arith
width_few p.ToSecond = omega arith

widest_few : (qs : List Pattern) (whole : Pattern) → widest qs whole ≤ 4
widest_few [] whole = width_few whole
widest_few (q ∷ qs) whole = omega (arith, width_few q, widest_few qs whole)

widest_whole : (qs : List Pattern) (whole : Pattern) → width whole ≤ widest qs whole
widest_whole [] whole = omega arith
widest_whole (q ∷ qs) whole = omega (arith, widest_whole qs whole)

letters_complete : {types : List EbType} (w : ℕ) (v : Choice) (h : Generated) (G : Claim) → w ≤ 4 → Grows types h (after_letters w h) G (λ σ. G σ × At w (letters_at h.next) v σ)
letters_complete zero v h G r = record {
  more = [];
  next = omega arith;
  solves = λ σ has more given fit. (fit, (given, ((λ z. absurd (omega (arith, z))), (λ z. absurd (omega (arith, z))), (λ z. absurd (omega (arith, z))), (λ z. absurd (omega (arith, z))))));
}
letters_complete (suc zero) v h G r = record {
  more = v.for_a ∷ [];
  next = omega arith;
  solves = λ σ has more given fit. (fit, (given, ((λ z. more.0), (λ z. absurd (omega (arith, z))), (λ z. absurd (omega (arith, z))), (λ z. absurd (omega (arith, z))))));
}
letters_complete (suc (suc zero)) v h G r = record {
  more = v.for_a ∷ v.for_b ∷ [];
  next = omega arith;
  solves = λ σ has more given fit. (fit, (given, ((λ z. more.0), (λ z. more.1.0), (λ z. absurd (omega (arith, z))), (λ z. absurd (omega (arith, z))))));
}
letters_complete (suc (suc (suc zero))) v h G r = record {
  more = v.for_a ∷ v.for_b ∷ v.for_c ∷ [];
  next = omega arith;
  solves = λ σ has more given fit. (fit, (given, ((λ z. more.0), (λ z. more.1.0), (λ z. more.1.1.0), (λ z. absurd (omega (arith, z))))));
}
letters_complete (suc (suc (suc (suc zero)))) v h G r = record {
  more = v.for_a ∷ v.for_b ∷ v.for_c ∷ v.for_d ∷ [];
  next = omega arith;
  solves = λ σ has more given fit. (fit, (given, ((λ z. more.0), (λ z. more.1.0), (λ z. more.1.1.0), (λ z. more.1.1.1.0))));
}
letters_complete (suc (suc (suc (suc (suc w))))) v h G r = absurd (omega (arith, r))

row_complete : {types : List EbType} (v : Choice) (qs : List Pattern) (whole : Pattern) (fs : List Found) (h : Generated) (G : Claim) → ((σ : ℕ → EbType) → G σ → map (sort_at σ) fs ≡ map (sort v) qs) → Grows types h (row qs whole fs h).1 G (Found_as G (row qs whole fs h).0 (sort v whole))
row_complete v qs whole fs h G is =
    let w = widest qs whole in
    let l = letters_at h.next in
    let E : Claim = λ σ. G σ × At w l v σ in
    let m = after_letters w h in
    let k = fits l qs fs m in
    let o = row qs whole fs h in
    weaker h o.1 G (Found_as E o.0 (sort v whole)) (Found_as G o.0 (sort v whole)) (λ σ e. (e.0.0, e.1))
    (then h m o.1 G E (Found_as E o.0 (sort v whole)) (letters_complete w v h G (widest_few qs whole))
    (then m k o.1 E E (Found_as E o.0 (sort v whole)) (fits_complete w l v qs whole fs m E (omega arith) (λ σ e. e.1) (λ σ e. is σ e.0)) (build_complete w l v whole k E (widest_whole qs whole) (λ σ e. e.1))))

checked_complete : {types : List EbType} (asked k : ℕ) (t : EbType) (h : Generated) (G : Claim) → length types ≡ asked → slice_get types k ≡ Some t → Grows types h (checked asked k h) G (λ σ. G σ × (σ k ≡ t))
checked_complete {types} asked k t h G count e =
    let w : k < length types = slice_get_within types k t e in
    let l : k < asked = omega (arith, count, w) in
    rw (lt-ltb k asked l) (stays h G (λ σ. G σ × (σ k ≡ t)) (λ σ has x. (x, let z : 0 + k ≡ k = omega arith in subst (λ n. σ n ≡ t) z (has_get σ 0 k types t has e))))

-- both are something, or both nothing
abbrev AlikeOption : Option ℕ → Option EbType → Type 0
AlikeOption None None = ⊤
AlikeOption (Some k) (Some t) = ⊤
AlikeOption None (Some t) = ⊥
AlikeOption (Some k) None = ⊥

abbrev AlikeList : List (Option ℕ) → List (Option EbType) → Type 0
AlikeList [] [] = ⊤
AlikeList (k ∷ ks) (t ∷ ts) = AlikeOption k t × AlikeList ks ts
AlikeList [] (t ∷ ts) = ⊥
AlikeList (k ∷ ks) [] = ⊥

record Alike (t : Group ℕ) (u : Group EbType) : Type 0 where
  here : AlikeOption t.here u.here
  around : AlikeList t.around u.around
  next : t.next ≡ u.next

some_is : (t u : EbType) → Some t ≡ Some u → t ≡ u
some_is t u e = cc

paired_complete : {types : List EbType} (o : Option ℕ) (q : Option EbType) (k : ℕ) (u : EbType) (h : Generated) (G : Claim) → AlikeOption o q → ((σ : ℕ → EbType) → G σ → option_map σ o ≡ q) → ((σ : ℕ → EbType) → G σ → σ k ≡ u)
    → Grows types h (paired_with o k h).1 G (λ σ. G σ × (σ (paired_with o k h).0 ≡ paired type.product q u))
paired_complete None None k u h G a x y = stays h G (λ σ. G σ × (σ k ≡ u)) (λ σ has e. (e, y σ e))
paired_complete (Some j) (Some s) k u h G a x y = new_product j k s u h G (λ σ e. some_is (σ j) s (x σ e)) y
paired_complete None (Some t) k u h G a x y = absurd a
paired_complete (Some j) None k u h G a x y = absurd a

abbrev the_group : Option EbType → List (Option EbType) → ℕ → Group EbType
the_group x xs n = record { here = x; around = xs; next = n }

option_head : (a b : Option EbType) (xs ys : List (Option EbType)) → a ∷ xs ≡ b ∷ ys → a ≡ b
option_head a b xs ys e = cc

option_tail : (a b : Option EbType) (xs ys : List (Option EbType)) → a ∷ xs ≡ b ∷ ys → xs ≡ ys
option_tail a b xs ys e = cc

-- the group of numbers, and that of their types
abbrev Group_as : Claim → Group ℕ → Group EbType → Claim
Group_as G t u σ = G σ × (group_at σ t ≡ u)

record Step (types : List EbType) (asked : ℕ) (t : Group ℕ) (u w : Group EbType) (h : Generated) (m : Mark) (G : Claim) : Type 0 where
  alike : Alike (token asked (t, h) m).0 w
  grows : Grows types h (token asked (t, h) m).1 G (Group_as G (token asked (t, h) m).0 w)

group_here : (σ : ℕ → EbType) (t : Group ℕ) (u : Group EbType) → group_at σ t ≡ u → option_map σ t.here ≡ u.here
group_here σ t u e = ap (λ z. z.here) e

group_around : (σ : ℕ → EbType) (t : Group ℕ) (u : Group EbType) → group_at σ t ≡ u → map (option_map σ) t.around ≡ u.around
group_around σ t u e = ap (λ z. z.around) e

group_of : (x y : Option EbType) (xs ys : List (Option EbType)) (m n : ℕ) → x ≡ y → xs ≡ ys → m ≡ n
    → the_group x xs m ≡ the_group y ys n
group_of x y xs ys m n a b c = cc

identifier_step : {types : List EbType} (asked : ℕ) (t : Group ℕ) (u w : Group EbType) (h : Generated) (x : Identifier) (G : Claim) (s : EbType) → length types ≡ asked → Alike t u → ((σ : ℕ → EbType) → G σ → group_at σ t ≡ u)
    → slice_get types u.next ≡ Some s → the_group (Some (paired type.product u.here s)) u.around (u.next + 1) ≡ w → Step types asked t u w h (mark.Identifier x) G
identifier_step {types} asked t u w h x G s count a is e f =
    let k = t.next in
    let h1 = checked asked k h in
    let q = paired_with t.here k h1 in
    let e2 : slice_get types k ≡ Some s = rw a.next e in
    let E : Claim = λ σ. G σ × (σ k ≡ s) in
    let F : Claim = λ σ. E σ × (σ q.0 ≡ paired type.product u.here s) in
    record {
      alike = subst (λ z. Alike (token asked (t, h) (mark.Identifier x)).0 z) f (record { here = tt; around = a.around; next = ap (λ z. z + 1) a.next });
      grows = weaker h q.1 G F (Group_as G (token asked (t, h) (mark.Identifier x)).0 w)
          (λ σ y. (y.0.0, group_of (Some (σ q.0)) (Some (paired type.product u.here s)) (map (option_map σ) t.around) u.around (k + 1) (u.next + 1) (ap Some y.1) (group_around σ t u (is σ y.0.0)) (ap (λ z. z + 1) a.next) ∙ f))
          (then h h1 q.1 G E F (checked_complete asked k s h G count e2)
          (paired_complete t.here u.here k s h1 E a.here (λ σ y. group_here σ t u (is σ y.0)) (λ σ y. y.1)));
    }

with_one_is : (u w : Group EbType) (n : ℕ) (o : Option EbType) → with_one type.product u n o ≡ Some w → (s : EbType) × (o ≡ Some s) × (the_group (Some (paired type.product u.here s)) u.around n ≡ w)
with_one_is u w n (Some s) e = (s, refl, cc)
with_one_is u w n None e = absurd cc

close_step : {types : List EbType} (n : ℕ) (h : Generated) (around : List (Option ℕ)) (outer : List (Option EbType)) (here : Option ℕ) (last : Option EbType) (w : Group EbType) (G : Claim)
    → AlikeList around outer → AlikeOption here last → ((σ : ℕ → EbType) → G σ → map (option_map σ) around ≡ outer) → ((σ : ℕ → EbType) → G σ → option_map σ here ≡ last) → closed type.product outer n last ≡ Some w
    → Alike (g.closed_by n h around here).0 w × Grows types h (g.closed_by n h around here).1 G (Group_as G (g.closed_by n h around here).0 w)
close_step n h (o ∷ around) (q ∷ outer) (Some k) (Some s) w G a b x y e =
    let f : the_group (Some (paired type.product q s)) outer n ≡ w = cc in
    let r = paired_with o k h in
    let E : Claim = λ σ. G σ × (σ r.0 ≡ paired type.product q s) in (
      subst (λ z. Alike (g.closed_by n h (o ∷ around) (Some k)).0 z) f (record { here = tt; around = a.1; next = refl }),
      weaker h r.1 G E (Group_as G (g.closed_by n h (o ∷ around) (Some k)).0 w)
          (λ σ z. (z.0, group_of (Some (σ r.0)) (Some (paired type.product q s)) (map (option_map σ) around) outer n n (ap Some z.1) (option_tail (option_map σ o) q (map (option_map σ) around) outer (x σ z.0)) refl ∙ f))
          (paired_complete o q k s h G a.0 (λ σ z. option_head (option_map σ o) q (map (option_map σ) around) outer (x σ z)) (λ σ z. some_is (σ k) s (y σ z))),
    )
close_step n h around [] here last w G a b x y e = absurd cc
close_step n h around (q ∷ outer) here None w G a b x y e = absurd cc
close_step n h [] (q ∷ outer) here (Some s) w G a b x y e = absurd a
close_step n h (o ∷ around) (q ∷ outer) None (Some s) w G a b x y e = absurd b

token_complete : {types : List EbType} (asked : ℕ) (t : Group ℕ) (u w : Group EbType) (h : Generated) (m : Mark) (G : Claim) → length types ≡ asked → Alike t u → ((σ : ℕ → EbType) → G σ → group_at σ t ≡ u)
    → grouped (slice_get types) type.product u m ≡ Some w → Step types asked t u w h m G
token_complete {types} asked t u w h (mark.Identifier x) G count a is e =
    let i = with_one_is u w (u.next + 1) (slice_get types u.next) e in
    identifier_step asked t u w h x G i.0 count a is i.1 i.2
token_complete {types} asked t u w h mark.MapsTo G count a is e =
    let f : u ≡ w = cc in
    subst (λ z. Step types asked t u z h mark.MapsTo G) f (record { alike = a; grows = stays h G (Group_as G t u) (λ σ has y. (y, is σ y)) })
token_complete {types} asked t u w h mark.Open G count a is e =
    let f : the_group None (u.here ∷ u.around) u.next ≡ w = cc in
    subst (λ z. Step types asked t u z h mark.Open G) f (record {
      alike = record { here = tt; around = (a.here, a.around); next = a.next };
      grows = stays h G (Group_as G (g.opened t) (the_group None (u.here ∷ u.around) u.next)) (λ σ has y. (y, ap (λ z. the_group None (z.here ∷ z.around) z.next) (is σ y)));
    })
token_complete asked t u w h mark.Close G count a is e =
    let e2 : closed type.product u.around t.next u.here ≡ Some w = rw a.next e in
    let c = close_step t.next h t.around u.around t.here u.here w G a.around a.here (λ σ y. group_around σ t u (is σ y)) (λ σ y. group_here σ t u (is σ y)) e2 in
    record { alike = c.0; grows = c.1 }

then_some : {X Y : Type 0} (f : X → Option Y) (o : Option X) (y : Y) → option_and_then f o ≡ Some y → (x : X) × (o ≡ Some x) × (f x ≡ Some y)
then_some f (Some x) y e = (x, refl, e)
then_some f None y e = absurd cc

end_complete : {types : List EbType} (o : Option ℕ) (q : Option EbType) (s : EbType) (h : Generated) (G : Claim) → AlikeOption o q → ((σ : ℕ → EbType) → G σ → option_map σ o ≡ q) → q ≡ Some s
    → Grows types h (tuple_end o h).1 G (Found_as G (tuple_end o h).0 (expression s))
end_complete (Some k) q s h G a x e = stays h G (Found_as G (Expression k) (expression s)) (λ σ has y. (y, ap expression (some_is (σ k) s (x σ y ∙ e))))
end_complete None (Some t) s h G a x e = absurd a
end_complete None None s h G a x e = absurd cc

tuple_complete : {types : List EbType} (asked : ℕ) (ms : List Mark) (t : Group ℕ) (u : Group EbType) (s : EbType) (h : Generated) (G : Claim) → length types ≡ asked → Alike t u → ((σ : ℕ → EbType) → G σ → group_at σ t ≡ u)
    → pattern_from (slice_get types) type.product ms u ≡ Some s → (let e = fold (token asked) (t, h) ms in Grows types h (tuple_end e.0.here e.1).1 G (Found_as G (tuple_end e.0.here e.1).0 (expression s)))
tuple_complete asked [] t u s h G count a is e = end_complete t.here u.here s h G a.here (λ σ y. group_here σ t u (is σ y)) e
tuple_complete {types} asked (m ∷ ms) t u s h G count a is e =
    let i = then_some (pattern_from (slice_get types) type.product ms) (grouped (slice_get types) type.product u m) s e in
    let w = i.0 in
    let step = token_complete asked t u w h m G count a is i.1 in
    let k = token asked (t, h) m in
    let F = Group_as G k.0 w in
    let z = fold (token asked) k ms in
    let q = tuple_end z.0.here z.1 in
    weaker h q.1 G (Found_as F q.0 (expression s)) (Found_as G q.0 (expression s)) (λ σ y. (y.0.0, y.1))
    (then h k.1 q.1 G F (Found_as F q.0 (expression s)) step.grows
    (tuple_complete asked ms k.0 w s k.1 F count step.alike (λ σ y. y.1) i.2))

mutual
  pub gen_complete : (t : Numbered) {types : List EbType} (s : Sort) (asked : ℕ) (h : Generated) (G : Claim) → length types ≡ asked → HasSort types t s → Grows types h (gen asked t h).1 G (Found_as G (gen asked t h).0 s)
  gen_complete (typed k) s asked h G count w =
      weaker h (checked asked k h) G (λ σ. G σ × (σ k ≡ w.0)) (Found_as G (Expression k) s) (λ σ y. (y.0, ap expression y.1 ∙ sym w.2)) (checked_complete asked k w.0 h G count w.1)
  gen_complete unknown s asked h G count w = absurd w
  gen_complete (tuple ms n) s asked h G count w =
      let q = tuple_made asked ms n h in
      weaker h q.1 G (Found_as G q.0 (expression w.0)) (Found_as G q.0 s) (λ σ y. (y.0, y.1 ∙ sym w.2))
      (tuple_complete asked ms (ungrouped ℕ n) (ungrouped EbType n) w.0 h G count (record { here = tt; around = tt; next = refl }) (λ σ y. refl) w.1)
  gen_complete (made qs whole ts) s asked h G count w =
      let r = gens asked ts h in
      let F : Claim = λ σ. G σ × (map (sort_at σ) r.0 ≡ map (sort w.0) qs) in
      let q = row qs whole r.0 r.1 in
      weaker h q.1 G (Found_as F q.0 (sort w.0 whole)) (Found_as G q.0 s) (λ σ y. (y.0.0, y.1 ∙ sym w.2))
      (then h r.1 q.1 G F (Found_as F q.0 (sort w.0 whole)) (gens_complete ts (map (sort w.0) qs) asked h G count w.1) (row_complete w.0 qs whole r.0 r.1 F (λ σ y. y.1)))

  pub gens_complete : (ts : Parts) {types : List EbType} (ss : List Sort) (asked : ℕ) (h : Generated) (G : Claim) → length types ≡ asked → HaveSorts types ts ss → Grows types h (gens asked ts h).1 G (λ σ. G σ × (map (sort_at σ) (gens asked ts h).0 ≡ ss))
  gens_complete none [] asked h G count w = stays h G (λ σ. G σ × ([] ≡ [])) (λ σ has y. (y, refl))
  gens_complete none (s ∷ ss) asked h G count w = absurd w
  gens_complete (also t ts) [] asked h G count w = absurd w
  gens_complete (also t ts) (s ∷ ss) asked h G count w =
      let q = gen asked t h in
      let r = gens asked ts q.1 in
      let F = Found_as G q.0 s in
      let E : Claim = λ σ. F σ × (map (sort_at σ) r.0 ≡ ss) in
      weaker h r.1 G E (λ σ. G σ × (sort_at σ q.0 ∷ map (sort_at σ) r.0 ≡ s ∷ ss)) (λ σ y. (y.0.0, cc (y.0.1, y.1)))
      (then h q.1 r.1 G F E (gen_complete t s asked h G count w.0) (gens_complete ts ss asked q.1 F count w.1))

demand_complete : {types : List EbType} (f : Found) (h : Generated) (G : Claim) → ((σ : ℕ → EbType) → G σ → sort_at σ f ≡ predicate) → Grows types h (demand f h) G G
demand_complete Predicate h G is = stays h G G (λ σ has y. y)
demand_complete (Expression k) h G is = never h (contradict k h) G G refl (λ σ y. let c : expression (σ k) ≡ predicate = is σ y in absurd cc)

pub all_complete : {types : List EbType} (asked : ℕ) (h : Generated) (ts : List Numbered) (G : Claim) → length types ≡ asked → ArePredicates types ts → Grows types h (all_demanded asked h ts) G G
all_complete asked h [] G count w = stays h G G (λ σ has y. y)
all_complete asked h (t ∷ ts) G count w =
    let q = gen asked t h in
    let k = demand q.0 q.1 in
    let F = Found_as G q.0 predicate in
    then h k (all_demanded asked k ts) G G G
    (weaker h k G F G (λ σ y. y.0) (then h q.1 k G F F (gen_complete t predicate asked h G count w.0) (demand_complete q.0 q.1 F (λ σ y. y.1))))
    (all_complete asked k ts G count w.1)
