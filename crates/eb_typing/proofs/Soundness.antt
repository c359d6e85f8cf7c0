-- What solves the equations of a formula gives it its sort.
use Rattle.std.proofs.Common.{◌≡◌, ◌∙◌, ℕ, ◌+◌, Bool, true, false, List, [], ◌∷◌, map, refl, sym, ap, subst, cond, ltb}
use Rattle.std.proofs.lemmas.Bool.{ltb-true}
use Rattle.std.specs.Prelude.{Option, Some, None, slice_get, fold, option_map, option_and_then}
use Rattle.eb_syntax.specs.declared.ast.Mark.{Mark}
use Rattle.eb_syntax.specs.declared.ast.Mark.TheVariants as mark
use Rattle.eb_value.specs.declared.types.EbType.{EbType}
use Rattle.eb_value.specs.Types as type
use Rattle.type_equations.specs.declared.equation.Equation.TheVariants as eq
use Rattle.type_equations.specs.Equations.{types_below}
use Rattle.type_table.specs.declared.pattern.Letter.{Letter}
use Rattle.type_table.specs.declared.pattern.Letter.TheVariants.{A, B, C, D}
use Rattle.type_table.specs.declared.pattern.Pattern.{Pattern}
use Rattle.type_table.specs.declared.pattern.Pattern.TheVariants as p
use Rattle.eb_typing.specs.declared.generated.Found.{Found}
use Rattle.eb_typing.specs.declared.generated.Found.TheVariants.{Predicate, Expression}
use Rattle.eb_typing.specs.declared.generated.Letters.{Letters}
use Rattle.eb_typing.specs.declared.generated.Generated.{Generated}
use Rattle.type_table.specs.Rows.{Sort, predicate, expression, Choice, chosen, sort}
use Rattle.eb_typing.specs.Numbering.{Numbered, typed, unknown, tuple, made, Parts, none, also}
use Rattle.eb_resolved.specs.Patterns.{Group, ungrouped, paired, closed, grouped, pattern_from}
use Rattle.eb_typing.specs.Typing.{HasSort, HaveSorts, ArePredicates}
use Rattle.eb_typing.specs.steps.Generating as g
use Rattle.eb_typing.specs.steps.Generating.{put, contradict, letter, state, build, fit, fits, row, gen, gens, checked, paired_with, token, tuple_end, tuple_made, demand, demanded, letters_at, after_letters, widest}
use Rattle.eb_typing.specs.steps.Demanding.{all_demanded}
use Rattle.eb_typing.proofs.Solving.{Fit, fits_put, fits_contradict, slice_get-types_below}

-- what was found, where numbers have these types
abbrev pub sort_at : (ℕ → EbType) → Found → Sort
sort_at σ Predicate = predicate
sort_at σ (Expression k) = expression (σ k)

abbrev pub choice_at : (ℕ → EbType) → Letters → Choice
choice_at σ l = record { for_a = σ l.a; for_b = σ l.b; for_c = σ l.c; for_d = σ l.d }

pub chosen_at : (σ : ℕ → EbType) (l : Letters) (x : Letter) → chosen (choice_at σ l) x ≡ σ (letter l x)
chosen_at σ l A = refl
chosen_at σ l B = refl
chosen_at σ l C = refl
chosen_at σ l D = refl

-- a new number
power_made : (σ : ℕ → EbType) (m : ℕ) (h : Generated) → Fit σ (g.power m h).1 → Fit σ h × (σ (g.power m h).0 ≡ type.power (σ m))
power_made σ m h s = fits_put σ (eq.Power h.next m) (g.after_fresh h) s

product_made : (σ : ℕ → EbType) (j k : ℕ) (h : Generated) → Fit σ (g.product j k h).1 → Fit σ h × (σ (g.product j k h).0 ≡ type.product (σ j) (σ k))
product_made σ j k h s = fits_put σ (eq.Product h.next j k) (g.after_fresh h) s

relation_stated : (σ : ℕ → EbType) (k i j : ℕ) (h : Generated) → Fit σ (g.state_relation k i j h) → Fit σ h × (σ k ≡ type.power (type.product (σ i) (σ j)))
relation_stated σ k i j h s =
    let q = g.product i j h in
    let a = fits_put σ (eq.Power k q.0) q.1 s in
    let b = product_made σ i j h a.0 in
    (b.0, a.1 ∙ ap type.power b.1)

-- what a pattern says of a number
state_sound : (σ : ℕ → EbType) (l : Letters) (q : Pattern) (k : ℕ) (h : Generated) → Fit σ (state l q k h) → Fit σ h × (expression (σ k) ≡ sort (choice_at σ l) q)
state_sound σ l p.Predicate k h s = absurd (fits_contradict σ k h s)
state_sound σ l p.Integer k h s = let a = fits_put σ (eq.Integer k) h s in (a.0, ap expression a.1)
state_sound σ l p.Boolean k h s = let a = fits_put σ (eq.Boolean k) h s in (a.0, ap expression a.1)
state_sound σ l (p.Type x) k h s = let a = fits_put σ (eq.Same k (letter l x)) h s in (a.0, ap expression (a.1 ∙ sym (chosen_at σ l x)))
state_sound σ l (p.Pair x y) k h s = let a = fits_put σ (eq.Product k (letter l x) (letter l y)) h s in (a.0, rw (chosen_at σ l x, chosen_at σ l y) (ap expression a.1))
state_sound σ l p.Integers k h s =
    let q = g.integer h in let a = fits_put σ (eq.Power k q.0) q.1 s in let b = fits_put σ (eq.Integer h.next) (g.after_fresh h) a.0 in
    (b.0, ap expression (a.1 ∙ ap type.power b.1))
state_sound σ l p.Booleans k h s =
    let q = g.boolean h in let a = fits_put σ (eq.Power k q.0) q.1 s in let b = fits_put σ (eq.Boolean h.next) (g.after_fresh h) a.0 in
    (b.0, ap expression (a.1 ∙ ap type.power b.1))
state_sound σ l (p.Atoms c) k h s =
    let q = g.carrier c h in let a = fits_put σ (eq.Power k q.0) q.1 s in let b = fits_put σ (eq.Carrier h.next c) (g.after_fresh h) a.0 in
    (b.0, ap expression (a.1 ∙ ap type.power b.1))
state_sound σ l (p.Set x) k h s = let a = fits_put σ (eq.Power k (letter l x)) h s in (a.0, rw (chosen_at σ l x) (ap expression a.1))
state_sound σ l (p.Sets x) k h s =
    let q = g.power (letter l x) h in let a = fits_put σ (eq.Power k q.0) q.1 s in let b = power_made σ (letter l x) h a.0 in
    (b.0, rw (chosen_at σ l x) (ap expression (a.1 ∙ ap type.power b.1)))
state_sound σ l (p.Relation x y) k h s = let a = relation_stated σ k (letter l x) (letter l y) h s in (a.0, rw (chosen_at σ l x, chosen_at σ l y) (ap expression a.1))
state_sound σ l (p.Relations x y) k h s =
    let a = relation_stated σ h.next (letter l x) (letter l y) (put (eq.Power k h.next) (g.after_fresh h)) s in
    let b = fits_put σ (eq.Power k h.next) (g.after_fresh h) a.0 in
    (b.0, rw (chosen_at σ l x, chosen_at σ l y) (ap expression (b.1 ∙ ap type.power a.1)))
state_sound σ l p.ToPairs k h s =
    let q = g.product l.b l.c h in
    let a = relation_stated σ k l.a q.0 q.1 s in let b = product_made σ l.b l.c h a.0 in
    (b.0, ap expression (a.1 ∙ ap (λ t. type.power (type.product (σ l.a) t)) b.1))
state_sound σ l p.BetweenPairs k h s =
    let q = g.product l.a l.b h in let r = g.product l.c l.d q.1 in
    let a = relation_stated σ k q.0 r.0 r.1 s in let b = product_made σ l.c l.d q.1 a.0 in let c = product_made σ l.a l.b h b.0 in
    (c.0, ap expression (a.1 ∙ (ap (λ t. type.power (type.product t (σ r.0))) c.1 ∙ ap (λ t. type.power (type.product (type.product (σ l.a) (σ l.b)) t)) b.1)))
state_sound σ l p.ToFirst k h s =
    let q = g.product l.a l.b h in
    let a = relation_stated σ k q.0 l.a q.1 s in let b = product_made σ l.a l.b h a.0 in
    (b.0, ap expression (a.1 ∙ ap (λ t. type.power (type.product t (σ l.a))) b.1))
state_sound σ l p.ToSecond k h s =
    let q = g.product l.a l.b h in
    let a = relation_stated σ k q.0 l.b q.1 s in let b = product_made σ l.a l.b h a.0 in
    (b.0, ap expression (a.1 ∙ ap (λ t. type.power (type.product t (σ l.b))) b.1))

build_sound : (σ : ℕ → EbType) (l : Letters) (q : Pattern) (h : Generated) → Fit σ (build l q h).1 → Fit σ h × (sort_at σ (build l q h).0 ≡ sort (choice_at σ l) q)
build_sound σ l p.Predicate h s = (s, refl)
build_sound σ l (p.Type x) h s = (s, ap expression (sym (chosen_at σ l x)))
build_sound σ l p.Integer h s = state_sound σ l p.Integer h.next (g.after_fresh h) s
build_sound σ l p.Boolean h s = state_sound σ l p.Boolean h.next (g.after_fresh h) s
build_sound σ l (p.Pair x y) h s = state_sound σ l (p.Pair x y) h.next (g.after_fresh h) s
build_sound σ l p.Integers h s = state_sound σ l p.Integers h.next (g.after_fresh h) s
build_sound σ l p.Booleans h s = state_sound σ l p.Booleans h.next (g.after_fresh h) s
build_sound σ l (p.Atoms c) h s = state_sound σ l (p.Atoms c) h.next (g.after_fresh h) s
build_sound σ l (p.Set x) h s = state_sound σ l (p.Set x) h.next (g.after_fresh h) s
build_sound σ l (p.Sets x) h s = state_sound σ l (p.Sets x) h.next (g.after_fresh h) s
build_sound σ l (p.Relation x y) h s = state_sound σ l (p.Relation x y) h.next (g.after_fresh h) s
build_sound σ l (p.Relations x y) h s = state_sound σ l (p.Relations x y) h.next (g.after_fresh h) s
build_sound σ l p.ToPairs h s = state_sound σ l p.ToPairs h.next (g.after_fresh h) s
build_sound σ l p.BetweenPairs h s = state_sound σ l p.BetweenPairs h.next (g.after_fresh h) s
build_sound σ l p.ToFirst h s = state_sound σ l p.ToFirst h.next (g.after_fresh h) s
build_sound σ l p.ToSecond h s = state_sound σ l p.ToSecond h.next (g.after_fresh h) s

none_sound : (σ : ℕ → EbType) (v : Choice) (q : Pattern) (h : Generated) → Fit σ (g.no_expression q h) → Fit σ h × (predicate ≡ sort v q)
none_sound σ v p.Predicate h s = (s, refl)
none_sound σ v q h s = absurd (fits_contradict σ 0 h s)

fit_sound : (σ : ℕ → EbType) (l : Letters) (q : Pattern) (f : Found) (h : Generated) → Fit σ (fit l q f h) → Fit σ h × (sort_at σ f ≡ sort (choice_at σ l) q)
fit_sound σ l q Predicate h s = none_sound σ (choice_at σ l) q h s
fit_sound σ l q (Expression k) h s = state_sound σ l q k h s

fits_sound : (σ : ℕ → EbType) (l : Letters) (qs : List Pattern) (fs : List Found) (h : Generated) → Fit σ (fits l qs fs h) → Fit σ h × (map (sort_at σ) fs ≡ map (sort (choice_at σ l)) qs)
fits_sound σ l [] [] h s = (s, refl)
fits_sound σ l [] (f ∷ fs) h s = absurd (fits_contradict σ 0 h s)
fits_sound σ l (q ∷ qs) [] h s = absurd (fits_contradict σ 0 h s)
fits_sound σ l (q ∷ qs) (f ∷ fs) h s =
    let a = fits_sound σ l qs fs (fit l q f h) s in
    let b = fit_sound σ l q f h a.0 in
    (b.0, cc (a.1, b.1))

-- what is made of parts
record RowSound (σ : ℕ → EbType) (qs : List Pattern) (whole : Pattern) (fs : List Found) (h : Generated) : Type 0 where
  before : Fit σ h
  choice : Choice
  parts : map (sort_at σ) fs ≡ map (sort choice) qs
  is : sort_at σ (row qs whole fs h).0 ≡ sort choice whole

row_sound : (σ : ℕ → EbType) (qs : List Pattern) (whole : Pattern) (fs : List Found) (h : Generated) → Fit σ (row qs whole fs h).1 → RowSound σ qs whole fs h
row_sound σ qs whole fs h s =
    let l = letters_at h.next in
    let m = after_letters (widest qs whole) h in
    let a = build_sound σ l whole (fits l qs fs m) s in
    let b = fits_sound σ l qs fs m a.0 in
    record { before = b.0; choice = choice_at σ l; parts = b.1; is = a.1 }

checked_by : (σ : ℕ → EbType) (asked k : ℕ) (h : Generated) (b : Bool) → ltb k asked ≡ b → Fit σ (cond b h (contradict k h)) → Fit σ h × (slice_get (types_below asked σ) k ≡ Some (σ k))
checked_by σ asked k h true e s = (s, slice_get-types_below σ asked k (ltb-true k asked e))
checked_by σ asked k h false e s = absurd (fits_contradict σ k h s)

checked_sound : (σ : ℕ → EbType) (asked k : ℕ) (h : Generated) → Fit σ (checked asked k h) → Fit σ h × (slice_get (types_below asked σ) k ≡ Some (σ k))
checked_sound σ asked k h s = checked_by σ asked k h (ltb k asked) refl s

abbrev pub group_at : (ℕ → EbType) → Group ℕ → Group EbType
group_at σ t = record { here = option_map σ t.here; around = map (option_map σ) t.around; next = t.next }

pair_sound : (σ : ℕ → EbType) (o : Option ℕ) (k : ℕ) (h : Generated) → Fit σ (paired_with o k h).1 → Fit σ h × (σ (paired_with o k h).0 ≡ paired type.product (option_map σ o) (σ k))
pair_sound σ None k h s = (s, refl)
pair_sound σ (Some j) k h s = product_made σ j k h s

closed_sound : (σ : ℕ → EbType) (n : ℕ) (h : Generated) (around : List (Option ℕ)) (here : Option ℕ) → Fit σ (g.closed_by n h around here).1
    → Fit σ h × (closed type.product (map (option_map σ) around) n (option_map σ here) ≡ Some (group_at σ (g.closed_by n h around here).0))
closed_sound σ n h (o ∷ around) (Some k) s =
    let a = pair_sound σ o k h s in
    (a.0, ap (λ t. Some (record { here = Some t; around = map (option_map σ) around; next = n })) (sym a.1))
closed_sound σ n h (o ∷ around) None s = absurd (fits_contradict σ 0 h s)
closed_sound σ n h [] here s = absurd (fits_contradict σ 0 h s)

token_sound : (σ : ℕ → EbType) (asked : ℕ) (t : Group ℕ) (h : Generated) (m : Mark) → Fit σ (token asked (t, h) m).1
    → Fit σ h × (grouped (slice_get (types_below asked σ)) type.product (group_at σ t) m ≡ Some (group_at σ (token asked (t, h) m).0))
token_sound σ asked t h (mark.Identifier x) s =
    let a = pair_sound σ t.here t.next (checked asked t.next h) s in
    let b = checked_sound σ asked t.next h a.0 in
    (b.0, rw b.1 (ap (λ z. Some (record { here = Some z; around = map (option_map σ) t.around; next = t.next + 1 })) (sym a.1)))
token_sound σ asked t h mark.MapsTo s = (s, refl)
token_sound σ asked t h mark.Open s = (s, refl)
token_sound σ asked t h mark.Close s = closed_sound σ t.next h t.around t.here s

record TupleSound (σ : ℕ → EbType) (asked : ℕ) (ms : List Mark) (t : Group ℕ) (h : Generated) (found : Found) : Type 0 where
  before : Fit σ h
  number : ℕ
  is : found ≡ Expression number
  type : pattern_from (slice_get (types_below asked σ)) type.product ms (group_at σ t) ≡ Some (σ number)

tuple_sound : (σ : ℕ → EbType) (asked : ℕ) (ms : List Mark) (s : Group ℕ × Generated) → (let e = fold (token asked) s ms in Fit σ (tuple_end e.0.here e.1).1 → TupleSound σ asked ms s.0 s.1 (tuple_end e.0.here e.1).0)
tuple_sound σ asked [] s k = end s.0.here s.0 refl k
  where
    end : (o : Option ℕ) (t : Group ℕ) → t.here ≡ o → Fit σ (tuple_end o s.1).1 → TupleSound σ asked [] t s.1 (tuple_end o s.1).0
    end (Some n) t e k = record { before = k; number = n; is = refl; type = ap (option_map σ) e }
    end None t e k = absurd (fits_contradict σ 0 s.1 k)
tuple_sound σ asked (m ∷ ms) s k =
    let a = tuple_sound σ asked ms (token asked s m) k in
    let b = token_sound σ asked s.0 s.1 m a.before in
    record { before = b.0; number = a.number; is = a.is; type = ap (λ o. option_and_then (pattern_from (slice_get (types_below asked σ)) type.product ms) o) b.1 ∙ a.type }

mutual
  pub gen_sound : (t : Numbered) (σ : ℕ → EbType) (asked : ℕ) (h : Generated) → Fit σ (gen asked t h).1 → Fit σ h × HasSort (types_below asked σ) t (sort_at σ (gen asked t h).0)
  gen_sound (typed k) σ asked h s = let a = checked_sound σ asked k h s in (a.0, (σ k, a.1, refl))
  gen_sound unknown σ asked h s = absurd (fits_contradict σ 0 h s)
  gen_sound (tuple ms n) σ asked h s = let a = tuple_sound σ asked ms (ungrouped ℕ n, h) s in (a.before, (σ a.number, a.type, ap (sort_at σ) a.is))
  gen_sound (made qs whole ts) σ asked h s =
      let r = gens asked ts h in
      let a = row_sound σ qs whole r.0 r.1 s in
      let b = gens_sound ts σ asked h a.before in
      (b.0, (a.choice, subst (λ ss. HaveSorts (types_below asked σ) ts ss) a.parts b.1, a.is))

  pub gens_sound : (ts : Parts) (σ : ℕ → EbType) (asked : ℕ) (h : Generated) → Fit σ (gens asked ts h).1 → Fit σ h × HaveSorts (types_below asked σ) ts (map (sort_at σ) (gens asked ts h).0)
  gens_sound none σ asked h s = (s, tt)
  gens_sound (also t ts) σ asked h s =
      let q = gen asked t h in
      let a = gens_sound ts σ asked q.1 s in
      let b = gen_sound t σ asked h a.0 in
      (b.0, (b.1, a.1))

demand_sound : (σ : ℕ → EbType) (f : Found) (h : Generated) → Fit σ (demand f h) → Fit σ h × (sort_at σ f ≡ predicate)
demand_sound σ Predicate h s = (s, refl)
demand_sound σ (Expression k) h s = absurd (fits_contradict σ k h s)

pub all_sound : (σ : ℕ → EbType) (asked : ℕ) (h : Generated) (ts : List Numbered) → Fit σ (all_demanded asked h ts) → Fit σ h × ArePredicates (types_below asked σ) ts
all_sound σ asked h [] s = (s, tt)
all_sound σ asked h (t ∷ ts) s =
    let r = all_sound σ asked (demanded asked t h) ts s in
    let q = gen asked t h in
    let a = demand_sound σ q.0 q.1 r.0 in
    let b = gen_sound t σ asked h a.0 in
    (b.0, (subst (λ s. HasSort (types_below asked σ) t s) a.1 b.1, r.1))
