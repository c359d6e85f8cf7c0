-- A tree without open boxes, which holds in a store that has what comes of a solution, is impossible.
use Rattle.std.proofs.Common.{◌≡◌, ◌⊎◌, inl, inr, ◌∙◌, refl, sym, ap, ap₂, subst, ℕ, zero, suc, ◌+◌, ◌<◌, true, false, List, [], ◌∷◌, ◌++◌, length, Option, Some, None, slice_get, unwrap_or, MatchOption, arith}
use Rattle.std.proofs.lemmas.Option.{slice_get_within, unwrap_or-slice_get}
use Rattle.eb_value.specs.declared.scope.Scope.{Scope}
use Rattle.eb_value.specs.declared.value.Value.{Value}
use Rattle.eb_term.specs.declared.problem.Choice.{Choice}
use Rattle.eb_term.specs.declared.problem.Problem.{Problem}
use Rattle.eb_term.specs.declared.term.Term.{Term}
use Rattle.eb_meaning.specs.Problems.{IsValuation, IsTrueOf, IsSolution}
use Rattle.occ_domains.specs.declared.domain.Domain.{Domain}
use Rattle.occ_domains.specs.declared.tests.Test.{Test}
use Rattle.occ_domains.specs.Domains.{Outcome, slot, has, is_empty, single}
use Rattle.occ_domains.specs.Tests.{parts}
use Rattle.occurrences.specs.declared.place.Place.{Place}
use Rattle.occurrences.specs.declared.place.Place.TheVariants as place
use Rattle.occurrences.specs.declared.place.Rule.{Rule}
use Rattle.occurrences.specs.Occurrences.{Occurs, choice}
use Rattle.occurrences.specs.Stores.{Domains, with_domain}
use Rattle.occurrences.specs.Targets.{target}
use Rattle.occurrences.specs.Outcomes.{ComesAt, HaveWhatComes}
use Rattle.node_rules.specs.Narrowing.{narrowed}
use Rattle.tree_lines.specs.declared.line.Line.{Line}
use Rattle.refutation_trees.specs.Fresh.{Task, anywhere}
use Rattle.refutation_trees.specs.Trees.{followed_by, values_from, single_values, IsUntrue, Leaves, narrow, split, clash, eval, left_open, Tree, Holds, at_leaf, at_one, at_two, lines_of, opens}

-- what the proof rests on, for one solution
pub record Rests (scope : Scope) (p : Problem) (values : List Value) : Type 0 where
  pub solution : IsSolution scope p values
  pub rules : (at : Domains) → HaveWhatComes scope p values at → (rule : Rule) (from : Place) (bound : List Value) (to : Place) → Occurs scope p from bound
      → target p rule from ≡ Some to → HaveWhatComes scope p values (narrowed scope p at rule from bound to)
  pub there : (at : Place) (bound : List Value) → Occurs scope p at bound → (o : Outcome) × ComesAt scope p values at bound o
  pub split : (at : Domains) → HaveWhatComes scope p values at → (here : Place) (bound : List Value) → Occurs scope p here bound
      → (t : Test) (two : Domain × Domain) → parts (at here bound) t ≡ Some two
      → HaveWhatComes scope p values (with_domain at here bound two.0) ⊎ HaveWhatComes scope p values (with_domain at here bound two.1)
  pub none : (d : Domain) (o : Outcome) → is_empty d ≡ true → has d o ≡ false
  pub single : (d : Domain) (v : Value) (o : Outcome) → single d ≡ Some v → has d o ≡ true → o ≡ slot (Some v)

opens_append : (xs ys : List Line) → opens (xs ++ ys) ≡ opens xs + opens ys
opens_append [] ys = omega arith
opens_append (x ∷ xs) ys = let h = opens_append xs ys in omega (arith, h)

module _ {scope : Scope} {p : Problem} {values : List Value} (rests : Rests scope p values) where
  nothing_comes : (at : Domains) → HaveWhatComes scope p values at → (here : Place) (bound : List Value) → Occurs scope p here bound → is_empty (at here bound) ≡ true → ⊥
  nothing_comes at have here bound occurs e =
      let w = rests.there here bound occurs in
      let k : false ≡ true = sym (rests.none (at here bound) w.0 e) ∙ have here bound w.0 occurs w.1 in
      absurd (cc)

  value_length : (cs : List Choice) (vs : List Value) → IsValuation scope cs vs → length vs ≡ length cs
  value_length [] [] h = refl
  value_length [] (v ∷ vs) h = absurd h
  value_length (c ∷ cs) [] h = absurd h
  value_length (c ∷ cs) (v ∷ vs) h = ap suc (value_length cs vs h.1)

  same_lists : (xs ys : List Value) → length xs ≡ length ys → ((k : ℕ) (x y : Value) → slice_get xs k ≡ Some x → slice_get ys k ≡ Some y → x ≡ y) → xs ≡ ys
  same_lists [] [] l f = refl
  same_lists [] (y ∷ ys) l f = absurd (cc)
  same_lists (x ∷ xs) [] l f = absurd (cc)
  same_lists (x ∷ xs) (y ∷ ys) l f = ap₂ (λ z zs. z ∷ zs) (f 0 x y refl refl) (same_lists xs ys (let e : length xs ≡ length ys = cc in e) (λ k. f (suc k)))

  value_there : (at : Domains) (k : ℕ) (cs : List Choice) (row : List Value) → values_from at k cs ≡ Some row → length row ≡ length cs
  value_there at k [] row e = cc
  value_there at k (c ∷ cs) row e = by (single (at (place.Choice k) [])) (values_from at (suc k) cs) refl e (value_there at (suc k) cs) where
    by : (x : Option Value) (y : Option (List Value)) → values_from at (suc k) cs ≡ y → followed_by x y ≡ Some row
        → ((vs : List Value) → values_from at (suc k) cs ≡ Some vs → length vs ≡ length cs) → length row ≡ suc (length cs)
    by None y f g later = let q : None ≡ Some row = g in cc
    by (Some v) None f g later = let q : None ≡ Some row = g in cc
    by (Some v) (Some vs) f g later = let q : v ∷ vs ≡ row = cc in ap length (sym q) ∙ ap suc (later vs f)

  value_at : (at : Domains) (k : ℕ) (cs : List Choice) (row : List Value) → values_from at k cs ≡ Some row → (i : ℕ) (v : Value) → slice_get row i ≡ Some v
      → single (at (place.Choice (k + i)) []) ≡ Some v
  value_at at k [] row e i v f = absurd (let q : [] ≡ row = cc in cc)
  value_at at k (c ∷ cs) row e i v f = by (single (at (place.Choice k) [])) (values_from at (suc k) cs) refl refl e i f (value_at at (suc k) cs) where
    by : (x : Option Value) (y : Option (List Value)) → single (at (place.Choice k) []) ≡ x → values_from at (suc k) cs ≡ y → followed_by x y ≡ Some row → (i : ℕ) → slice_get row i ≡ Some v
        → ((vs : List Value) → values_from at (suc k) cs ≡ Some vs → (j : ℕ) (w : Value) → slice_get vs j ≡ Some w → single (at (place.Choice (suc k + j)) []) ≡ Some w)
        → single (at (place.Choice (k + i)) []) ≡ Some v
    by None y p q g i f later = let r : None ≡ Some row = g in cc
    by (Some w) None p q g i f later = let r : None ≡ Some row = g in cc
    by (Some w) (Some vs) p q g zero f later =
        let r : w ∷ vs ≡ row = cc in
        let s : w ≡ v = (let t : slice_get (w ∷ vs) 0 ≡ Some v = ap (λ xs. slice_get xs 0) r ∙ f in cc) in
        ap (λ n. single (at (place.Choice n) [])) (let t : k + 0 ≡ k = omega arith in t) ∙ p ∙ ap Some s
    by (Some w) (Some vs) p q g (suc i) f later =
        let r : w ∷ vs ≡ row = cc in
        ap (λ n. single (at (place.Choice n) [])) (let t : k + suc i ≡ suc k + i = omega arith in t) ∙ later vs q i v (ap (λ xs. slice_get xs (suc i)) r ∙ f)

  its_values : (at : Domains) → HaveWhatComes scope p values at → (row : List Value) → single_values p at ≡ Some row → row ≡ values
  its_values at have row h =
      let l = value_length p.choices values rests.solution.valuation in
      same_lists row values (value_there at 0 p.choices row h ∙ sym l) (λ k x y e g.
      let is_there : k < length p.choices = subst (λ n. k < n) l (slice_get_within values k y g) in
      let one = ap (λ n. single (at (place.Choice n) [])) (let q : k ≡ 0 + k = omega arith in q) ∙ value_at at 0 p.choices row h k x e in
      let known = rests.single (at (place.Choice k) []) x (slot (Some y)) one
      (have (place.Choice k) [] (slot (Some y)) (choice is_there) (subst (λ o. MatchOption o ⊥ (λ v. slot (Some y) ≡ slot (Some v))) (sym g) refl)) in
      let q : y ≡ x = cc in
      sym q)

  each_true : (k : ℕ) (fact : Term) → slice_get p.facts k ≡ Some fact → IsTrueOf scope p.definitions values fact
  each_true k fact e = subst (IsTrueOf scope p.definitions values) (sym (unwrap_or-slice_get p.facts k fact) ∙ ap (λ o. unwrap_or o fact) e)
      (rests.solution.facts k fact (slice_get_within p.facts k fact e))

  untrue : (k : ℕ) → IsUntrue (record { scope = scope; problem = p }) values k → ⊥
  untrue k h = at (slice_get p.facts k) refl h where
    at : (o : Option Term) → slice_get p.facts k ≡ o → MatchOption o ⊥ (λ fact. IsTrueOf scope p.definitions values fact → ⊥) → ⊥
    at None e g = absurd g
    at (Some fact) e g = g (each_true k fact e)

  abbrev task : Task
  task = record { scope = scope; problem = p }

  closed : {at : Domains} {line : Line} → HaveWhatComes scope p values at → Leaves task at line [] → opens (line ∷ []) ≡ 0 → ⊥
  closed {at} have (clash occ o e) h = nothing_comes at have occ.place occ.bound o e
  closed {at} have (eval k row g u) h = untrue k (subst (λ vs. IsUntrue task vs k) (its_values at have row g) u)
  closed have left_open h = absurd (cc)

  -- a store with what comes goes on in one with it
  after_one : {at a : Domains} {line : Line} → HaveWhatComes scope p values at → Leaves task at line (a ∷ []) → HaveWhatComes scope p values a
  after_one {at} have (narrow rule occ to o t) = rests.rules at have rule occ.place occ.bound to o t

  pub refuted : {at : Domains} {tree : Tree} → Holds task anywhere at tree → HaveWhatComes scope p values at → opens (lines_of tree) ≡ 0 → ⊥
  refuted (at_leaf line may leaves) have h = closed have leaves h
  refuted (at_one line tree may leaves holds) have h = refuted holds (after_one have leaves) (omega (arith, h))
  refuted {at} (at_two _ first second may (split occ t both o e) holds held) have h =
      let sum = opens_append (lines_of first) (lines_of second) in
      elim (rests.split at have occ.place occ.bound o t both e) [
        | inl w ↦ refuted holds w (omega (arith, h, sum))
        | inr w ↦ refuted held w (omega (arith, h, sum))
      ]
