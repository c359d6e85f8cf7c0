-- Laws of the sets of what is declared.
use Rattle.std.proofs.Common.{◌≡◌, ◌∙◌, ◌⊎◌, ◌||◌, ◌&&◌, ◌++◌, ◌∷◌, [], ℕ, List, Bool, true, false, cond, refl, sym, ap, subst, inl, inr, ⊎_elim, Contains, bytes_eq, Bor, rules}
use Rattle.std.specs.List.{list_any}
use Rattle.std.specs.BTreeSet.{BTreeSet}
use Rattle.std.proofs.lemmas.Slice.Eq.{bytes_eq-Decides}
use Rattle.std.proofs.lemmas.List.Elements.{Contains-append_left, Contains-push, Contains-push_cases}
use denote.Enum.Bare.{sameb, same_true}
use Rattle.eb_declared.specs.contracts.repeats.Kind.{the_type}
use Rattle.eb_declared.specs.contracts.repeats.KeyOrd.TheImpl.Laws as laws
use Rattle.eb_declared.specs.declared.part.Space.{Space as SpaceAt}
use Rattle.eb_declared.specs.declared.part.Space.TheVariants as at
use Rattle.eb_declared.specs.declared.repeats.Kind.{Kind}
use Rattle.eb_declared.specs.declared.repeats.Kind.TheVariants as kind
use Rattle.eb_declared.specs.declared.repeats.Key.{Key}
use Rattle.eb_declared.specs.Parts.{Space, space_units, space_model, space_parameters, space_events, space_axioms, space_invariants, space_assigned, space_words, space_sizes, Part}
use Rattle.eb_declared.specs.Declarations.{Declaration, declared, binds, Meet, meet_same, meet_parameter, meet_model, Repeats, AreDistinct, declarations, IsFaultOf}
use Rattle.eb_declared.specs.Seen.{space}
use Rattle.std.specs.Result.{IfOk, IfErr}
use Rattle.std.specs.declared.result.Result.{Result}
use Rattle.std.specs.declared.result.Result.TheVariants.{Ok, Err}
use Rattle.eb_declared.specs.declared.fault.RepeatFault.{RepeatFault}
use Rattle.eb_declared.specs.declared.fault.RepeatFault.TheVariants as fault
use Rattle.std.specs.BTreeMap.{is_at}
use Rattle.std.specs.Ordering.{nat_cmp, is_eq}
use Rattle.std.specs.Cmp.Lexicographic.{slice_cmp}
use Rattle.eb_declared.proofs.ListLaws.{contains_none}
use Rattle.eb_declared.proofs.RepeatLaws.{apart_more, distinct_none}
use Rattle.eb_scoping.specs.Sets.{has_text}
use Rattle.eb_declared.specs.steps.Keys.{same_parts, key_at, key_cmp, has, kind_of, kind_in, owner_of, is_parameter, is_hidden, is_taken, Keeps, HasFront, JudgesFront, BindsApart, Judged, AreJudged}

pub cond_or : (b x : Bool) → cond b true x ≡ (b || x)
cond_or true x = refl
cond_or false x = refl

or_left : (a b : Bool) → a ≡ true → (a || b) ≡ true
or_left a b e = rw e refl

or_right : (a b : Bool) → b ≡ true → (a || b) ≡ true
or_right true b e = refl
or_right false b e = e

or_cases : (a b : Bool) → (a || b) ≡ true → (a ≡ true) ⊎ (b ≡ true)
or_cases true b e = inl refl
or_cases false b e = inr e

and_both : (a b : Bool) → (a && b) ≡ true → (a ≡ true) × (b ≡ true)
and_both true b e = (refl, e)
and_both false b e = absurd cc

-- keys are equal in their order where their parts are the same
pub eq_key : (k l : Kind) (o p n m : List ℕ) → is_eq (key_cmp k o n (key_at l p m)) ≡ same_parts k o n l p m
eq_key k l o p n m = sym (laws.matches_eq-law (key_at k o n) (key_at l p m))

abbrev decode : Kind → List ℕ → Space
decode kind.Units o = space_units
decode kind.Model o = space_model
decode kind.Parameters o = space_parameters o
decode kind.Events o = space_events
decode kind.Axioms o = space_axioms o
decode kind.Invariants o = space_invariants
decode kind.Assigned o = space_assigned o
decode kind.Words o = space_words
decode kind.Sizes o = space_sizes

decoded : (s : Space) → decode (kind_in s) (owner_of s) ≡ s
decoded space_units = refl
decoded space_model = refl
decoded (space_parameters e) = refl
decoded space_events = refl
decoded (space_axioms c) = refl
decoded space_invariants = refl
decoded (space_assigned e) = refl
decoded space_words = refl
decoded space_sizes = refl

same_kind : (k : Kind) → sameb the_type k k ≡ true
same_kind kind.Units = refl
same_kind kind.Model = refl
same_kind kind.Parameters = refl
same_kind kind.Events = refl
same_kind kind.Axioms = refl
same_kind kind.Invariants = refl
same_kind kind.Assigned = refl
same_kind kind.Words = refl
same_kind kind.Sizes = refl

pub kind_seen : (s : SpaceAt) → kind_of s ≡ kind_in (space s)
kind_seen at.Units = refl
kind_seen at.Model = refl
kind_seen (at.Parameters e) = refl
kind_seen at.Events = refl
kind_seen (at.Axioms c) = refl
kind_seen at.Invariants = refl
kind_seen (at.Assigned e) = refl
kind_seen at.Words = refl
kind_seen at.Sizes = refl

bytes_same : (x : List ℕ) → bytes_eq x x ≡ true
bytes_same x = (bytes_eq-Decides x x).1 refl

pub parts_same : (s t : Space) (x y : List ℕ) → same_parts (kind_in s) (owner_of s) x (kind_in t) (owner_of t) y ≡ true → (s ≡ t) × (x ≡ y)
parts_same s t x y h =
    let k = and_both (sameb the_type (kind_in s) (kind_in t)) (bytes_eq (owner_of s) (owner_of t) && bytes_eq x y) h in
    let o = and_both (bytes_eq (owner_of s) (owner_of t)) (bytes_eq x y) k.1 in
    let kinds : kind_in s ≡ kind_in t = same_true the_type (search rules) (kind_in s) (kind_in t) k.0 in
    let owners : owner_of s ≡ owner_of t = (bytes_eq-Decides (owner_of s) (owner_of t)).0 o.0 in
    (sym (decoded s) ∙ (ap (λ z. decode z (owner_of s)) kinds ∙ (ap (λ z. decode (kind_in t) z) owners ∙ decoded t)), (bytes_eq-Decides x y).0 o.1)

pub same_itself : (s : Space) (x : List ℕ) → same_parts (kind_in s) (owner_of s) x (kind_in s) (owner_of s) x ≡ true
same_itself s x = rw (same_kind (kind_in s)) (rw (bytes_same (owner_of s)) (bytes_same x))

abbrev space_in : Declaration → Space
space_in (declared s x) = s
space_in (binds xs) = space_units

abbrev name_in : Declaration → List ℕ
name_in (declared s x) = x
name_in (binds xs) = []

declared_same : (s t : Space) (x y : List ℕ) → declared s x ≡ declared t y → (s ≡ t) × (x ≡ y)
declared_same s t x y e = (ap space_in e, ap name_in e)

module _ (keys : BTreeSet Key) (parameters : BTreeSet (Bor (List ℕ))) (ds : List Declaration) (k : Keeps keys parameters ds) where
  pub keeps_binds : (xs : List (List ℕ)) → Keeps keys parameters (ds ++ binds xs ∷ [])
  keeps_binds xs = record {
    had = λ s x h. Contains-append_left ds (binds xs ∷ []) (declared s x) (k.had s x h);
    has_all = λ s x h. k.has_all s x (before s x (Contains-push_cases ds (binds xs) (declared s x) h));
    parameter = λ x h. let r = k.parameter x h in (r.0, Contains-append_left ds (binds xs ∷ []) (declared (space_parameters r.0) x) r.1);
    parameters_all = λ e x h. k.parameters_all e x (before (space_parameters e) x (Contains-push_cases ds (binds xs) (declared (space_parameters e) x) h));
  }
    where
      before : (s : Space) (x : List ℕ) → Contains ds (declared s x) ⊎ (binds xs ≡ declared s x) → Contains ds (declared s x)
      before s x (inl h) = h
      before s x (inr e) = absurd cc

  hidden_meets : (s : SpaceAt) (x : List ℕ) → is_hidden keys parameters s x ≡ true → (t : Space) × Contains ds (declared t x) × Meet t (space s)
  hidden_meets (at.Parameters e) x h = (space_model, k.had space_model x h, meet_parameter e.now)
  hidden_meets at.Model x h = let r = k.parameter x h in (space_parameters r.0, r.1, meet_model r.0)
  hidden_meets at.Units x h = absurd cc
  hidden_meets at.Events x h = absurd cc
  hidden_meets (at.Axioms c) x h = absurd cc
  hidden_meets at.Invariants x h = absurd cc
  hidden_meets (at.Assigned e) x h = absurd cc
  hidden_meets at.Words x h = absurd cc
  hidden_meets at.Sizes x h = absurd cc

  pub taken_meets : (s : SpaceAt) (x : List ℕ) → is_taken keys parameters s x ≡ true → (t : Space) × Contains ds (declared t x) × Meet t (space s)
  taken_meets s x h = ⊎_elim
      (λ o. (space s, k.had (space s) x (subst (λ z. has keys z (owner_of (space s)) x ≡ true) (kind_seen s) o), meet_same (space s)))
      (λ o. hidden_meets s x o)
      (or_cases (has keys (kind_of s) (owner_of (space s)) x) (is_hidden keys parameters s x) h)

  meets_taken : (s : SpaceAt) (x : List ℕ) (t : Space) → Contains ds (declared t x) → Meet t (space s) → (space s ≡ t) ⊎ (is_hidden keys parameters s x ≡ true)
  meets_taken (at.Parameters e) x _ h (meet_same _) = inl refl
  meets_taken (at.Parameters e) x _ h (meet_parameter _) = inr (k.has_all space_model x h)
  meets_taken at.Model x _ h (meet_same _) = inl refl
  meets_taken at.Model x _ h (meet_model e) = inr (k.parameters_all e x h)
  meets_taken at.Units x _ h (meet_same _) = inl refl
  meets_taken at.Events x _ h (meet_same _) = inl refl
  meets_taken (at.Axioms c) x _ h (meet_same _) = inl refl
  meets_taken at.Invariants x _ h (meet_same _) = inl refl
  meets_taken (at.Assigned e) x _ h (meet_same _) = inl refl
  meets_taken at.Words x _ h (meet_same _) = inl refl
  meets_taken at.Sizes x _ h (meet_same _) = inl refl

  pub free_repeats_none : (s : SpaceAt) (x : List ℕ) → is_taken keys parameters s x ≡ false → (name : List ℕ) → Repeats ds (declared (space s) x) name → ⊥
  free_repeats_none s x f name r =
      let own = λ (e : space s ≡ r.1). or_left (has keys (kind_of s) (owner_of (space s)) x) (is_hidden keys parameters s x)
      (subst (λ z. has keys z (owner_of (space s)) x ≡ true) (sym (kind_seen s)) (k.has_all (space s) x (subst (λ z. Contains ds (declared z x)) (sym e) r.2))) in
      let t : is_taken keys parameters s x ≡ true = ⊎_elim own (λ h. or_right (has keys (kind_of s) (owner_of (space s)) x) (is_hidden keys parameters s x) h) (meets_taken s x r.1 r.2 r.3) in
      let no_way : true ≡ false = sym t ∙ f in cc

  module _ (keys' : BTreeSet Key) (parameters' : BTreeSet (Bor (List ℕ))) (s : SpaceAt) (x : List ℕ)
      (puts : (q : Kind) (o n : List ℕ) → has keys' q o n ≡ (same_parts (kind_of s) (owner_of (space s)) x q o n || has keys q o n))
      (also : (q : List ℕ) → has_text parameters' q ≡ (is_parameter s && bytes_eq x q || has_text parameters q)) where
    put : (t : Space) (y : List ℕ) → has keys' (kind_in t) (owner_of t) y ≡ (same_parts (kind_in (space s)) (owner_of (space s)) x (kind_in t) (owner_of t) y || has keys (kind_in t) (owner_of t) y)
    put t y = puts (kind_in t) (owner_of t) y ∙ ap (λ z. same_parts z (owner_of (space s)) x (kind_in t) (owner_of t) y || has keys (kind_in t) (owner_of t) y) (kind_seen s)

    new : (t : Space) (y : List ℕ) → space s ≡ t → x ≡ y → Contains (ds ++ declared (space s) x ∷ []) (declared t y)
    new t y a b = subst (λ z. Contains (ds ++ declared (space s) x ∷ []) (declared t z)) b (subst (λ z. Contains (ds ++ declared (space s) x ∷ []) (declared z x)) a (Contains-push ds (declared (space s) x)))

    old : (t : Space) (y : List ℕ) → Contains ds (declared t y) → Contains (ds ++ declared (space s) x ∷ []) (declared t y)
    old t y h = Contains-append_left ds (declared (space s) x ∷ []) (declared t y) h

    parameter_of : (s : SpaceAt) → is_parameter s ≡ true → (e : List ℕ) × (space s ≡ space_parameters e)
    parameter_of (at.Parameters e) h = (e.now, refl)
    parameter_of at.Units h = absurd cc
    parameter_of at.Model h = absurd cc
    parameter_of at.Events h = absurd cc
    parameter_of (at.Axioms c) h = absurd cc
    parameter_of at.Invariants h = absurd cc
    parameter_of (at.Assigned e) h = absurd cc
    parameter_of at.Words h = absurd cc
    parameter_of at.Sizes h = absurd cc

    is_parameter_of : (s : SpaceAt) (e : List ℕ) → space s ≡ space_parameters e → is_parameter s ≡ true
    is_parameter_of (at.Parameters f) e h = refl
    is_parameter_of at.Units e h = absurd cc
    is_parameter_of at.Model e h = absurd cc
    is_parameter_of at.Events e h = absurd cc
    is_parameter_of (at.Axioms c) e h = absurd cc
    is_parameter_of at.Invariants e h = absurd cc
    is_parameter_of (at.Assigned f) e h = absurd cc
    is_parameter_of at.Words e h = absurd cc
    is_parameter_of at.Sizes e h = absurd cc

    pub keeps_declared : Keeps keys' parameters' (ds ++ declared (space s) x ∷ [])
    keeps_declared = record {
      had = λ t y h. ⊎_elim (λ o. let r = parts_same (space s) t x y o in new t y r.0 r.1) (λ o. old t y (k.had t y o))
          (or_cases (same_parts (kind_in (space s)) (owner_of (space s)) x (kind_in t) (owner_of t) y) (has keys (kind_in t) (owner_of t) y) (sym (put t y) ∙ h));
      has_all = λ t y h. put t y ∙ ⊎_elim
          (λ o. or_right (same_parts (kind_in (space s)) (owner_of (space s)) x (kind_in t) (owner_of t) y) (has keys (kind_in t) (owner_of t) y) (k.has_all t y o))
          (λ o. or_left (same_parts (kind_in (space s)) (owner_of (space s)) x (kind_in t) (owner_of t) y) (has keys (kind_in t) (owner_of t) y)
          (let r = declared_same (space s) t x y o in subst (λ z. same_parts (kind_in (space s)) (owner_of (space s)) x (kind_in z) (owner_of z) y ≡ true) r.0 (subst (λ z. same_parts (kind_in (space s)) (owner_of (space s)) x (kind_in (space s)) (owner_of (space s)) z ≡ true) r.1 (same_itself (space s) x))))
          (Contains-push_cases ds (declared (space s) x) (declared t y) h);
      parameter = λ y h. ⊎_elim
          (λ o. let b = and_both (is_parameter s) (bytes_eq x y) o in let r = parameter_of s b.0 in (r.0, new (space_parameters r.0) y r.1 ((bytes_eq-Decides x y).0 b.1)))
          (λ o. let r = k.parameter y o in (r.0, old (space_parameters r.0) y r.1))
          (or_cases (is_parameter s && bytes_eq x y) (has_text parameters y) (sym (also y) ∙ h));
      parameters_all = λ e y h. also y ∙ ⊎_elim
          (λ o. or_right (is_parameter s && bytes_eq x y) (has_text parameters y) (k.parameters_all e y o))
          (λ o. let r = declared_same (space s) (space_parameters e) x y o in or_left (is_parameter s && bytes_eq x y) (has_text parameters y)
          (rw (is_parameter_of s e r.0) ((bytes_eq-Decides x y).1 r.1)))
          (Contains-push_cases ds (declared (space s) x) (declared (space_parameters e) y) h);
    }

pub front_more : (names names' : BTreeSet (Bor (List ℕ))) (front : List (List ℕ)) (x : List ℕ) → HasFront names front → ((q : List ℕ) → has_text names' q ≡ (bytes_eq x q || has_text names q)) → has_text names x ≡ false → HasFront names' (front ++ x ∷ [])
front_more names names' front x h puts none = record {
  apart = apart_more front x h.apart (λ c. let t : true ≡ false = sym (h.has_all x c) ∙ none in cc);
  had = λ y t. ⊎_elim (λ o. subst (λ z. Contains (front ++ x ∷ []) z) ((bytes_eq-Decides x y).0 o) (Contains-push front x)) (λ o. Contains-append_left front (x ∷ []) y (h.had y o)) (or_cases (bytes_eq x y) (has_text names y) (sym (puts y) ∙ t));
  has_all = λ y c. puts y ∙ ⊎_elim (λ o. or_right (bytes_eq x y) (has_text names y) (h.has_all y o)) (λ o. or_left (bytes_eq x y) (has_text names y) ((bytes_eq-Decides x y).1 o)) (Contains-push_cases front x y c);
}

pub binds_judged : (keys : BTreeSet Key) (parameters : BTreeSet (Bor (List ℕ))) (before : List Declaration) (xs : List (List ℕ)) (r : Result (Unit {0}) RepeatFault) → BindsApart xs r → Keeps keys parameters before → Judged before (binds xs) keys parameters r
binds_judged keys parameters before xs (Ok u) a k = (keeps_binds keys parameters before k xs, λ name r. a name r.0 r.1 r.2 r.3)
binds_judged keys parameters before xs (Err (fault.Repeated name)) a k = a
binds_judged keys parameters before xs (Err fault.Memory) a k = tt

pub judged_first : (keys : BTreeSet Key) (parameters : BTreeSet (Bor (List ℕ))) (before rest : List Declaration) (d : Declaration) (all : List Declaration) (e : RepeatFault) → AreDistinct before → all ≡ before ++ d ∷ rest → Judged before d keys parameters (Err e) → AreJudged all (Err e)
judged_first keys parameters before rest d all (fault.Repeated name) a e j = record { before = before; declaration = d; rest = rest; is = e; distinct = a; repeats = j }
judged_first keys parameters before rest d all fault.Memory a e j = tt

none_in : {A : Type 0} (test : A → Bool) (xs : List A) → xs ≡ [] → list_any test xs ≡ true → ⊥
none_in test xs e h = let f : list_any test xs ≡ false = ap (list_any test) e in let g : true ≡ false = sym h ∙ f in cc

pub judges_none : (keys : BTreeSet Key) (parameters : BTreeSet (Bor (List ℕ))) → keys.keys ≡ [] → parameters.keys ≡ [] → JudgesFront keys parameters []
judges_none keys parameters k p = record {
  keeps = record {
    had = λ s x h. absurd (none_in (λ q. is_at (key_cmp (kind_in s) (owner_of s) x) q) keys.keys k h);
    has_all = λ s x h. absurd (contains_none (declared s x) h);
    parameter = λ x h. absurd (none_in (λ q. is_at (λ k. slice_cmp nat_cmp x k.now) q) parameters.keys p h);
    parameters_all = λ e x h. absurd (contains_none (declared (space_parameters e) x) h);
  };
  distinct = distinct_none;
}

-- what is told of the declarations of parts
pub judged_parts : (ps : List Part) (r : Result (Unit {0}) RepeatFault) → AreJudged (declarations ps) r → IfOk r (λ _. AreDistinct (declarations ps)) × IfErr r (IsFaultOf ps)
judged_parts ps (Ok u) j = (j, tt)
judged_parts ps (Err (fault.Repeated name)) j = (tt, j)
judged_parts ps (Err fault.Memory) j = (tt, tt)
