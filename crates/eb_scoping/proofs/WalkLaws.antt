-- Laws of walks over the contexts of a text.
use Rattle.std.proofs.Common.{◌≡◌, ◌∙◌, ◌+◌, ◌≤◌, ◌<◌, ◌⊎◌, ◌||◌, ℕ, Bool, true, false, List, [], ◌∷◌, ◌++◌, Contains, length, take, get_or, map, sym, ap, refl, subst, arith, inl, inr, ⊎_elim, append-nil, append_assoc, length-append, bytes_eq, Bor, Some, None, IsTrue, ◌↔◌}
use Rattle.std.proofs.lemmas.Bool.{cases_eq}
use Rattle.std.proofs.lemmas.Slice.Eq.{bytes_eq-Decides}
use Rattle.std.proofs.lemmas.List.{take_more, map-append, get_or_default, get_or_append_left, get_or-map, length-map}
use Rattle.std.proofs.lemmas.List.Elements.{Contains-append_left, Contains-append_right, Contains-append_cases, Contains-get_or}
use Rattle.eb_syntax.specs.declared.ast.Identifier.{Identifier}
use Rattle.eb_syntax.specs.declared.units.EbUnit.{EbUnit}
use Rattle.eb_syntax.specs.declared.units.EbUnit.TheVariants as eb
use Rattle.eb_scoping.specs.declared.contexts.Walk.{Walk}
use Rattle.eb_scoping.specs.FreeNames.{names_of}
use Rattle.eb_scoping.specs.Sets.{has_text}
use Rattle.eb_scoping.specs.Walks.{Follows, follows_first, follows_more, reached_names, HasBehind, IsWalk}
use Rattle.eb_scoping.specs.steps.Walking.{IsEmptyWalk, Adds, extends_of, IsBehind, IsExtendedBy}
use Rattle.eb_scoping.specs.FreeNames.{is_among}
use Rattle.eb_scoping.specs.Groups.{group, IsContextAt, IsIndex}
use Rattle.eb_scoping.specs.Models.{machine_of, Reaches, r_seen, r_extended, Extends, extends_none, extends_more}
use Rattle.eb_scoping.specs.steps.Marks.{AreContextsMarked, is_named_in}
use Rattle.eb_syntax.specs.declared.units.Machine.{Machine}
use Rattle.std.specs.BTreeMap.{BTreeMap}
use Rattle.std.specs.Result.{OnOk, IfOk}
use Rattle.std.specs.declared.result.Result.{Result}
use Rattle.std.specs.declared.result.Result.TheVariants.{Ok, Err}
use Rattle.std.specs.Global.{Vec}
use Rattle.eb_scoping.proofs.NameLaws.{among_contains}
use Rattle.eb_scoping.proofs.ListLaws.{contains_none, contains_here, contains_cases, contains_map, map_contains}

or_cases : (a b : Bool) → (a || b) ≡ true → (a ≡ true) ⊎ (b ≡ true)
or_cases true b e = inl refl
or_cases false b e = inr e

or_left : (a b : Bool) → a ≡ true → (a || b) ≡ true
or_left a b e = rw e refl

or_right : (a b : Bool) → b ≡ true → (a || b) ≡ true
or_right true b e = refl
or_right false b e = e

pub only_one : {A : Type 0} (x v : A) → Contains (x ∷ []) v → x ≡ v
only_one x v h = ⊎_elim (λ e. e) (λ n. absurd (contains_none v n)) (contains_cases x [] v h)

-- names that the walk has
pub adds_old : (a : Walk) (P : List ℕ → Type 0) → ((q : List ℕ) → P q → has_text a.names q ≡ true) → Adds a a P
adds_old a P h = record { kept = λ q e. e; all = h; only = λ q e. inl e; more = ([], sym (append-nil (reached_names a))); listed = λ l. l; done = refl }

-- one name that it has not
pub adds_new : (a b : Walk) (x : Bor (List ℕ)) → ((q : List ℕ) → has_text b.names q ≡ (bytes_eq x.now q || has_text a.names q)) → b.queue.items ≡ a.queue.items ++ x ∷ [] → b.done ≡ a.done → Adds a b (λ q. x.now ≡ q)
adds_new a b x has items done = record {
  kept = λ q e. has q ∙ or_right (bytes_eq x.now q) (has_text a.names q) e;
  all = λ q e. has q ∙ or_left (bytes_eq x.now q) (has_text a.names q) ((bytes_eq-Decides x.now q).1 e);
  only = λ q e. ⊎_elim (λ l. inl l) (λ r. inr (only_one x.now q r)) (Contains-append_cases (reached_names a) (x.now ∷ []) q (subst (λ z. Contains z q) names e));
  more = (x.now ∷ [], names);
  listed = λ l q e. subst (λ z. Contains z q) (sym names) (⊎_elim
      (λ t. Contains-append_right (reached_names a) (x.now ∷ []) q (subst (λ z. Contains (x.now ∷ []) z) ((bytes_eq-Decides x.now q).0 t) (contains_here x.now [])))
      (λ t. Contains-append_left (reached_names a) (x.now ∷ []) q (l q t))
      (or_cases (bytes_eq x.now q) (has_text a.names q) (sym (has q) ∙ e)));
  done = done;
}
  where
    names : reached_names b ≡ reached_names a ++ x.now ∷ []
    names = ap (map (λ z. z.now)) items ∙ map-append (λ z. z.now) a.queue.items (x ∷ [])

pub adds_both : (a b c : Walk) (P Q R : List ℕ → Type 0) → Adds a b P → Adds b c Q → ((q : List ℕ) → R q → P q ⊎ Q q) → ((q : List ℕ) → P q → R q) → ((q : List ℕ) → Q q → R q) → Adds a c R
adds_both a b c P Q R f s parts left right = record {
  kept = λ q h. s.kept q (f.kept q h);
  all = λ q h. ⊎_elim (λ p. s.kept q (f.all q p)) (λ p. s.all q p) (parts q h);
  only = λ q h. ⊎_elim (λ o. ⊎_elim (λ p. inl p) (λ p. inr (left q p)) (f.only q o)) (λ o. inr (right q o)) (s.only q h);
  more = (f.more.0 ++ s.more.0, s.more.1 ∙ (ap (λ z. z ++ s.more.0) f.more.1 ∙ append_assoc (reached_names a) f.more.0 s.more.0));
  listed = λ l. s.listed (f.listed l);
  done = s.done ∙ f.done;
}

-- the same names, said in another way
pub adds_as : (a b : Walk) (P Q : List ℕ → Type 0) → ((q : List ℕ) → P q → Q q) → ((q : List ℕ) → Q q → P q) → Adds a b P → Adds a b Q
adds_as a b P Q to from f = record { kept = f.kept; all = λ q h. f.all q (from q h); only = λ q h. ⊎_elim (λ o. inl o) (λ o. inr (to q o)) (f.only q h); more = f.more; listed = f.listed; done = f.done }

-- one more of the identifiers
pub adds_name : (a b c : Walk) (xs : List Identifier) (i : ℕ) (x : Identifier) → i < length xs → x ≡ get_or xs i x → Adds a b (Contains (names_of (take i xs))) → Adds b c (λ q. x.name ≡ q) → Adds a c (Contains (names_of (take (i + 1) xs)))
adds_name a b c xs i x l e f s = adds_both a b c (Contains (names_of (take i xs))) (λ q. x.name ≡ q) (Contains (names_of (take (i + 1) xs))) f s
    (λ q h. ⊎_elim (λ o. inl o) (λ o. inr (only_one x.name q o)) (Contains-append_cases (names_of (take i xs)) (x.name ∷ []) q (subst (λ z. Contains z q) here h)))
    (λ q h. subst (λ z. Contains z q) (sym here) (Contains-append_left (names_of (take i xs)) (x.name ∷ []) q h))
    (λ q h. subst (λ z. Contains z q) (sym here) (Contains-append_right (names_of (take i xs)) (x.name ∷ []) q (subst (λ z. Contains (x.name ∷ []) z) h (contains_here x.name []))))
  where
    here : names_of (take (i + 1) xs) ≡ names_of (take i xs) ++ x.name ∷ []
    here = ap names_of (take_more xs i x l) ∙ (map-append (λ z. z.name) (take i xs) (get_or xs i x ∷ []) ∙ ap (λ z. names_of (take i xs) ++ z.name ∷ []) (sym e))

-- one more of the places
pub adds_place : (a b c : Walk) (us : List EbUnit) (places : List ℕ) (i : ℕ) (u : EbUnit) → i < length places → u ≡ get_or us (get_or places i 0) u → get_or places i 0 < length us
    → Adds a b (IsBehind us (take i places)) → Adds b c (Contains (extends_of u)) → Adds a c (IsBehind us (take (i + 1) places))
adds_place a b c us places i u l e inside f s = adds_both a b c (IsBehind us (take i places)) (Contains (extends_of u)) (IsBehind us (take (i + 1) places)) f s parts
    (λ q h. (h.0, subst (λ z. Contains z h.0) (sym here) (Contains-append_left (take i places) (at ∷ []) h.0 h.1), h.2, h.3, h.4))
    (λ q h. (at, subst (λ z. Contains z at) (sym here) (Contains-append_right (take i places) (at ∷ []) at (contains_here at [])), u, e, h))
  where
    at : ℕ
    at = get_or places i 0

    here : take (i + 1) places ≡ take i places ++ at ∷ []
    here = take_more places i 0 l

    parts : (q : List ℕ) → IsBehind us (take (i + 1) places) q → IsBehind us (take i places) q ⊎ Contains (extends_of u) q
    parts q h = ⊎_elim (λ o. inl (h.0, o, h.2, h.3, h.4)) (λ o. inr (last (only_one at h.0 o))) (Contains-append_cases (take i places) (at ∷ []) h.0 (subst (λ z. Contains z h.0) here h.1))
      where
        last : at ≡ h.0 → Contains (extends_of u) q
        last o = subst (λ z. Contains (extends_of z) q) (h.3 ∙ (ap (λ z. get_or us z h.2) (sym o) ∙ (get_or_default us at h.2 u inside ∙ sym e))) h.4

pub begins_walk : (us : List EbUnit) (first : List (List ℕ)) (a b : Walk) (P : List ℕ → Type 0) → IsEmptyWalk a → ((q : List ℕ) → P q → Contains first q) → ((q : List ℕ) → Contains first q → P q) → Adds a b P → IsWalk us first b
begins_walk us first a b P n to from f = record {
  begins = λ q h. f.all q (from q h);
  sound = λ q h. ⊎_elim (λ o. absurd (contains_none q (subst (λ z. Contains z q) n.queue o))) (λ o. follows_first q (to q o)) (f.only q h);
  listed = f.listed (λ q h. absurd (nothing q h));
  ahead = let z : b.done ≡ 0 = f.done ∙ n.done in omega (arith, z);
  closed = λ k l h. let z : b.done ≡ 0 = f.done ∙ n.done in absurd (omega (arith, l, z));
}
  where
    nothing : (q : List ℕ) → has_text a.names q ≡ true → ⊥
    nothing q h = let e : true ≡ false = sym h ∙ n.names q in cc

-- the walk b is a, whose contexts of the next name were gone through, and c is b with that noted
module _ (us : List EbUnit) (first : List (List ℕ)) (a b c : Walk) (n : ℕ) (x : List ℕ) (d : a.done ≡ n) (l : n < length (reached_names a)) (e : x ≡ get_or (reached_names a) n []) (f : Adds a b (IsExtendedBy us x))
    (names : c.names ≡ b.names) (queue : c.queue ≡ b.queue) (done : c.done ≡ n + 1) (w : IsWalk us first a) where
  has : (q : List ℕ) → has_text b.names q ≡ true → has_text c.names q ≡ true
  has q h = subst (λ z. has_text z q ≡ true) (sym names) h

  had : (q : List ℕ) → has_text c.names q ≡ true → has_text b.names q ≡ true
  had q h = subst (λ z. has_text z q ≡ true) names h

  list : reached_names c ≡ reached_names b
  list = ap (λ z. map (λ y. y.now) z.items) queue

  behind : (q : List ℕ) → IsExtendedBy us x q → Follows us first q
  behind q h = let r = contains_map (λ y. y.name) h.0.extends q h.3 in
      subst (λ z. Follows us first z) r.2 (follows_more h.0 r.0 (subst (λ z. Follows us first z) (sym h.2) (w.sound x (subst (λ z. Contains (reached_names a) z) (sym e) (Contains-get_or (reached_names a) n [] l)))) h.1 r.1)

  same : (k : ℕ) → k < length (reached_names a) → get_or (reached_names c) k [] ≡ get_or (reached_names a) k []
  same k h = ap (λ z. get_or z k []) (list ∙ f.more.1) ∙ get_or_append_left (reached_names a) f.more.0 [] k h

  closed : (k : ℕ) → (k ≡ n) ⊎ (k ≡ n → ⊥) → k < n + 1 → HasBehind us c (get_or (reached_names c) k [])
  closed k (inl o) h v y m r s = has y.name (f.all y.name (v, m, r ∙ (same k (omega (arith, o, l)) ∙ (ap (λ z. get_or (reached_names a) z []) o ∙ sym e)), map_contains (λ z. z.name) v.extends y s))
  closed k (inr o) h v y m r s = let low : k < n = omega (arith, h, o) in
      has y.name (f.kept y.name (w.closed k (omega (arith, low, d)) (omega (arith, low, l)) v y m (r ∙ same k (omega (arith, low, l))) s))

  pub goes_on : IsWalk us first c
  goes_on = record {
    begins = λ q h. has q (f.kept q (w.begins q h));
    sound = λ q h. ⊎_elim (λ o. w.sound q o) (λ o. behind q o) (f.only q (subst (λ z. Contains z q) list h));
    listed = λ q h. subst (λ z. Contains z q) (sym list) (f.listed w.listed q (had q h));
    ahead = let e : length (reached_names c) ≡ length (reached_names a) + length f.more.0 = ap length (list ∙ f.more.1) ∙ length-append (reached_names a) f.more.0 in omega (arith, e, l, done);
    closed = λ k h i. closed k (cases_eq k n) (omega (arith, h, done));
  }

-- a walk that is done has all that follows from its first names
pub complete : (us : List EbUnit) (first : List (List ℕ)) (w : Walk) → IsWalk us first w → length (reached_names w) ≤ w.done → (q : List ℕ) → Follows us first q → has_text w.names q ≡ true
complete us first w is d _ (follows_first q h) = is.begins q h
complete us first w is d _ (follows_more c y f at h) =
    let r = is.listed c.name.name (complete us first w is d c.name.name f) in
    is.closed r.0 (let i = r.1 in omega (arith, i, d)) r.1 c y at (sym r.2 ∙ get_or_default (reached_names w) r.0 c.name.name [] r.1) h

-- what follows from a name follows from one whose context extends it
follows_from : (us : List EbUnit) (from name : List ℕ) → IsExtendedBy us name from → (q : List ℕ) → Follows us (from ∷ []) q → Follows us (name ∷ []) q
follows_from us from name e _ (follows_first q h) =
    let r = contains_map (λ y. y.name) e.0.extends from e.3 in
    subst (λ z. Follows us (name ∷ []) z) (r.2 ∙ only_one from q h) (follows_more e.0 r.0 (follows_first e.0.name.name (subst (λ z. Contains (name ∷ []) z) (sym e.2) (contains_here name []))) e.1 r.1)
follows_from us from name e _ (follows_more c y f at h) = follows_more c y (follows_from us from name e c.name.name f) at h

-- a walk from a name, with one more name that has a context which extends it
pub leads : (us : List EbUnit) (from name : List ℕ) (a b : Walk) → IsExtendedBy us name from → Adds a b (λ q. name ≡ q) → IsWalk us (from ∷ []) a → IsWalk us (name ∷ []) b
leads us from name a b e f w = record {
  begins = λ q h. f.all q (only_one name q h);
  sound = λ q h. ⊎_elim (λ o. follows_from us from name e q (w.sound q o)) (λ o. follows_first q (subst (λ z. Contains (name ∷ []) z) o (contains_here name []))) (f.only q h);
  listed = f.listed w.listed;
  ahead = let g = size in let h = w.ahead in let d = f.done in omega (arith, g, h, d);
  closed = λ k h i v y m r s. let g = w.ahead in let d = f.done in let low : k < length (reached_names a) = omega (arith, g, h, d) in
      f.kept y.name (w.closed k (omega (arith, h, d)) low v y m (r ∙ (ap (λ z. get_or z k []) f.more.1 ∙ get_or_append_left (reached_names a) f.more.0 [] k low)) s);
}
  where
    size : length (reached_names b) ≡ length (reached_names a) + length f.more.0
    size = ap length f.more.1 ∙ length-append (reached_names a) f.more.0

-- the walk over the units at the places behind a name
module _ (us : List EbUnit) (m : BTreeMap (Bor (List ℕ)) (Vec ℕ)) (index : IsIndex us m) (name places : List ℕ) (e : places ≡ group m name) (a b : Walk) where
  behind_extended : (q : List ℕ) → IsBehind us places q → IsExtendedBy us name q
  behind_extended q h =
      let at = index.sound name h.0 (subst (λ z. Contains z h.0) e h.1) in
      let same : h.2 ≡ eb.Context at.context = h.3 ∙ (get_or_default us h.0 h.2 (eb.Context at.context) at.inside ∙ sym at.is) in
      (at.context, (h.0, at.inside, sym at.is), at.named, subst (λ z. Contains (extends_of z) q) same h.4)

  extended_behind : (q : List ℕ) → IsExtendedBy us name q → IsBehind us places q
  extended_behind q h = (h.1.0, subst (λ z. Contains z h.1.0) (sym e) (index.full name h.1.0 (record { context = h.0; inside = h.1.1; is = sym h.1.2; named = h.2 })), eb.Context h.0, sym h.1.2, h.3)

  pub expands : {T E : Type 0} (r : Result T E) → OnOk r (Adds a b (IsBehind us places)) → OnOk r (Adds a b (IsExtendedBy us name))
  expands (Ok t) f = adds_as a b (IsBehind us places) (IsExtendedBy us name) behind_extended extended_behind f
  expands (Err t) f = tt

-- the context at the first place behind a name
pub extends_at : (us : List EbUnit) (m : BTreeMap (Bor (List ℕ)) (Vec ℕ)) → IsIndex us m → (name extended : List ℕ) (i : ℕ) (u : EbUnit) → Contains (group m name) i → u ≡ get_or us i u → is_among (extends_of u) extended ≡ true → IsExtendedBy us name extended
extends_at us m index name extended i u h e t =
    let a = index.sound name i h in
    let same : u ≡ eb.Context a.context = e ∙ (get_or_default us i u (eb.Context a.context) a.inside ∙ sym a.is) in
    (a.context, (i, a.inside, sym a.is), a.named, among_contains (names_of a.context.extends) extended (subst (λ z. is_among (extends_of z) extended ≡ true) same t))

-- Whether the walk has a name is whether it follows, once all is gone through.
pub follows_extends : (us : List EbUnit) (from q : List ℕ) → Follows us (from ∷ []) q → Extends us from q
follows_extends us from _ (follows_first q h) = subst (λ z. Extends us from z) (only_one from q h) extends_none
follows_extends us from _ (follows_more c y f at h) = extends_more c y (follows_extends us from c.name.name f) at h

pub extends_follows : (us : List EbUnit) (from q : List ℕ) → Extends us from q → Follows us (from ∷ []) q
extends_follows us from _ extends_none = follows_first from (contains_here from [])
extends_follows us from _ (extends_more c y e at h) = follows_more c y (extends_follows us from c.name.name e) at h

pub walk_tells : (us : List EbUnit) (from q : List ℕ) (w : Walk) (found : Bool) → found ≡ has_text w.names q → (found ≡ false → length (reached_names w) ≤ w.done) → IsWalk us (from ∷ []) w → IsTrue found ↔ Extends us from q
walk_tells us from q w true e d is = (λ t. follows_extends us from q (is.sound q (is.listed q (sym e))), λ x. refl)
walk_tells us from q w false e d is = (λ t. absurd cc, λ x. e ∙ complete us (from ∷ []) w is (d refl) q (extends_follows us from q x))

all_done : (w : Walk) → length w.queue.items ≤ w.done → length (reached_names w) ≤ w.done
all_done w d = subst (λ z. z ≤ w.done) (sym (length-map w.queue.items (λ y. y.now))) d

-- the contexts of the names that a walk has, from those which the machine sees
module _ (us : List EbUnit) (machine : Machine) (is : machine_of us ≡ Some machine) where
  follows_reaches : (q : List ℕ) → Follows us (names_of machine.sees) q → Reaches us q
  follows_reaches _ (follows_first q h) = let r = contains_map (λ y. y.name) machine.sees q h in subst (λ z. Reaches us z) r.2 (r_seen machine r.0 is r.1)
  follows_reaches _ (follows_more c y f at h) = r_extended c y at (follows_reaches c.name.name f) h

  some_same : (m : Machine) → Some m ≡ Some machine → m ≡ machine
  some_same m o = cc

  reaches_follows : (q : List ℕ) → Reaches us q → Follows us (names_of machine.sees) q
  reaches_follows _ (r_seen m y e h) = follows_first y.name (map_contains (λ z. z.name) machine.sees y (subst (λ z. Contains z.sees y) (some_same m (sym e ∙ is)) h))
  reaches_follows _ (r_extended c y at r h) = follows_more c y (reaches_follows c.name.name r) at h

  pub marks_named : (w : Walk) (marks : List Bool) → IsWalk us (names_of machine.sees) w → length (reached_names w) ≤ w.done → marks ≡ map (is_named_in w.names) us → AreContextsMarked us marks
  marks_named w marks walk d e = record {
    size = ap length e ∙ length-map us (is_named_in w.names);
    sound = λ i x a h. inr (follows_reaches x (walk.sound x (walk.listed x (sym (mark_at i x a) ∙ h))));
    complete = λ i x a h. mark_at i x a ∙ complete us (names_of machine.sees) w walk d x (reaches_follows x (⊎_elim (λ n. absurd (none n)) (λ r. r) h));
  }
    where
      none : machine_of us ≡ None → ⊥
      none n = let o : Some machine ≡ None = sym is ∙ n in cc

      mark_at : (i : ℕ) (x : List ℕ) (a : IsContextAt us i x) → get_or marks i false ≡ has_text w.names x
      mark_at i x a = ap (λ z. get_or z i false) e ∙ (get_or-map (is_named_in w.names) us i (eb.Context a.context) false a.inside ∙ (ap (is_named_in w.names) (sym a.is) ∙ ap (has_text w.names) a.named))

  pub marks_of : {E : Type 0} (w : Walk) (r : Result (Vec Bool) E) → IsWalk us (names_of machine.sees) w → length w.queue.items ≤ w.done → IfOk r (λ marks. marks.items ≡ map (is_named_in w.names) us) → IfOk r (λ marks. AreContextsMarked us marks.items)
  marks_of w (Ok marks) walk d e = marks_named w marks.items walk (all_done w d) e
  marks_of w (Err x) walk d e = tt

pub walk_answers : {E : Type 0} (us : List EbUnit) (a b : Walk) (q : List ℕ) (r : Result Bool E) → OnOk r ((first : List (List ℕ)) → IsWalk us first a → IsWalk us first b) → IfOk r (λ found. found ≡ has_text b.names q)
    → IfOk r (λ found. found ≡ false → length b.queue.items ≤ b.done) → IfOk r (λ found. (from : List ℕ) → IsWalk us (from ∷ []) a → IsTrue found ↔ Extends us from q)
walk_answers us a b q (Ok found) w e d = λ from h. walk_tells us from q b found e (λ f. all_done b (d f)) (w (from ∷ []) h)
walk_answers us a b q (Err x) w e d = tt
