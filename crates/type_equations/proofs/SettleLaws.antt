-- Steps on the way through the parts of numbers.
use Rattle.std.proofs.Common.{◌≡◌, ◌∙◌, ℕ, suc, ◌+◌, ◌<◌, ◌≤◌, Bool, true, false, List, [], ◌∷◌, ◌++◌, length, set, refl, sym, ap, subst, arith, ◌⊎◌, inl, inr, length-set, length-append}
use Rattle.std.specs.Prelude.{Some, None}
use Rattle.std.proofs.lemmas.Bool.{cases_eq, cases_lt}
use Rattle.eb_value.specs.declared.types.EbType.{EbType}
use Rattle.eb_value.specs.Types.{integer, boolean}
use Rattle.type_equations.specs.declared.marks.Mark.{Mark}
use Rattle.type_equations.specs.declared.marks.Mark.TheVariants.{Fresh, Begun, Fixed, Loose}
use Rattle.type_equations.specs.declared.store.Entry.{Entry}
use Rattle.type_equations.specs.declared.store.Entry.TheVariants as entry
use Rattle.type_equations.specs.steps.Sizes.{weight}
use Rattle.type_equations.specs.Stores.{entry_at, Agrees, ArePlaced}
use Rattle.type_equations.specs.Solutions.{made, type_at}
use Rattle.type_equations.specs.steps.Settling.{mark_at, is_settled, fresh_of, settled_of, fresh_count, settled_count, unsettled, mark_of, IsStable, IsOn, Knows, IsOnWay, KeepsBegun, Goes, AreSettled, Circular, Settles}
use Rattle.type_equations.proofs.TypeLaws.{integer≢boolean, product_parts, power_part}
use Rattle.type_equations.proofs.MarkLaws.{OfParts, parts_map, mark_put_same, mark_put_other, total_put, settled_within, settled_one, settled_none, fresh_none, is_fresh, is_known, is_loose, all_settled, one_unsettled, mark_settled, mark_fixed, IsLooseBy, mark_loose, on_push, on_last, on_cases, falls_push, falls_pop, falls_last}
use Rattle.type_equations.proofs.WrittenLaws.{stable_on, stable_above, stable_made, past_made, made_fits, part_within, part_lighter}

-- A number that isn't settled and isn't begun is put at the end of the path, where it weighs less than those before.

begun_at : (es : List Entry) (ms : List Mark) (path : List ℕ) (p j : ℕ) → IsOnWay es ms path → (j ≡ p) ⊎ (j ≡ p → ⊥) → mark_at (set ms p Begun) j ≡ Begun → IsOn (path ++ (p ∷ [])) j
begun_at es ms path p j way (inl e) b = subst (IsOn (path ++ (p ∷ []))) (sym e) (on_last path p)
begun_at es ms path p j way (inr ne) b = on_push path p j (way.begun j (sym (mark_put_other ms p j Begun ne) ∙ b))

within_at : (es : List Entry) (ms : List Mark) (path : List ℕ) (p j : ℕ) → IsOnWay es ms path → p < length es → IsOn path j ⊎ (j ≡ p) → j < length es
within_at es ms path p j way h (inl on) = way.within j on
within_at es ms path p j way h (inr e) = omega (arith, e, h)

-- what a put of Begun leaves
kept : (ms : List Mark) (p j : ℕ) (m : Mark) → p < length ms → (m ≡ Begun → ⊥) → (j ≡ p) ⊎ (j ≡ p → ⊥) → mark_at (set ms p Begun) j ≡ m → mark_at ms j ≡ m
kept ms p j m h n (inl e) at = absurd (n (sym at ∙ ap (mark_at (set ms p Begun)) e ∙ mark_put_same ms p Begun h))
kept ms p j m h n (inr ne) at = sym (mark_put_other ms p j Begun ne) ∙ at

pub kept_settled : (ms : List Mark) (p j : ℕ) → p < length ms → (j ≡ p) ⊎ (j ≡ p → ⊥) → is_settled (mark_at (set ms p Begun) j) ≡ true → is_settled (mark_at ms j) ≡ true
kept_settled ms p j h (inl e) s =
    let no_way : is_settled (mark_at (set ms p Begun) j) ≡ false = ap (λ z. is_settled (mark_at (set ms p Begun) z)) e ∙ ap is_settled (mark_put_same ms p Begun h) in
    absurd (cc)
kept_settled ms p j h (inr ne) s = sym (ap is_settled (mark_put_other ms p j Begun ne)) ∙ s

pub begins : (es : List Entry) (ms : List Mark) (path : List ℕ) (p : ℕ) → IsOnWay es ms path → p < length es → mark_at ms p ≡ Fresh
    → ((σ : ℕ → EbType) → Agrees σ es → (y : ℕ) → IsOn path y → weight σ (length es) p < weight σ (length es) y) → IsOnWay es (set ms p Begun) (path ++ (p ∷ []))
begins es ms path p way h fresh light =
    let here : p < length ms = omega (arith, way.count, h) in
    let was : settled_of (mark_at ms p) ≡ 0 = ap settled_of fresh in
    let same : settled_count (set ms p Begun) ≡ settled_count ms = omega (arith, total_put settled_of ms p Begun here, was) in
    record {
      count = length-set ms p Begun ∙ way.count;
      begun = λ j. begun_at es ms path p j way (cases_eq j p);
      within = λ j on. within_at es ms path p j way h (on_cases path p j on);
      falls = λ σ a. falls_push (weight σ (length es)) path p (way.falls σ a) (light σ a);
      stable = λ j s u. subst (λ n. IsStable u es n j) (sym same) (way.stable j (kept_settled ms p j here (cases_eq j p) s) u);
      knows = record {
        fixed = λ j at. way.knows.fixed j (kept ms p j Fixed here (λ e. cc) (cases_eq j p) at);
        loose = λ j at. way.knows.loose j (kept ms p j Loose here (λ e. cc) (cases_eq j p) at);
      };
    }

pub begins_keeps : (ms : List Mark) (p : ℕ) → p < length ms → KeepsBegun ms (set ms p Begun)
begins_keeps ms p h = λ j at. kept ms p j Fresh h (λ e. cc) (cases_eq j p) at

pub begins_fewer : (ms : List Mark) (p : ℕ) → p < length ms → mark_at ms p ≡ Fresh → fresh_count (set ms p Begun) + 1 ≡ fresh_count ms
begins_fewer ms p h fresh = let was : fresh_of (mark_at ms p) ≡ 1 = ap fresh_of fresh in omega (arith, total_put fresh_of ms p Begun h, was)

pub begins_there : (ms : List Mark) (p : ℕ) → p < length ms → mark_at (set ms p Begun) p ≡ Fresh → ⊥
begins_there ms p h at = let same : Begun ≡ Fresh = sym (mark_put_same ms p Begun h) ∙ at in cc

-- A number's first part that isn't settled.

pub deepens : (es : List Entry) (ms : List Mark) (path : List ℕ) (k p : ℕ) → ArePlaced es → IsOnWay es ms (path ++ (k ∷ [])) → unsettled ms (entry_at es k) ≡ Some p → (mark_at ms p ≡ Begun → ⊥)
    → Goes es ms path (set ms p Begun) ((path ++ (k ∷ [])) ++ (p ∷ []))
deepens es ms path k p placed way next apart =
    let part = one_unsettled ms (entry_at es k) p next in
    let fresh : mark_at ms p ≡ Fresh = is_fresh (mark_at ms p) part.1 apart in
    let inside : k < length es = way.within k (on_last path k) in
    let there : p < length es = part_within (length es) k p (entry_at es k) (placed.placed k) inside part.0 in
    let here : p < length ms = omega (arith, way.count, there) in
    let one = length-append path (k ∷ []) in
    let two = length-append (path ++ (k ∷ [])) (p ∷ []) in
    let few = begins_fewer ms p here fresh in
    record {
      way = begins es ms (path ++ (k ∷ [])) p way there fresh
          (λ σ a y on. (let less = part_lighter σ (length es) k p (entry_at es k) (placed.placed k) (a.fits k) part.0 in
          let least = falls_last (weight σ (length es)) path k y (way.falls σ a) on in
          omega (arith, less, least)));
      keeps = begins_keeps ms p here;
      fewer = omega (arith, one, two, few);
    }

pub circular : (es : List Entry) (ms : List Mark) (path : List ℕ) (k p : ℕ) → ArePlaced es → IsOnWay es ms (path ++ (k ∷ [])) → unsettled ms (entry_at es k) ≡ Some p → mark_at ms p ≡ Begun → Circular es
circular es ms path k p placed way next begun = λ σ a.
    let part = one_unsettled ms (entry_at es k) p next in
    let less = part_lighter σ (length es) k p (entry_at es k) (placed.placed k) (a.fits k) part.0 in
    let least = falls_last (weight σ (length es)) path k p (way.falls σ a) (way.begun p begun) in
    omega (arith, less, least)

-- The number at the end of the path is settled.

settled_apart : (m : Mark) → is_settled m ≡ true → m ≡ Begun → ⊥
settled_apart m s e = let two : false ≡ true = sym (ap is_settled e) ∙ s in cc

settled_known : (m : Mark) → is_settled m ≡ true → m ≡ Fresh → ⊥
settled_known m s e = let two : false ≡ true = sym (ap is_settled e) ∙ s in cc

-- how a put of a settled mark counts
more_settled : (ms : List Mark) (k : ℕ) (m : Mark) (was : Bool) → k < length ms → is_settled m ≡ true → is_settled (mark_at ms k) ≡ was → settled_count ms ≤ settled_count (set ms k m)
more_settled ms k m true h s w = omega (arith, total_put settled_of ms k m h, settled_one m s, settled_one (mark_at ms k) w)
more_settled ms k m false h s w = omega (arith, total_put settled_of ms k m h, settled_one m s, settled_none (mark_at ms k) w)

stable_top : (es : List Entry) (ms : List Mark) (path : List ℕ) (k : ℕ) (m : Mark) (was : Bool) → IsOnWay es ms path → k < length ms → is_settled m ≡ true
    → OfParts (λ j. is_settled (mark_at ms j) ≡ true) (entry_at es k) → is_settled (mark_at ms k) ≡ was → (u : EbType) → IsStable u es (settled_count (set ms k m)) k
stable_top es ms path k m true way h s parts w u = stable_on u es (settled_count ms) (settled_count (set ms k m)) k (way.stable k w u) (more_settled ms k m true h s w)
stable_top es ms path k m false way h s parts w u =
    let one : settled_count (set ms k m) ≡ suc (settled_count ms) = omega (arith, total_put settled_of ms k m h, settled_one m s, settled_none (mark_at ms k) w) in
    subst (λ n. IsStable u es n k) (sym one) (stable_above u es (settled_count ms) k
    (parts_map (λ j. is_settled (mark_at ms j) ≡ true) (IsStable u es (settled_count ms)) (λ j t. way.stable j t u) (entry_at es k) parts))

-- What is known where a number is settled by its parts.
pub record IsTop (es : List Entry) (ms : List Mark) (path : List ℕ) (k : ℕ) (m : Mark) : Type 0 where
  pub way : IsOnWay es ms (path ++ (k ∷ []))
  pub here : k < length ms
  pub parts : OfParts (λ j. is_settled (mark_at ms j) ≡ true) (entry_at es k)
  pub mark : m ≡ mark_of ms (entry_at es k)
  pub settled : is_settled m ≡ true

pub is_top : (es : List Entry) (ms : List Mark) (path : List ℕ) (k : ℕ) (m : Mark) → IsOnWay es ms (path ++ (k ∷ [])) → unsettled ms (entry_at es k) ≡ None → m ≡ mark_of ms (entry_at es k) → IsTop es ms path k m
is_top es ms path k m way none e =
    let parts = all_settled ms (entry_at es k) none in
    record {
      way = way;
      here = omega (arith, way.count, way.within k (on_last path k));
      parts = parts;
      mark = e;
      settled = ap is_settled e ∙ mark_settled ms (entry_at es k) parts;
    }

top_on : (path : List ℕ) (j k : ℕ) → (j ≡ k → ⊥) → IsOn path j ⊎ (j ≡ k) → IsOn path j
top_on path j k ne (inl on) = on
top_on path j k ne (inr e) = absurd (ne e)

top_begun : (es : List Entry) (ms : List Mark) (path : List ℕ) (k j : ℕ) (m : Mark) → IsTop es ms path k m → (j ≡ k) ⊎ (j ≡ k → ⊥) → mark_at (set ms k m) j ≡ Begun → IsOn path j
top_begun es ms path k j m top (inl e) b = absurd (settled_apart m top.settled (sym (mark_put_same ms k m top.here) ∙ ap (mark_at (set ms k m)) (sym e) ∙ b))
top_begun es ms path k j m top (inr ne) b = top_on path j k ne (on_cases path k j (top.way.begun j (sym (mark_put_other ms k j m ne) ∙ b)))

top_stable : (es : List Entry) (ms : List Mark) (path : List ℕ) (k j : ℕ) (m : Mark) → IsTop es ms path k m → (j ≡ k) ⊎ (j ≡ k → ⊥) → is_settled (mark_at (set ms k m) j) ≡ true → (u : EbType)
    → IsStable u es (settled_count (set ms k m)) j
top_stable es ms path k j m top (inl e) s u =
    subst (IsStable u es (settled_count (set ms k m))) (sym e) (stable_top es ms (path ++ (k ∷ [])) k m (is_settled (mark_at ms k)) top.way top.here top.settled top.parts refl u)
top_stable es ms path k j m top (inr ne) s u =
    stable_on u es (settled_count ms) (settled_count (set ms k m)) j (top.way.stable j (sym (ap is_settled (mark_put_other ms k j m ne)) ∙ s) u)
    (more_settled ms k m (is_settled (mark_at ms k)) top.here top.settled refl)

-- the type of the number is made of its parts
pub top_made : (es : List Entry) (ms : List Mark) (path : List ℕ) (k : ℕ) (m : Mark) → IsTop es ms path k m → (u : EbType) → type_at u es k ≡ made u (type_at u es) (entry_at es k)
top_made es ms path k m top u =
    let few = settled_within (set ms k m) in
    stable_made u es (settled_count (set ms k m)) k (stable_top es ms (path ++ (k ∷ [])) k m (is_settled (mark_at ms k)) top.way top.here top.settled top.parts refl u)
    (omega (arith, few, length-set ms k m, top.way.count))

not_free : (ms : List Mark) (e : Entry) → mark_of ms e ≡ Fixed → e ≡ entry.Free → ⊥
not_free ms e at free = let two : Loose ≡ Fixed = sym (ap (mark_of ms) free) ∙ at in cc

top_fixed : (es : List Entry) (ms : List Mark) (path : List ℕ) (k : ℕ) (m : Mark) → IsTop es ms path k m → m ≡ Fixed → (σ : ℕ → EbType) → Agrees σ es → σ k ≡ type_at integer es k
top_fixed es ms path k m top fixed σ a =
    let at : mark_of ms (entry_at es k) ≡ Fixed = sym top.mark ∙ fixed in
    let parts = parts_map (λ j. mark_at ms j ≡ Fixed) (λ j. σ j ≡ type_at integer es j) (λ j f. top.way.knows.fixed j f σ a) (entry_at es k) (mark_fixed ms (entry_at es k) at) in
    made_fits σ (type_at integer es) k (entry_at es k) (not_free ms (entry_at es k) at) (a.fits k) parts ∙ sym (top_made es ms path k m top integer)

-- two types that are made of several parts are several
made_loose : (es : List Entry) (ms : List Mark) (e : Entry) → Knows es ms → IsLooseBy ms e → made integer (type_at integer es) e ≡ made boolean (type_at boolean es) e → ⊥
made_loose es ms entry.Free knows l same = integer≢boolean same
made_loose es ms (entry.Link other) knows l same = knows.loose other l same
made_loose es ms entry.Integer knows l same = l
made_loose es ms entry.Boolean knows l same = l
made_loose es ms (entry.Carrier place) knows l same = l
made_loose es ms (entry.Product first second) knows (inl l) same =
    knows.loose first l (product_parts (type_at integer es first) (type_at integer es second) (type_at boolean es first) (type_at boolean es second) same).0
made_loose es ms (entry.Product first second) knows (inr l) same =
    knows.loose second l (product_parts (type_at integer es first) (type_at integer es second) (type_at boolean es first) (type_at boolean es second) same).1
made_loose es ms (entry.Power members) knows l same = knows.loose members l (power_part (type_at integer es members) (type_at boolean es members) same)

top_loose : (es : List Entry) (ms : List Mark) (path : List ℕ) (k : ℕ) (m : Mark) → IsTop es ms path k m → m ≡ Loose → type_at integer es k ≡ type_at boolean es k → ⊥
top_loose es ms path k m top loose same =
    made_loose es ms (entry_at es k) top.way.knows (mark_loose ms (entry_at es k) top.parts (sym top.mark ∙ loose))
    (sym (top_made es ms path k m top integer) ∙ same ∙ top_made es ms path k m top boolean)

-- a mark after the put: the new one, or one from before
put_at : (ms : List Mark) (k j : ℕ) (m n : Mark) → k < length ms → (j ≡ k) ⊎ (j ≡ k → ⊥) → mark_at (set ms k m) j ≡ n → ((j ≡ k) × (m ≡ n)) ⊎ (mark_at ms j ≡ n)
put_at ms k j m n h (inl e) at = inl (e, sym (mark_put_same ms k m h) ∙ ap (mark_at (set ms k m)) (sym e) ∙ at)
put_at ms k j m n h (inr ne) at = inr (sym (mark_put_other ms k j m ne) ∙ at)

fixed_after : (es : List Entry) (ms : List Mark) (path : List ℕ) (k j : ℕ) (m : Mark) → IsTop es ms path k m → ((j ≡ k) × (m ≡ Fixed)) ⊎ (mark_at ms j ≡ Fixed) → (σ : ℕ → EbType) → Agrees σ es → σ j ≡ type_at integer es j
fixed_after es ms path k j m top (inl e) σ a = subst (λ z. σ z ≡ type_at integer es z) (sym e.0) (top_fixed es ms path k m top e.1 σ a)
fixed_after es ms path k j m top (inr at) σ a = top.way.knows.fixed j at σ a

loose_after : (es : List Entry) (ms : List Mark) (path : List ℕ) (k j : ℕ) (m : Mark) → IsTop es ms path k m → ((j ≡ k) × (m ≡ Loose)) ⊎ (mark_at ms j ≡ Loose) → type_at integer es j ≡ type_at boolean es j → ⊥
loose_after es ms path k j m top (inl e) same = top_loose es ms path k m top e.1 (subst (λ z. type_at integer es z ≡ type_at boolean es z) e.0 same)
loose_after es ms path k j m top (inr at) same = top.way.knows.loose j at same

fresh_before : (ms : List Mark) (k j : ℕ) (m : Mark) → is_settled m ≡ true → ((j ≡ k) × (m ≡ Fresh)) ⊎ (mark_at ms j ≡ Fresh) → mark_at ms j ≡ Fresh
fresh_before ms k j m s (inl e) = absurd (settled_known m s e.1)
fresh_before ms k j m s (inr at) = at

pub settles_top : (es : List Entry) (ms : List Mark) (path : List ℕ) (k : ℕ) (m : Mark) → IsTop es ms path k m → Goes es ms path (set ms k m) path
settles_top es ms path k m top =
    let few = total_put fresh_of ms k m top.here in
    let none = fresh_none m top.settled in
    record {
      way = record {
        count = length-set ms k m ∙ top.way.count;
        begun = λ j. top_begun es ms path k j m top (cases_eq j k);
        within = λ j on. top.way.within j (on_push path k j on);
        falls = λ σ a. falls_pop (weight σ (length es)) path k (top.way.falls σ a);
        stable = λ j. top_stable es ms path k j m top (cases_eq j k);
        knows = record {
          fixed = λ j at. fixed_after es ms path k j m top (put_at ms k j m Fixed top.here (cases_eq j k) at);
          loose = λ j at. loose_after es ms path k j m top (put_at ms k j m Loose top.here (cases_eq j k) at);
        };
      };
      keeps = λ j at. fresh_before ms k j m top.settled (put_at ms k j m Fresh top.here (cases_eq j k) at);
      fewer = omega (arith, few, none);
    }

-- A number with all its parts.

pub keeps_both : (ms ns os : List Mark) → KeepsBegun ms ns → KeepsBegun ns os → KeepsBegun ms os
keeps_both ms ns os a b = λ k at. a k (b k at)

-- What the loop over the path knows.
pub record IsSettling (es : List Entry) (number : ℕ) (start ms : List Mark) (path : List ℕ) : Type 0 where
  pub way : IsOnWay es ms path
  pub keeps : KeepsBegun start ms
  pub begun : mark_at ms number ≡ Fresh → ⊥

pub starts_fresh : (es : List Entry) (ms : List Mark) (path : List ℕ) (number : ℕ) → IsOnWay es ms path → path ≡ [] → number < length es → mark_at ms number ≡ Fresh
    → IsSettling es number ms (set ms number Begun) (path ++ (number ∷ []))
starts_fresh es ms path number way idle h fresh =
    let here : number < length ms = omega (arith, way.count, h) in
    record {
      way = begins es ms path number way h fresh (λ σ a y on. absurd (subst (λ xs. IsOn xs y) idle on));
      keeps = begins_keeps ms number here;
      begun = begins_there ms number here;
    }

pub starts_known : (es : List Entry) (ms : List Mark) (path : List ℕ) (number : ℕ) → IsOnWay es ms path → (mark_at ms number ≡ Fresh → ⊥) → IsSettling es number ms ms path
starts_known es ms path number way known = record { way = way; keeps = λ k at. at; begun = known }

-- All numbers.

-- What the loop over the numbers knows.
pub record AreBegun (es : List Entry) (n : ℕ) (ms : List Mark) (path : List ℕ) : Type 0 where
  pub way : IsOnWay es ms path
  pub idle : path ≡ []
  pub begun : (k : ℕ) → k < n → mark_at ms k ≡ Fresh → ⊥

begun_more : (es : List Entry) (n k : ℕ) (ms ns : List Mark) (path ys : List ℕ) → AreBegun es n ms path → Settles es n ms ns ys → k < n + 1 → (k ≡ n) ⊎ (k ≡ n → ⊥) → mark_at ns k ≡ Fresh → ⊥
begun_more es n k ms ns path ys b s h (inl e) f = s.begun (subst (λ z. mark_at ns z ≡ Fresh) e f)
begun_more es n k ms ns path ys b s h (inr ne) f = b.begun k (omega (arith, h, ne)) (s.keeps k f)

all_known : (es : List Entry) (k : ℕ) (ms : List Mark) (path : List ℕ) → AreBegun es (length es) ms path → k < length es → is_settled (mark_at ms k) ≡ true
all_known es k ms path b h = is_known (mark_at ms k) (b.begun k h) (λ e. subst (λ xs. IsOn xs k) b.idle (b.way.begun k e))

made_at : (es : List Entry) (k : ℕ) (ms : List Mark) (path : List ℕ) (u : EbType) → AreBegun es (length es) ms path → (k < length es) ⊎ (length es ≤ k) → type_at u es k ≡ made u (type_at u es) (entry_at es k)
made_at es k ms path u b (inl h) = stable_made u es (settled_count ms) k (b.way.stable k (all_known es k ms path b h) u) (omega (arith, settled_within ms, b.way.count))
made_at es k ms path u b (inr h) = past_made u es k h

pub are_settled : (es : List Entry) (total : ℕ) (ms : List Mark) (path : List ℕ) → length es ≡ total → AreBegun es total ms path → AreSettled es ms
are_settled es total ms path count begun =
    let b : AreBegun es (length es) ms path = subst (λ n. AreBegun es n ms path) (sym count) begun in
    record {
      solved = λ u. record { made_of = λ k. made_at es k ms path u b (cases_lt k (length es)) };
      knows = b.way.knows;
      each = λ k h f. is_loose (mark_at ms k) (all_known es k ms path b h) f;
    }
