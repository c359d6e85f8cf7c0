-- The depths of settled types.
use Rattle.std.proofs.Common.{◌≡◌, ◌∙◌, ℕ, zero, suc, ◌+◌, ◌<◌, ◌≤◌, true, false, List, [], ◌∷◌, ◌++◌, length, set, sym, ap, subst, arith, rules, ◌⊎◌, inl, inr, length-set}
use Rattle.std.specs.Prelude.{max, Some, slice_get}
use Rattle.std.proofs.lemmas.Bool.{cases_eq}
use Rattle.std.proofs.lemmas.List.{get_or-set_same, get_or-set_other}
use Rattle.eb_value.specs.declared.types.EbType.{EbType, the_lemmas}
use Rattle.eb_value.specs.Types.{integer, boolean, carrier, product, power}
use Rattle.type_equations.specs.declared.marks.Mark.{Mark}
use Rattle.type_equations.specs.declared.marks.Mark.TheVariants.{Begun}
use Rattle.type_equations.specs.declared.store.Entry.{Entry}
use Rattle.type_equations.specs.declared.store.Entry.TheVariants as entry
use Rattle.type_equations.specs.Depths.{depth, IsShallow, AreShallow}
use Rattle.type_equations.specs.Equations.{types_below}
use Rattle.type_equations.specs.Stores.{entry_at, ArePlaced}
use Rattle.type_equations.specs.Solutions.{made, type_at, solution_of, IsSolution}
use Rattle.type_equations.specs.steps.Settling.{mark_at, is_settled, unsettled, IsOnWay, AreSettled, AreFixed, AreFresh}
use Rattle.type_equations.specs.steps.Deepening.{capped, depth_at, depth_by, AreDeep, AreLow}
use Rattle.type_equations.proofs.MarkLaws.{OfParts, parts_map, mark_put_other, one_unsettled, on_last}
use Rattle.type_equations.proofs.SettleLaws.{IsTop, kept_settled, top_made, IsSettling, AreBegun}
use Rattle.type_equations.proofs.WrittenLaws.{part_within}

depth-integer : depth integer ≡ 0
depth-integer = search (rules, the_lemmas)

depth-boolean : depth boolean ≡ 0
depth-boolean = search (rules, the_lemmas)

depth-carrier : (place : ℕ) → depth (carrier place) ≡ 0
depth-carrier place = search (rules, the_lemmas)

depth-product : (s t : EbType) → depth (product s t) ≡ max (depth s) (depth t) + 1
depth-product s t = search (rules, the_lemmas)

depth-power : (t : EbType) → depth (power t) ≡ depth t + 1
depth-power t = search (rules, the_lemmas)

low_depth : (d : ℕ) → d ≡ 0 → 0 ≡ capped d
low_depth d e = omega (arith, e)

-- the depth of what an entry makes
depth_made : (ds : List ℕ) (σ : ℕ → EbType) (e : Entry) → OfParts (λ j. depth_at ds j ≡ capped (depth (σ j))) e → depth_by ds e ≡ capped (depth (made integer σ e))
depth_made ds σ entry.Free h = low_depth (depth integer) depth-integer
depth_made ds σ (entry.Link other) h = h
depth_made ds σ entry.Integer h = low_depth (depth integer) depth-integer
depth_made ds σ entry.Boolean h = low_depth (depth boolean) depth-boolean
depth_made ds σ (entry.Carrier place) h = low_depth (depth (carrier place)) (depth-carrier place)
depth_made ds σ (entry.Product first second) h = omega (arith, h.0, h.1, depth-product (σ first) (σ second))
depth_made ds σ (entry.Power members) h = omega (arith, h, depth-power (σ members))

-- a number that isn't settled needs no depth
pub deep_begun : (es : List Entry) (ms : List Mark) (ds : List ℕ) (p : ℕ) → p < length ms → AreDeep es ms ds → AreDeep es (set ms p Begun) ds
deep_begun es ms ds p h d = record { count = d.count; depth = λ j s. d.depth j (kept_settled ms p j h (cases_eq j p) s) }

-- the first part that isn't settled begins
pub deep_next : (es : List Entry) (ms : List Mark) (ds path : List ℕ) (k p : ℕ) → ArePlaced es → IsOnWay es ms (path ++ (k ∷ [])) → unsettled ms (entry_at es k) ≡ Some p → AreDeep es ms ds → AreDeep es (set ms p Begun) ds
deep_next es ms ds path k p placed way next d =
    let part = one_unsettled ms (entry_at es k) p next in
    let inside : k < length es = way.within k (on_last path k) in
    let there : p < length es = part_within (length es) k p (entry_at es k) (placed.placed k) inside part.0 in
    deep_begun es ms ds p (omega (arith, way.count, there)) d

deep_at : (es : List Entry) (ms : List Mark) (ds : List ℕ) (path : List ℕ) (k j : ℕ) (m : Mark) → IsTop es ms path k m → AreDeep es ms ds → k < length ds → (j ≡ k) ⊎ (j ≡ k → ⊥) → is_settled (mark_at (set ms k m) j) ≡ true
    → depth_at (set ds k (depth_by ds (entry_at es k))) j ≡ capped (depth (type_at integer es j))
deep_at es ms ds path k j m top d h (inl e) s =
    let parts = parts_map (λ i. is_settled (mark_at ms i) ≡ true) (λ i. depth_at ds i ≡ capped (depth (type_at integer es i))) (λ i t. d.depth i t) (entry_at es k) top.parts in
    let own : depth_at (set ds k (depth_by ds (entry_at es k))) k ≡ capped (depth (type_at integer es k)) =
    get_or-set_same ds k (depth_by ds (entry_at es k)) 0 h ∙ (depth_made ds (type_at integer es) (entry_at es k) parts ∙ ap (λ t. capped (depth t)) (sym (top_made es ms path k m top integer))) in
    subst (λ z. depth_at (set ds k (depth_by ds (entry_at es k))) z ≡ capped (depth (type_at integer es z))) (sym e) own
deep_at es ms ds path k j m top d h (inr ne) s =
    get_or-set_other ds k j (depth_by ds (entry_at es k)) 0 ne ∙ d.depth j (sym (ap is_settled (mark_put_other ms k j m ne)) ∙ s)

-- a number that is settled by its parts has its depth by them
pub deep_top : (es : List Entry) (ms : List Mark) (ds : List ℕ) (path : List ℕ) (k : ℕ) (m : Mark) → IsTop es ms path k m → AreDeep es ms ds → AreDeep es (set ms k m) (set ds k (depth_by ds (entry_at es k)))
deep_top es ms ds path k m top d =
    let h : k < length ds = omega (arith, d.count, top.way.count, top.here) in
    record {
      count = length-set ds k (depth_by ds (entry_at es k)) ∙ d.count;
      depth = λ j s. deep_at es ms ds path k j m top d h (cases_eq j k) s;
    }

shallow_more : (ts : List EbType) (t : EbType) → AreShallow ts → IsShallow t → AreShallow (ts ++ (t ∷ []))
shallow_more [] t h i = (i, tt)
shallow_more (u ∷ ts) t h i = (h.0, shallow_more ts t h.1 i)

shallow_below : (n : ℕ) (σ : ℕ → EbType) → ((k : ℕ) → k < n → IsShallow (σ k)) → AreShallow (types_below n σ)
shallow_below zero σ h = tt
shallow_below (suc n) σ h = shallow_more (types_below n σ) (σ n) (shallow_below n σ (λ k less. h k (omega (arith, less)))) (h n (omega arith))

shallow_at : (d n : ℕ) → d ≡ capped n → d ≤ 1000 → n ≤ 1000
shallow_at d n e h = omega (arith, e, h)

-- fixed numbers of low depths have shallow types
shallow_solution : (es : List Entry) (ms : List Mark) (ds : List ℕ) (asked : ℕ) → AreFixed asked ms → AreDeep es ms ds → AreLow asked ds → AreShallow (solution_of es asked)
shallow_solution es ms ds asked f d l =
    shallow_below asked (type_at integer es) (λ k h. shallow_at (depth_at ds k) (depth (type_at integer es k)) (d.depth k (ap is_settled (f k h))) (l k h))

-- what `Solution` asks of a store whose numbers are settled
pub is_solution : (es : List Entry) (ms : List Mark) (ds : List ℕ) (asked : ℕ) → ArePlaced es → AreSettled es ms → asked ≤ length es → AreFixed asked ms → AreDeep es ms ds → AreLow asked ds → IsSolution es asked
is_solution es ms ds asked p a h f d l = record { placed = p; solved = a.solved integer; within = h; shallow = shallow_solution es ms ds asked f d l }

pub shallow_get : (ts : List EbType) (k : ℕ) (t : EbType) → AreShallow ts → slice_get ts k ≡ Some t → IsShallow t
shallow_get [] k t h e = absurd cc
shallow_get (u ∷ ts) zero t h e = let same : u ≡ t = cc in subst IsShallow same h.0
shallow_get (u ∷ ts) (suc k) t h e = shallow_get ts k t h.1 e

-- at the start nothing is settled
pub deep_start : (es : List Entry) (total : ℕ) (ms : List Mark) (ds : List ℕ) → AreFresh total ms → length es ≡ total → length ds ≡ total → AreDeep es ms ds
deep_start es total ms ds f e d = record {
  count = d ∙ sym e;
  depth = λ j s. let two : false ≡ true = sym (ap is_settled (f.fresh j)) ∙ s in absurd cc;
}

-- What the loop over the path knows.
pub record IsDeepening (es : List Entry) (number : ℕ) (start ms : List Mark) (ds path : List ℕ) : Type 0 where
  pub settling : IsSettling es number start ms path
  pub deep : AreDeep es ms ds

-- What the loop over the numbers knows.
pub record AreDeepened (es : List Entry) (n : ℕ) (ms : List Mark) (ds path : List ℕ) : Type 0 where
  pub begun : AreBegun es n ms path
  pub deep : AreDeep es ms ds

-- the first number of a path begins
pub deep_first : (es : List Entry) (ms : List Mark) (ds path : List ℕ) (p : ℕ) → IsOnWay es ms path → p < length es → AreDeep es ms ds → AreDeep es (set ms p Begun) ds
deep_first es ms ds path p way h d = deep_begun es ms ds p (omega (arith, way.count, h)) d
