-- Binders, range by range.
use Rattle.std.proofs.Common.{◌≡◌, ◌∙◌, refl, sym, ap, subst, ℕ, suc, ◌<◌, ◌+◌, List, [], ◌∷◌, ◌++◌, map, length, drop, get_or, append_assoc, add-one, drop-cons}
use Rattle.eb_term.specs.declared.operators.Binder.{Binder}
use Rattle.eb_term.specs.declared.term.Term.{Term}
use Rattle.eb_lowering.specs.declared.setting.Setting.{Setting}
use Rattle.eb_lowering.specs.declared.around.Around.{Around}
use Rattle.eb_lowering.specs.declared.around.Place.{Place}
use Rattle.eb_lowering.specs.declared.anchors.Range.{Range as Kept}
use Rattle.eb_lowering.specs.declared.anchors.Range.TheVariants as kept
use Rattle.eb_lowering.specs.declared.binding.Made.{Made}
use Rattle.eb_lowering.specs.Lowering as spec
use Rattle.eb_lowering.specs.steps.Anchoring.{seen}
use Rattle.eb_lowering.specs.steps.Binding.{leaves_in, made_at, under, under_all}

pub under_more : (o : Binder) (ms : List Made) (m : Made) (t : Term) → under_all o (ms ++ m ∷ []) t ≡ under_all o ms (under o m t)
under_more o [] m t = refl
under_more o (n ∷ ms) m t = ap (under o n) (under_more o ms m t)

-- the first range is outermost, and what stands at it is outside of its binder
bind_first : (s : Setting) (o : Binder) (r : Kept) (rs : List Kept) (body : Around → Term) (w : Around)
    → spec.bind s o (map (seen s) (r ∷ rs)) body w ≡ under o (made_at s w r) (spec.bind s o (map (seen s) rs) body (spec.inside w (leaves_in r)))
bind_first s o (kept.Over ls q) rs body w = refl
bind_first s o (kept.All k) rs body w = refl

-- what is left to bind, as it stands inside the binders of some ranges, behind what was made before
pub record BoundUpTo (s : Setting) (body : Around → Term) (all rest : List Kept) (before now : Around) (old made : List Made) : Type 0 where
  pub term : (o : Binder) → under_all o old (spec.bind s o (map (seen s) all) body before) ≡ under_all o made (spec.bind s o (map (seen s) rest) body now)
  pub inner : List Place
  pub kept : now.bound ≡ before.bound ++ inner

nothing : (ps : List Place) → ps ≡ ps ++ []
nothing [] = refl
nothing (p ∷ ps) = ap (λ z. p ∷ z) (nothing ps)

pub bound_none : (s : Setting) (body : Around → Term) (all : List Kept) (w : Around) (old : List Made) → BoundUpTo s body all all w w old old
bound_none s body all w old = record { term = λ o. refl; inner = []; kept = nothing w.bound }

pub bound_more : (s : Setting) (body : Around → Term) (all : List Kept) (before now next : Around) (old made : List Made) (m : Made) (i : ℕ) (r : Kept) → i < length all → r ≡ get_or all i r
    → BoundUpTo s body all (drop i all) before now old made → m ≡ made_at s now r → next ≡ spec.inside now (leaves_in r)
    → BoundUpTo s body all (drop (i + 1) all) before next old (made ++ m ∷ [])
bound_more s body all before now next old made m i r h is v e f =
    let d : drop i all ≡ r ∷ drop (i + 1) all = rw (add-one, drop-cons all i r) (ap (λ z. z ∷ drop (suc i) all) (sym is)) in
    let b = subst (λ z. BoundUpTo s body all z before now old made) d v in
    rw (e, f) (record {
      term = λ o. b.term o ∙ ap (under_all o made) (bind_first s o r (drop (i + 1) all) body now) ∙ sym (under_more o made (made_at s now r) _);
      inner = b.inner ++ map (spec.place_of now.depth) (leaves_in r);
      kept = ap (λ z. z ++ map (spec.place_of now.depth) (leaves_in r)) b.kept ∙ append_assoc before.bound b.inner _;
    })
