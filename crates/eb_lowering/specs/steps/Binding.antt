-- Binders over ranges in the steps of the code.
use Rattle.std.specs.Prelude.{◌≡◌, ℕ, List, [], ◌∷◌, map, max}
use Rattle.eb_syntax.specs.declared.ast.Bound.{Bound}
use Rattle.eb_syntax.specs.declared.ast.Call.TheVariants as call
use Rattle.eb_syntax.specs.declared.ast.Binder.{Binder as Gatherer}
use Rattle.eb_syntax.specs.declared.ast.Binder.TheVariants as gather
use Rattle.eb_term.specs.declared.operators.Unary.TheVariants as unary
use Rattle.eb_term.specs.declared.operators.Binary.TheVariants as binary
use Rattle.eb_term.specs.declared.operators.Binder.{Binder}
use Rattle.eb_term.specs.declared.term.Term.{Term}
use Rattle.eb_term.specs.Terms as term
use Rattle.eb_resolved.specs.declared.resolved.Resolved.{Resolved, size-Resolved}
use Rattle.eb_lowering.specs.declared.setting.Setting.{Setting}
use Rattle.eb_lowering.specs.declared.around.Around.{Around}
use Rattle.eb_lowering.specs.declared.around.Leaf.{Leaf}
use Rattle.eb_lowering.specs.declared.anchors.Range.{Range as Kept}
use Rattle.eb_lowering.specs.declared.anchors.Range.TheVariants as kept
use Rattle.eb_lowering.specs.declared.binding.Body.{Body}
use Rattle.eb_lowering.specs.declared.binding.Body.TheVariants as body
use Rattle.eb_lowering.specs.declared.binding.Made.{Made}
use Rattle.eb_lowering.specs.declared.binding.Made.TheVariants as made
use Rattle.narrow_terms.specs.Building.{extension, pair}
use Rattle.eb_lowering.specs.Lowering.{lowered, leaf, bind, pattern_term, range_at}
use Rattle.eb_lowering.specs.steps.Anchoring.{seen}

abbrev pub guarded : Term → Term → Term
guarded p e = term.binary binary.If p e

-- the term of a body
abbrev pub body_term : Setting → Body → Around → Term
body_term s (body.Predicate p) w = (lowered s p.now).term w
body_term s (body.Members p e) w = guarded ((lowered s p.now).term w) (extension ((lowered s e.now).term w))
body_term s (body.Pairs b first p e) w = guarded ((lowered s p.now).term w) (extension (pair (pattern_term s b.now first w) ((lowered s e.now).term w)))
body_term s (body.Sets p e) w = guarded ((lowered s p.now).term w) ((lowered s e.now).term w)

-- the depth of the deeper formula
abbrev pub body_size : Body → ℕ
body_size (body.Predicate p) = size-Resolved p.now
body_size (body.Members p e) = max (size-Resolved p.now) (size-Resolved e.now)
body_size (body.Pairs b first p e) = max (size-Resolved p.now) (size-Resolved e.now)
body_size (body.Sets p e) = max (size-Resolved p.now) (size-Resolved e.now)

-- the body of `%`, `UNION` and `INTER` and its depth
abbrev pub gathered_term : Setting → Gatherer → Bound → ℕ → Resolved → Resolved → Around → Term
gathered_term s gather.Lambda b first p e w = guarded ((lowered s p).term w) (extension (pair (pattern_term s b first w) ((lowered s e).term w)))
gathered_term s gather.Union b first p e w = guarded ((lowered s p).term w) ((lowered s e).term w)
gathered_term s gather.Intersection b first p e w = guarded ((lowered s p).term w) (extension ((lowered s e).term w))

pub record IsBody (g : Gatherer) (b : Bound) (first : ℕ) (p e : Resolved) (made : Body) : Type 0 where
  pub term : (s : Setting) (w : Around) → body_term s made w ≡ gathered_term s g b first p e w
  pub size : body_size made ≡ max (size-Resolved p) (size-Resolved e)

-- what becomes of what they collect
abbrev pub gathered : Gatherer → Term → Term
gathered gather.Lambda set = set
gathered gather.Union set = set
gathered gather.Intersection set = term.unary (unary.Call call.GeneralizedIntersection) set

abbrev pub leaves_in : Kept → List Leaf
leaves_in (kept.Over ls r) = ls
leaves_in (kept.All k) = leaf k ∷ []

-- what stands at a range
abbrev pub made_at : Setting → Around → Kept → Made
made_at s w (kept.Over ls r) = made.Over ((lowered s r.now).term w)
made_at s w (kept.All k) = made.All (range_at s k)

-- a body under one binder
abbrev pub under : Binder → Made → Term → Term
under o (made.Over set) t = term.over o set t
under o (made.All ty) t = term.all o ty t

-- a body under a binder for each of these, the first outermost
abbrev pub under_all : Binder → List Made → Term → Term
under_all o [] t = t
under_all o (m ∷ ms) t = under o m (under_all o ms t)

-- the body's term stands inside what was made at the ranges, behind what was made before
abbrev pub Binds : Setting → List Kept → Body → Around → List Made → List Made → Term → Type 0
Binds s rs b w old new t = (o : Binder) → under_all o new t ≡ under_all o old (bind s o (map (seen s) rs) (body_term s b) w)
