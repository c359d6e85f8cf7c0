-- Terms of formulas under binders, as the steps of the code make them.
use Rattle.std.proofs.Common.{◌≡◌, ◌∙◌, refl, sym, ap, ap₂, subst, ℕ, ◌+◌, ◌<◌, ◌≤◌, List, [], ◌∷◌, ◌++◌, map, take, drop, length, get_or}
use Rattle.std.proofs.Math.Seq.{take-append_seam}
use Rattle.std.proofs.lemmas.List.{drop_all, map-append, take_more}
use Rattle.eb_syntax.specs.declared.ast.Bound.{Bound}
use Rattle.eb_syntax.specs.declared.ast.Binder.{Binder as Gatherer}
use Rattle.eb_syntax.specs.declared.ast.Binder.TheVariants as gather
use Rattle.eb_term.specs.declared.operators.Binder.{Binder}
use Rattle.eb_term.specs.declared.operators.Binder.TheVariants as binder
use Rattle.eb_term.specs.declared.term.Term.{Term}
use Rattle.eb_term.specs.Terms as term
use Rattle.eb_resolved.specs.declared.resolved.Resolved.{Resolved}
use Rattle.eb_lowering.specs.declared.setting.Setting.{Setting}
use Rattle.eb_lowering.specs.declared.around.Around.{Around}
use Rattle.eb_lowering.specs.declared.around.Place.{Place}
use Rattle.eb_lowering.specs.declared.anchors.Range.{Range as Kept}
use Rattle.eb_lowering.specs.declared.binding.Body.{Body}
use Rattle.eb_lowering.specs.declared.binding.Made.{Made}
use Rattle.eb_lowering.specs.Anchors.{Conjunct, Range, over, all, ranges_of}
use Rattle.eb_lowering.specs.Lowering as spec
use Rattle.eb_lowering.specs.steps.Anchoring.{seen}
use Rattle.eb_lowering.specs.steps.Binding as step
use Rattle.eb_lowering.proofs.BindingLaws.{BoundUpTo}

-- bodies with the same terms
bind_same : (s : Setting) (o : Binder) (rs : List (Range (Around → Term))) (f g : Around → Term) → ((w : Around) → f w ≡ g w) → (w : Around) → spec.bind s o rs f w ≡ spec.bind s o rs g w
bind_same s o [] f g h w = h w
bind_same s o (over ls r ∷ rs) f g h w = ap (term.over o (r w)) (bind_same s o rs f g h (spec.inside w ls))
bind_same s o (all k ∷ rs) f g h w = ap (term.all o (spec.range_at s k)) (bind_same s o rs f g h (spec.inside w (spec.leaf k ∷ [])))

gathered_from : (s : Setting) (g : Gatherer) (b : Bound) (first : ℕ) (ks : List ℕ) (p e : Resolved) (w : Around)
    → step.gathered g (spec.bind s binder.Collect (ranges_of ks (spec.lowered s p).conjuncts) (step.gathered_term s g b first p e) w) ≡ spec.gathered s g b first ks (spec.lowered s p) (spec.lowered s e) w
gathered_from s gather.Lambda b first ks p e w = refl
gathered_from s gather.Union b first ks p e w = refl
gathered_from s gather.Intersection b first ks p e w = refl

-- what `%`, `UNION` and `INTER` have
pub gathered_is : (s : Setting) (g : Gatherer) (b : Bound) (first : ℕ) (ks : List ℕ) (p e : Resolved) (made : Body) (w : Around) (set : Term)
    → step.IsBody g b first p e made → set ≡ spec.bind s binder.Collect (ranges_of ks (spec.lowered s p).conjuncts) (step.body_term s made) w
    → step.gathered g set ≡ spec.gathered s g b first ks (spec.lowered s p) (spec.lowered s e) w
gathered_is s g b first ks p e made w set h is =
    ap (step.gathered g) (is ∙ bind_same s binder.Collect (ranges_of ks (spec.lowered s p).conjuncts) (step.body_term s made) (step.gathered_term s g b first p e) (h.term s) w)
    ∙ gathered_from s g b first ks p e w

-- the body inside all binders
pub bound_all : (s : Setting) (body : Around → Term) (rs : List Kept) (i : ℕ) (before now : Around) (old made : List Made) (t : Term)
    → BoundUpTo s body rs (drop i rs) before now old made → length rs ≤ i → t ≡ body now
    → (o : Binder) → step.under_all o made t ≡ step.under_all o old (spec.bind s o (map (seen s) rs) body before)
bound_all s body rs i before now old made t h ends is o =
    let v = subst (λ z. BoundUpTo s body rs z before now old made) (drop_all i rs ends) h in
    ap (step.under_all o made) is ∙ sym (v.term o)

same_front : (now front inner : List Place) (count : ℕ) → now ≡ front ++ inner → count ≡ length front → take count now ≡ front
same_front now front inner count e c = ap₂ take c e ∙ take-append_seam front inner

-- the binders around are as they were before
pub left_again : (s : Setting) (body : Around → Term) (rs rest : List Kept) (before now inner after : Around) (old made : List Made) (count depth : ℕ)
    → BoundUpTo s body rs rest before now old made → count ≡ length before.bound → depth ≡ before.depth → inner ≡ now
    → after ≡ record { depth = depth; bound = take count inner.bound } → after ≡ before
left_again s body rs rest before now inner after old made count depth h c d e is =
    is ∙ ap₂ (λ k ps. record { depth = k; bound = ps }) d (ap (λ w. take count w.bound) e ∙ same_front now.bound before.bound h.inner count h.kept c)

-- what stands at the ranges that were made of these conjuncts
pub ranged : (s : Setting) (o : Binder) (ks ns : List ℕ) (rs given : List Kept) (cs ds : List (Conjunct (Around → Term))) (body : Around → Term) (w : Around)
    → ns ≡ ks → map (seen s) rs ≡ ranges_of ns cs → cs ≡ ds → given ≡ rs → spec.bind s o (map (seen s) given) body w ≡ spec.bind s o (ranges_of ks ds) body w
ranged s o ks ns rs given cs ds body w a b c d = ap (λ z. spec.bind s o z body w) (ap (map (seen s)) d ∙ b ∙ ap₂ ranges_of a c)

-- one more formula of a row
pub terms_more : (s : Setting) (w : Around) (fs : List Resolved) (i : ℕ) (r : Resolved) (ts more : List Term) (t : Term) → i < length fs → r ≡ get_or fs i r
    → ts ≡ map (λ x. x.term w) (map (spec.lowered s) (take i fs)) → t ≡ (spec.lowered s r).term w → more ≡ ts ++ t ∷ []
    → more ≡ map (λ x. x.term w) (map (spec.lowered s) (take (i + 1) fs))
terms_more s w fs i r ts more t h is before at m =
    let e : take (i + 1) fs ≡ take i fs ++ r ∷ [] = take_more fs i r h ∙ ap (λ z. take i fs ++ z ∷ []) (sym is) in
    m ∙ ap₂ (λ a b. a ++ b ∷ []) before at
    ∙ sym (map-append (λ x. x.term w) (map (spec.lowered s) (take i fs)) (spec.lowered s r ∷ []))
    ∙ ap (map (λ x. x.term w)) (sym (map-append (spec.lowered s) (take i fs) (r ∷ [])))
    ∙ ap (λ z. map (λ x. x.term w) (map (spec.lowered s) z)) (sym e)
