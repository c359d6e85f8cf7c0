-- Laws of the contexts that a context of the model reaches by `extends`.
use Rattle.std.proofs.Common.{◌≡◌, ◌∙◌, ◌<◌, ◌≤◌, ◌+◌, ◌++◌, ◌∷◌, [], ℕ, zero, suc, Bool, true, false, List, None, Some, Contains, length, take, get_or, refl, sym, ap, subst, inl, inr, ⊎_elim, arith, Bor, IsTrue, ◌↔◌}
use Rattle.std.specs.Global.{Vec}
use Rattle.std.specs.Option.{option_map_or}
use Rattle.std.specs.BTreeMap.{BTreeMap, get_by}
use Rattle.std.specs.Ordering.{nat_cmp}
use Rattle.std.specs.Cmp.Lexicographic.{slice_cmp}
use Rattle.std.proofs.lemmas.List.{get_or_default, take_more, take_all}
use Rattle.std.proofs.lemmas.List.Elements.{Contains-get_or, Contains-append_cases}
use Rattle.eb_syntax.specs.declared.units.Context.{Context}
use Rattle.eb_syntax.specs.declared.units.EbUnit.{EbUnit}
use Rattle.eb_syntax.specs.declared.units.EbUnit.TheVariants as eb
use Rattle.eb_scoping.specs.Models.{AreMarked, AreMarkedBehind, IsModelUnit, r_extended, Extends, extends_none, extends_more}
use Rattle.eb_scoping.specs.Groups.{group, IsContextAt}
use Rattle.eb_resolved.specs.Unknown.{used}
use Rattle.std.specs.Result.{IfOk}
use Rattle.std.specs.declared.result.Result.{Result}
use Rattle.std.specs.declared.result.Result.TheVariants.{Ok, Err}
use Rattle.eb_scoping.specs.declared.contexts.Walk.{Walk}
use Rattle.eb_scoping.specs.Walks.{IsWalk}
use Rattle.eb_declared.specs.Parts.{in_axiom}
use Rattle.eb_lower.specs.Usages.{IsKnownAt}
use Rattle.eb_lower.specs.steps.Facts.{AreStatics}
use Rattle.eb_lower.specs.steps.Known.{Tells, IsOfModel, ExtendsAt, ExtendsOne}
use Rattle.eb_lower.proofs.ListLaws.{contains_none, contains_cases}
use Rattle.eb_lower.proofs.UnitLaws.{marks_length}
use Rattle.eb_lower.proofs.StaticPlaces.{static_at, at_static}

pub of_model_extends : (us : List EbUnit) (x y : List ℕ) → IsOfModel us x → Extends us x y → IsOfModel us y
of_model_extends us x _ m extends_none = m
of_model_extends us x _ m (extends_more c y e at h) = ⊎_elim (λ n. inl n) (λ r. inr (r_extended c y at r h)) (of_model_extends us x c.name.name m e)

-- a context of the model has a true mark
context_marked : (us before vs : List EbUnit) (bs : List Bool) (i : ℕ) (c : Context) → AreMarkedBehind us before vs bs → i < length vs → eb.Context c ≡ get_or vs i (eb.Context c) → IsOfModel us c.name.name → get_or bs i false ≡ true
context_marked us before [] bs i c m l e o = absurd (omega (arith, l))
context_marked us before (v ∷ vs) [] i c m l e o = absurd m
context_marked us before (v ∷ vs) (b ∷ bs) zero c m l e o = m.1 (subst (IsModelUnit us before) e o)
context_marked us before (v ∷ vs) (b ∷ bs) (suc i) c m l e o = context_marked us (before ++ v ∷ []) vs bs i c m.2 (omega (arith, l)) e o

-- a context that stands at a place of the text
placed_context : (us : List EbUnit) (c : Context) (h : Contains us (eb.Context c)) → IsContextAt us h.0 c.name.name
placed_context us c h = record { context = c; inside = h.1; is = sym h.2; named = refl }

context_same : (c d : Context) → eb.Context c ≡ eb.Context d → c ≡ d
context_same c d h = cc

-- whether the context at a place is reached
pub tells_at : (us : List EbUnit) (from : List ℕ) (i : ℕ) (c : Context) (found : Bool) → i < length us → eb.Context c ≡ get_or us i (eb.Context c) → Tells found (Extends us from c.name.name) → Tells found (ExtendsAt us from i)
tells_at us from i c found l e t = (
  λ y. (c.name.name, record { context = c; inside = l; is = e; named = refl }, t.0 y),
  λ k. let a = k.1 in let same : a.context ≡ c = context_same a.context c (a.is ∙ (get_or_default us i (eb.Context a.context) (eb.Context c) l ∙ sym e)) in
      t.1 (subst (λ z. Extends us from z) (sym a.named ∙ ap (λ z. z.name.name) same) k.2),
)

-- where another unit stands none is
pub none_at : (us : List EbUnit) (from : List ℕ) (i : ℕ) (u : EbUnit) → u ≡ get_or us i u → ((c : Context) → u ≡ eb.Context c → ⊥) → Tells false (ExtendsAt us from i)
none_at us from i u e other = (λ y. absurd cc, λ k. let a = k.1 in absurd (other a.context (e ∙ (get_or_default us i u (eb.Context a.context) a.inside ∙ sym a.is))))

pub none_past : (us : List EbUnit) (from : List ℕ) (i : ℕ) → length us ≤ i → Tells false (ExtendsAt us from i)
none_past us from i l = (λ y. absurd cc, λ k. let a = k.1 in let h = a.inside in absurd (omega (arith, h, l)))

-- whether one of some places has such a context
module _ (us : List EbUnit) (from places : List ℕ) where
  pub none_first : ExtendsOne us from (take 0 places) → ⊥
  none_first h = contains_none h.0 h.1

  pub none_more : (i : ℕ) → i < length places → (ExtendsOne us from (take i places) → ⊥) → Tells false (ExtendsAt us from (get_or places i 0)) → ExtendsOne us from (take (i + 1) places) → ⊥
  none_more i l before t h = ⊎_elim
      (λ o. before (h.0, o, h.2))
      (λ o. let at : h.0 ≡ get_or places i 0 = ⊎_elim (λ e. sym e) (λ n. absurd (contains_none h.0 n)) (contains_cases (get_or places i 0) [] h.0 o) in
      let none : false ≡ true = t.1 (subst (λ z. ExtendsAt us from z) at h.2) in cc)
      (Contains-append_cases (take i places) (get_or places i 0 ∷ []) h.0 (subst (λ z. Contains z h.0) (take_more places i 0 l) h.1))

  pub found_one : (i : ℕ) → i < length places → Tells true (ExtendsAt us from (get_or places i 0)) → Tells true (ExtendsOne us from places)
  found_one i l t = (λ y. (get_or places i 0, Contains-get_or places i 0 l, t.0 refl), λ k. refl)

  pub found_none : (i : ℕ) → length places ≤ i → (ExtendsOne us from (take i places) → ⊥) → Tells false (ExtendsOne us from places)
  found_none i l none = (λ y. absurd cc, λ k. absurd (none (subst (λ z. ExtendsOne us from z) (sym (take_all i places l)) k)))

pub group_none : (m : BTreeMap (Bor (List ℕ)) (Vec ℕ)) (q p : List ℕ) → p ≡ q → None ≡ get_by (λ k. slice_cmp nat_cmp p k.now) m → group m q ≡ []
group_none m q p e f = ap (group m) (sym e) ∙ ap (λ o. option_map_or (λ g. g.items) o []) (sym f)

pub group_some : (m : BTreeMap (Bor (List ℕ)) (Vec ℕ)) (q p : List ℕ) (v : Vec ℕ) → p ≡ q → Some v ≡ get_by (λ k. slice_cmp nat_cmp p k.now) m → group m q ≡ v.items
group_some m q p v e f = ap (group m) (sym e) ∙ ap (λ o. option_map_or (λ g. g.items) o []) (sym f)

module _ (us : List EbUnit) (marks : List Bool) (m : BTreeMap (Bor (List ℕ)) (Vec ℕ)) (c : Context) (used_name : List ℕ) (is_primed : Bool)
    (are : AreMarked us us marks) (by : AreStatics us marks m) (of_model : IsOfModel us c.name.name) (plain : is_primed ≡ false) where
  -- what is asked of a name in an axiom
  abbrev Known : Type 0
  Known = IsKnownAt us marks (in_axiom c) (used used_name is_primed)

  known_at : (i : ℕ) (name : List ℕ) → Contains (group m used_name) i → IsContextAt us i name → Extends us c.name.name name → Known
  known_at i name h a e =
      let p = static_at us marks m used_name i by h in
      let same : p.context ≡ a.context = context_same p.context a.context (sym (p.at (eb.Context a.context)) ∙ sym a.is) in
      (plain, p.context, (i, p.within, p.at (eb.Context p.context)), subst (λ z. Extends us c.name.name z) (sym (ap (λ z. z.name.name) same ∙ a.named)) e, p.has)

  -- the place of a context that makes the name known
  known_place : (k : Known) → Contains (group m used_name) k.2.0
  known_place k = at_static us marks m used_name k.2.0 (marks_length us [] us marks are) by (record {
    context = k.1;
    within = k.2.1;
    at = λ u. get_or_default us k.2.0 u (eb.Context k.1) k.2.1 ∙ k.2.2;
    is_marked = context_marked us [] us marks k.2.0 k.1 are k.2.1 (sym k.2.2) (of_model_extends us c.name.name k.1.name.name of_model k.3);
    has = k.4;
  })

  pub tells_none : group m used_name ≡ [] → Tells false Known
  tells_none e = (λ t. absurd cc, λ k. absurd (contains_none k.2.0 (subst (λ z. Contains z k.2.0) e (known_place k))))

  pub tells_reached : (from places : List ℕ) (r : Bool) → from ≡ c.name.name → places ≡ group m used_name → Tells r (ExtendsOne us from places) → Tells r Known
  tells_reached from places r same here t = (
    λ y. let f = t.0 y in known_at f.0 f.2.0 (subst (λ z. Contains z f.0) here f.1) f.2.1 (subst (λ z. Extends us z f.2.0) same f.2.2),
    λ k. t.1 (k.2.0, subst (λ z. Contains z k.2.0) (sym here) (known_place k), (k.1.name.name, placed_context us k.1 k.2, subst (λ z. Extends us z k.1.name.name) (sym same) k.3)),
  )

-- the answers of calls that may want memory
pub place_tells : {E : Type 0} (us : List EbUnit) (a : Walk) (i : ℕ) (c : Context) (name : List ℕ) (r : Result Bool E) → i < length us → eb.Context c ≡ get_or us i (eb.Context c) → name ≡ c.name.name
    → IfOk r (λ found. (from : List ℕ) → IsWalk us (from ∷ []) a → IsTrue found ↔ Extends us from name) → IfOk r (λ found. (from : List ℕ) → IsWalk us (from ∷ []) a → Tells found (ExtendsAt us from i))
place_tells us a i c name (Ok found) l e n h = λ from w. tells_at us from i c found l e (subst (λ z. Tells found (Extends us from z)) n (h from w))
place_tells us a i c name (Err x) l e n h = tt

pub walk_any : {E : Type 0} (us : List EbUnit) (first : List (List ℕ)) (r : Result Walk E) → IfOk r (λ w. (us : List EbUnit) → IsWalk us first w) → IfOk r (IsWalk us first)
walk_any us first (Ok w) h = h us
walk_any us first (Err x) h = tt
