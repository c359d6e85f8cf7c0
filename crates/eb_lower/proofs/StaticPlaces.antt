-- Where the carrier sets and constants of the model stand, by the places that a map has.
use Rattle.std.proofs.Common.{◌≡◌, ◌∙◌, ◌+◌, ◌<◌, ◌++◌, ◌∷◌, [], ℕ, zero, suc, Bool, true, false, List, Contains, length, get_or, filter, sym, ap, refl, subst, arith, ⊎_elim, bytes_eq, Bor}
use Rattle.std.specs.List.{flat_map}
use Rattle.std.specs.Global.{Vec}
use Rattle.std.specs.BTreeMap.{BTreeMap}
use Rattle.std.proofs.lemmas.List.{map-append}
use Rattle.std.proofs.lemmas.List.Elements.{Contains-append_cases, Contains-append_left, Contains-append_right}
use Rattle.std.proofs.lemmas.Slice.Eq.{bytes_eq-Decides}
use Rattle.eb_syntax.specs.declared.units.Context.{Context}
use Rattle.eb_syntax.specs.declared.units.ContextClause.{ContextClause}
use Rattle.eb_syntax.specs.declared.units.EbUnit.{EbUnit}
use Rattle.eb_syntax.specs.declared.units.EbUnit.TheVariants as eb
use Rattle.eb_scoping.specs.Groups.{group}
use Rattle.eb_lower.specs.Usages.{statics, clause_statics}
use Rattle.eb_lower.proofs.ListLaws.{contains_none, contains_map, map_contains, filter_keeps, filter_kept}
use Rattle.eb_lower.specs.steps.Facts.{AreStatics, all_heads, static_heads, heads_at}

-- the context at this place of the text is of the model and has this carrier set or constant
pub record IsStaticPlace (us : List EbUnit) (marks : List Bool) (name : List ℕ) (i : ℕ) : Type 0 where
  pub context : Context
  pub within : i < length us
  pub at : (u : EbUnit) → get_or us i u ≡ eb.Context context
  pub is_marked : get_or marks i false ≡ true
  pub has : Contains (statics context) name

heads_flat : (place : ℕ) (ks : List ContextClause) → flat_map (λ k. heads_at place (clause_statics k)) ks ≡ heads_at place (flat_map clause_statics ks)
heads_flat place [] = refl
heads_flat place (k ∷ ks) = ap (λ z. heads_at place (clause_statics k) ++ z) (heads_flat place ks) ∙ sym (map-append (λ x. (x, place)) (clause_statics k) (flat_map clause_statics ks))

-- the unit is a context of the model and has this carrier set or constant
record IsStaticUnit (u : EbUnit) (b : Bool) (name : List ℕ) : Type 0 where
  context : Context
  is : u ≡ eb.Context context
  is_marked : b ≡ true
  has : Contains (statics context) name

unit_here : (u : EbUnit) (b : Bool) (place : ℕ) (name : List ℕ) (i : ℕ) → Contains (static_heads u b place) (name, i) → (place ≡ i) × IsStaticUnit u b name
unit_here (eb.Context c) true place name i h =
    let r = contains_map (λ x. (x, place)) (statics c) (name, i) (subst (λ z. Contains z (name, i)) (heads_flat place c.clauses) h) in
    (ap (λ z. z.1) r.2, record { context = c; is = refl; is_marked = refl; has = subst (λ z. Contains (statics c) z) (ap (λ z. z.0) r.2) r.1 })
unit_here (eb.Context c) false place name i h = absurd (contains_none (name, i) h)
unit_here (eb.Machine m) b place name i h = absurd (contains_none (name, i) h)
unit_here (eb.Scope s) b place name i h = absurd (contains_none (name, i) h)
unit_here (eb.Queries qs) b place name i h = absurd (contains_none (name, i) h)

here_unit : (u : EbUnit) (b : Bool) (place : ℕ) (name : List ℕ) (c : Context) → u ≡ eb.Context c → b ≡ true → Contains (statics c) name → Contains (static_heads u b place) (name, place)
here_unit u b place name c e m h =
    subst (λ z. Contains (static_heads z b place) (name, place)) (sym e) (subst (λ z. Contains (static_heads (eb.Context c) z place) (name, place)) (sym m)
    (subst (λ z. Contains z (name, place)) (sym (heads_flat place c.clauses)) (map_contains (λ x. (x, place)) (statics c) name h)))

places_in : (us : List EbUnit) (bs : List Bool) (place : ℕ) (name : List ℕ) (i : ℕ) → Contains (all_heads place us bs) (name, i) → (j : ℕ) × (i ≡ place + j) × IsStaticPlace us bs name j
places_in [] bs place name i h = absurd (contains_none (name, i) h)
places_in (u ∷ us) [] place name i h = absurd (contains_none (name, i) h)
places_in (u ∷ us) (b ∷ bs) place name i h = ⊎_elim first (λ m. later (places_in us bs (place + 1) name i m)) (Contains-append_cases (static_heads u b place) (all_heads (place + 1) us bs) (name, i) h)
  where
    first : Contains (static_heads u b place) (name, i) → (j : ℕ) × (i ≡ place + j) × IsStaticPlace (u ∷ us) (b ∷ bs) name j
    first h = let r = unit_here u b place name i h in let e = r.0 in
        (0, omega (arith, e), record { context = r.1.context; within = omega arith; at = λ v. r.1.is; is_marked = r.1.is_marked; has = r.1.has })

    later : (j : ℕ) × (i ≡ (place + 1) + j) × IsStaticPlace us bs name j → (j : ℕ) × (i ≡ place + j) × IsStaticPlace (u ∷ us) (b ∷ bs) name j
    later r = let e = r.1 in let w = r.2.within in
        (suc r.0, omega (arith, e), record { context = r.2.context; within = omega (arith, w); at = r.2.at; is_marked = r.2.is_marked; has = r.2.has })

in_places : (us : List EbUnit) (bs : List Bool) (place : ℕ) (name : List ℕ) (i : ℕ) → length bs ≡ length us → IsStaticPlace us bs name i → Contains (all_heads place us bs) (name, place + i)
in_places [] bs place name i l p = let w = p.within in absurd (omega (arith, w))
in_places (u ∷ us) [] place name i l p = absurd (omega (arith, l))
in_places (u ∷ us) (b ∷ bs) place name zero l p =
    let n : place ≡ place + 0 = omega arith in
    subst (λ z. Contains (all_heads place (u ∷ us) (b ∷ bs)) (name, z)) n
    (Contains-append_left (static_heads u b place) (all_heads (place + 1) us bs) (name, place) (here_unit u b place name p.context (p.at u) p.is_marked p.has))
in_places (u ∷ us) (b ∷ bs) place name (suc i) l p =
    let w = p.within in
    let n : (place + 1) + i ≡ place + suc i = omega arith in
    subst (λ z. Contains (all_heads place (u ∷ us) (b ∷ bs)) (name, z)) n
    (Contains-append_right (static_heads u b place) (all_heads (place + 1) us bs) (name, (place + 1) + i)
    (in_places us bs (place + 1) name i (omega (arith, l)) (record { context = p.context; within = omega (arith, w); at = p.at; is_marked = p.is_marked; has = p.has })))

pub static_at : (us : List EbUnit) (marks : List Bool) (m : BTreeMap (Bor (List ℕ)) (Vec ℕ)) (name : List ℕ) (i : ℕ) → AreStatics us marks m → Contains (group m name) i → IsStaticPlace us marks name i
static_at us marks m name i a h =
    let hs = all_heads 0 us marks in
    let r = contains_map (λ p. p.1) (filter (λ p. bytes_eq name p.0) hs) i (subst (λ z. Contains z i) (a name) h) in
    let k = filter_kept (λ p. bytes_eq name p.0) hs r.0 r.1 in
    let same : name ≡ r.0.0 = (bytes_eq-Decides name r.0.0).0 k.1 in
    let p = places_in us marks 0 name i (subst (λ z. Contains hs (z, i)) (sym same) (subst (λ z. Contains hs (r.0.0, z)) r.2 k.0)) in
    let e = p.1 in
    let n : p.0 ≡ i = omega (arith, e) in
    subst (λ z. IsStaticPlace us marks name z) n p.2

pub at_static : (us : List EbUnit) (marks : List Bool) (m : BTreeMap (Bor (List ℕ)) (Vec ℕ)) (name : List ℕ) (i : ℕ) → length marks ≡ length us → AreStatics us marks m → IsStaticPlace us marks name i → Contains (group m name) i
at_static us marks m name i l a p =
    let hs = all_heads 0 us marks in
    let n : 0 + i ≡ i = omega arith in
    let kept = filter_keeps (λ p. bytes_eq name p.0) hs (name, i) (subst (λ z. Contains hs (name, z)) n (in_places us marks 0 name i l p)) ((bytes_eq-Decides name name).1 refl) in
    subst (λ z. Contains z i) (sym (a name)) (map_contains (λ p. p.1) (filter (λ p. bytes_eq name p.0) hs) (name, i) kept)
