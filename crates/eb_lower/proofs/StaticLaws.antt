-- Laws of the carrier sets and constants of the model.
use Rattle.std.proofs.Common.{◌≡◌, ◌∙◌, ◌<◌, ◌∷◌, [], ℕ, zero, suc, Bool, true, false, List, Option, Some, Contains, length, get_or, sym, ap, refl, subst, arith, ⊎_elim, Bor, not, nat_eq}
use Rattle.std.specs.Option.{option_map_or}
use Rattle.std.specs.Global.{Vec}
use Rattle.std.specs.Vec.{vec_len}
use Rattle.std.specs.BTreeMap.{BTreeMap, get_by}
use Rattle.std.specs.Ordering.{nat_cmp}
use Rattle.std.specs.Cmp.Lexicographic.{slice_cmp}
use Rattle.std.proofs.lemmas.Bool.Decides.{nat_tests}
use Rattle.eb_syntax.specs.declared.units.EbUnit.{EbUnit}
use Rattle.eb_syntax.specs.declared.units.EbUnit.TheVariants as eb
use Rattle.eb_scoping.specs.Groups.{group}
use Rattle.eb_scoping.specs.Models.{marked}
use Rattle.eb_lower.specs.Usages.{IsStatic}
use Rattle.eb_lower.specs.steps.Facts.{AreStatics}
use Rattle.eb_lower.specs.steps.Known.{Tells}
use Rattle.eb_lower.proofs.ListLaws.{contains_none, contains_there, contains_cases}
use Rattle.eb_lower.proofs.StaticPlaces.{IsStaticPlace, static_at, at_static}

-- the unit at this place of the text is of the model
record IsMarkedUnit (us : List EbUnit) (marks : List Bool) (u : EbUnit) (i : ℕ) : Type 0 where
  within : i < length us
  at : (v : EbUnit) → get_or us i v ≡ u
  is_marked : get_or marks i false ≡ true

marked_at : (us : List EbUnit) (marks : List Bool) (u : EbUnit) (i : ℕ) → IsMarkedUnit us marks u i → Contains (marked us marks) u
marked_at [] bs u i p = let w = p.within in absurd (omega (arith, w))
marked_at (v ∷ vs) [] u i p = let m : false ≡ true = p.is_marked in absurd cc
marked_at (v ∷ vs) (true ∷ bs) u zero p = (0, omega arith, p.at u)
marked_at (v ∷ vs) (false ∷ bs) u zero p = let m : false ≡ true = p.is_marked in absurd cc
marked_at (v ∷ vs) (true ∷ bs) u (suc i) p = let w = p.within in contains_there v (marked vs bs) u (marked_at vs bs u i (record { within = omega (arith, w); at = p.at; is_marked = p.is_marked }))
marked_at (v ∷ vs) (false ∷ bs) u (suc i) p = let w = p.within in marked_at vs bs u i (record { within = omega (arith, w); at = p.at; is_marked = p.is_marked })

later : (v : EbUnit) (vs : List EbUnit) (b : Bool) (bs : List Bool) (u : EbUnit) → ((i : ℕ) × IsMarkedUnit vs bs u i) → (i : ℕ) × IsMarkedUnit (v ∷ vs) (b ∷ bs) u i
later v vs b bs u r = let w = r.1.within in (suc r.0, record { within = omega (arith, w); at = r.1.at; is_marked = r.1.is_marked })

at_marked : (us : List EbUnit) (marks : List Bool) (u : EbUnit) → Contains (marked us marks) u → (i : ℕ) × IsMarkedUnit us marks u i
at_marked [] bs u h = absurd (contains_none u h)
at_marked (v ∷ vs) [] u h = absurd (contains_none u h)
at_marked (v ∷ vs) (true ∷ bs) u h = ⊎_elim
    (λ e. (0, record { within = omega arith; at = λ w. e; is_marked = refl }))
    (λ m. later v vs true bs u (at_marked vs bs u m))
    (contains_cases v (marked vs bs) u h)
at_marked (v ∷ vs) (false ∷ bs) u h = later v vs false bs u (at_marked vs bs u h)

pub static_from_place : (us : List EbUnit) (marks : List Bool) (name : List ℕ) (i : ℕ) → IsStaticPlace us marks name i → IsStatic us marks name
static_from_place us marks name i p = (p.context, marked_at us marks (eb.Context p.context) i (record { within = p.within; at = p.at; is_marked = p.is_marked }), p.has)

pub place_of_static : (us : List EbUnit) (marks : List Bool) (name : List ℕ) → IsStatic us marks name → (i : ℕ) × IsStaticPlace us marks name i
place_of_static us marks name s = let r = at_marked us marks (eb.Context s.0) s.1 in (r.0, record { context = s.0; within = r.1.within; at = r.1.at; is_marked = r.1.is_marked; has = s.2 })

pub group_found : (m : BTreeMap (Bor (List ℕ)) (Vec ℕ)) (name : List ℕ) (o : Option (Vec ℕ)) → o ≡ get_by (λ k. slice_cmp nat_cmp name k.now) m → group m name ≡ option_map_or (λ g. g.items) o []
group_found m name o e = ap (λ z. option_map_or (λ g. g.items) z []) (sym e)

pub tells_none : (us : List EbUnit) (marks : List Bool) (m : BTreeMap (Bor (List ℕ)) (Vec ℕ)) (name : List ℕ) → length marks ≡ length us → AreStatics us marks m → group m name ≡ [] → Tells false (IsStatic us marks name)
tells_none us marks m name l a e = (
  λ t. absurd cc,
  λ s. let p = place_of_static us marks name s in
      absurd (contains_none p.0 (subst (λ z. Contains z p.0) e (at_static us marks m name p.0 l a p.1))),
)

not_none : (n : ℕ) → nat_eq (suc n) 0 ≡ false
not_none n = grind (arith, nat_tests)

tells_places : (us : List EbUnit) (marks : List Bool) (m : BTreeMap (Bor (List ℕ)) (Vec ℕ)) (name places : List ℕ) (empty : Bool) → length marks ≡ length us → AreStatics us marks m → group m name ≡ places → empty ≡ nat_eq (length places) 0 → Tells (not empty) (IsStatic us marks name)
tells_places us marks m name [] empty l a e t = let f : empty ≡ true = t in subst (λ z. Tells (not z) (IsStatic us marks name)) (sym f) (tells_none us marks m name l a e)
tells_places us marks m name (x ∷ xs) empty l a e t =
    let f : empty ≡ false = t ∙ not_none (length xs) in
    (λ b. static_from_place us marks name x (static_at us marks m name x a (subst (λ z. Contains z x) (sym e) (0, omega arith, refl))), λ s. ap not f)

pub tells_static : (us : List EbUnit) (marks : List Bool) (m : BTreeMap (Bor (List ℕ)) (Vec ℕ)) (name : List ℕ) (v : Vec ℕ) (empty : Bool) → length marks ≡ length us → AreStatics us marks m → Some v ≡ get_by (λ k. slice_cmp nat_cmp name k.now) m → empty ≡ nat_eq (vec_len v) 0 → Tells (not empty) (IsStatic us marks name)
tells_static us marks m name v empty l a e t = tells_places us marks m name v.items empty l a (group_found m name (Some v) e) (t ∙ ap (λ z. nat_eq z 0) v.ok.0)
