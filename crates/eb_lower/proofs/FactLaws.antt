-- Laws of the names that sets have.
use Rattle.std.proofs.Common.{◌≡◌, ◌∙◌, ◌++◌, ◌∷◌, [], ◌||◌, ◌+◌, ◌<◌, ◌≤◌, ℕ, zero, suc, Bool, true, false, List, map, filter, take, get_or, length, cond, refl, sym, ap, append-nil, append_assoc, arith, Bor}
use Rattle.std.specs.List.{flat_map}
use Rattle.std.specs.Prelude.{bytes_eq}
use Rattle.std.proofs.lemmas.List.{take_more, take_all}
use Rattle.std.proofs.lemmas.Grind.{flat_map-append}
use Rattle.eb_syntax.specs.declared.units.EbUnit.{EbUnit}
use Rattle.eb_scoping.specs.FreeNames.{is_among}
use Rattle.std.specs.Global.{Vec}
use Rattle.std.specs.BTreeMap.{BTreeMap}
use Rattle.std.specs.Result.{IfOk}
use Rattle.std.specs.declared.result.Result.{Result}
use Rattle.std.specs.declared.result.Result.TheVariants.{Ok, Err}
use Rattle.eb_scoping.specs.Groups.{group}
use Rattle.eb_lower.specs.steps.Facts.{all_carriers, unit_carriers, all_heads, static_heads, seen_heads, AreStatics}

or_assoc : (a b c : Bool) → (a || (b || c)) ≡ ((a || b) || c)
or_assoc true b c = refl
or_assoc false b c = refl

pub among_append : (xs ys : List (List ℕ)) (q : List ℕ) → is_among (xs ++ ys) q ≡ (is_among xs q || is_among ys q)
among_append [] ys q = refl
among_append (x ∷ xs) ys q = ap (λ z. bytes_eq x q || z) (among_append xs ys q) ∙ or_assoc (bytes_eq x q) (is_among xs q) (is_among ys q)

turn : (a b c : Bool) → (a || (b || c)) ≡ ((b || a) || c)
turn true true c = refl
turn true false c = refl
turn false true c = refl
turn false false c = refl

pub among_more : {A : Type 0} (f : A → List (List ℕ)) (xs : List A) (i : ℕ) (x : A) (q : List ℕ) (new old first : Bool) → i < length xs → x ≡ get_or xs i x
    → old ≡ (is_among (flat_map f (take i xs)) q || first) → new ≡ (is_among (f x) q || old) → new ≡ (is_among (flat_map f (take (i + 1) xs)) q || first)
among_more f xs i x q new old first l e o n =
    let step : flat_map f (take (i + 1) xs) ≡ flat_map f (take i xs) ++ f x = ap (flat_map f) (take_more xs i x l) ∙ (flat_map-append f (take i xs) (get_or xs i x ∷ []) ∙ ap (λ z. flat_map f (take i xs) ++ z) (append-nil (f (get_or xs i x)) ∙ ap f (sym e))) in
    n ∙ (ap (λ z. is_among (f x) q || z) o ∙ (turn (is_among (f x) q) (is_among (flat_map f (take i xs)) q) first
    ∙ ap (λ z. z || first) (sym (among_append (flat_map f (take i xs)) (f x) q) ∙ ap (λ z. is_among z q) (sym step))))

or_true : (b : Bool) → true ≡ (b || true)
or_true true = refl
or_true false = refl

-- a list of names has the one that stands at a place of it
pub among_at : {A : Type 0} (f : A → List ℕ) (xs : List A) (i : ℕ) (x : A) (name : List ℕ) → i < length xs → x ≡ get_or xs i x → bytes_eq (f x) name ≡ true → true ≡ is_among (map f xs) name
among_at f [] i x name l e t = absurd (omega (arith, l))
among_at f (y ∷ ys) zero x name l e t = rw (sym e) (rw t refl)
among_at f (y ∷ ys) (suc i) x name l e t = rw (sym (among_at f ys i x name (omega (arith, l)) e t)) (or_true (bytes_eq (f y) name))

carried_suc : (us : List EbUnit) (bs : List Bool) (i : ℕ) (u : EbUnit) (b : Bool) → i < length us → i < length bs → u ≡ get_or us i u → b ≡ get_or bs i false
    → all_carriers (take (suc i) us) (take (suc i) bs) ≡ all_carriers (take i us) (take i bs) ++ unit_carriers b u
carried_suc [] bs i u b l m e f = absurd (omega (arith, l))
carried_suc (v ∷ us) [] i u b l m e f = absurd (omega (arith, m))
carried_suc (v ∷ us) (c ∷ bs) zero u b l m e f = append-nil (unit_carriers c v) ∙ (ap (λ z. unit_carriers z v) (sym f) ∙ ap (λ z. unit_carriers b z) (sym e))
carried_suc (v ∷ us) (c ∷ bs) (suc i) u b l m e f =
    ap (λ z. unit_carriers c v ++ z) (carried_suc us bs i u b (omega (arith, l)) (omega (arith, m)) e f) ∙ sym (append_assoc (unit_carriers c v) (all_carriers (take i us) (take i bs)) (unit_carriers b u))

or_turned : (a b : Bool) → (a || b) ≡ (b || a)
or_turned true true = refl
or_turned true false = refl
or_turned false true = refl
or_turned false false = refl

pub carried_more : (us : List EbUnit) (bs : List Bool) (i : ℕ) (u : EbUnit) (b : Bool) (q : List ℕ) (new old : Bool) → i < length us → i < length bs → u ≡ get_or us i u → b ≡ get_or bs i false
    → old ≡ is_among (all_carriers (take i us) (take i bs)) q → new ≡ (is_among (unit_carriers b u) q || old) → new ≡ is_among (all_carriers (take (i + 1) us) (take (i + 1) bs)) q
carried_more us bs i u b q new old l m e f o n =
    let k : i + 1 ≡ suc i = omega arith in
    n ∙ (ap (λ z. is_among (unit_carriers b u) q || z) o ∙ (or_turned (is_among (unit_carriers b u) q) (is_among (all_carriers (take i us) (take i bs)) q)
    ∙ (sym (among_append (all_carriers (take i us) (take i bs)) (unit_carriers b u) q) ∙ ap (λ z. is_among z q) (sym (ap (λ z. all_carriers (take z us) (take z bs)) k ∙ carried_suc us bs i u b l m e f)))))

pub carried_all : (us : List EbUnit) (bs : List Bool) (i : ℕ) (q : List ℕ) (r : Bool) → length us ≤ i → length bs ≤ i → r ≡ is_among (all_carriers (take i us) (take i bs)) q → r ≡ is_among (all_carriers us bs) q
carried_all us bs i q r l m e = e ∙ ap (λ z. is_among z q) (ap (λ z. all_carriers z (take i bs)) (take_all i us l) ∙ ap (λ z. all_carriers us z) (take_all i bs m))

headed_suc : (place : ℕ) (us : List EbUnit) (bs : List Bool) (i : ℕ) (u : EbUnit) (b : Bool) → i < length us → i < length bs → u ≡ get_or us i u → b ≡ get_or bs i false
    → all_heads place (take (suc i) us) (take (suc i) bs) ≡ all_heads place (take i us) (take i bs) ++ static_heads u b (place + i)
headed_suc place [] bs i u b l m e f = absurd (omega (arith, l))
headed_suc place (v ∷ us) [] i u b l m e f = absurd (omega (arith, m))
headed_suc place (v ∷ us) (c ∷ bs) zero u b l m e f =
    let n : place ≡ place + 0 = omega arith in
    append-nil (static_heads v c place) ∙ (ap (λ z. static_heads v z place) (sym f) ∙ (ap (λ z. static_heads z b place) (sym e) ∙ ap (λ z. static_heads u b z) n))
headed_suc place (v ∷ us) (c ∷ bs) (suc i) u b l m e f =
    let n : (place + 1) + i ≡ place + suc i = omega arith in
    ap (λ z. static_heads v c place ++ z) (headed_suc (place + 1) us bs i u b (omega (arith, l)) (omega (arith, m)) e f
    ∙ ap (λ z. all_heads (place + 1) (take i us) (take i bs) ++ static_heads u b z) n) ∙ sym (append_assoc (static_heads v c place) (all_heads (place + 1) (take i us) (take i bs)) (static_heads u b (place + suc i)))

pub headed_more : (us : List EbUnit) (bs : List Bool) (i : ℕ) (u : EbUnit) (b : Bool) (new old : List (List ℕ × ℕ)) → i < length us → i < length bs → u ≡ get_or us i u → b ≡ get_or bs i false
    → old ≡ all_heads 0 (take i us) (take i bs) → new ≡ old ++ static_heads u b i → new ≡ all_heads 0 (take (i + 1) us) (take (i + 1) bs)
headed_more us bs i u b new old l m e f o n =
    let k : i + 1 ≡ suc i = omega arith in
    let zero_more : 0 + i ≡ i = omega arith in
    n ∙ (ap (λ z. z ++ static_heads u b i) o ∙ sym (ap (λ z. all_heads 0 (take z us) (take z bs)) k ∙ (headed_suc 0 us bs i u b l m e f ∙ ap (λ z. all_heads 0 (take i us) (take i bs) ++ static_heads u b z) zero_more)))

-- the places of a text are the same among heads in memory and those that they stand for
places_seen : (q : List ℕ) (heads : List (Bor (List ℕ) × ℕ)) → map (λ p. p.1) (filter (λ p. bytes_eq q p.0.now) heads) ≡ map (λ p. p.1) (filter (λ p. bytes_eq q p.0) (seen_heads heads))
places_seen q [] = refl
places_seen q (h ∷ heads) = by_test (bytes_eq q h.0.now) (places_seen q heads)
  where
    by_test : (b : Bool) → map (λ p. p.1) (filter (λ p. bytes_eq q p.0.now) heads) ≡ map (λ p. p.1) (filter (λ p. bytes_eq q p.0) (seen_heads heads))
        → map (λ p. p.1) (cond b (h ∷ filter (λ p. bytes_eq q p.0.now) heads) (filter (λ p. bytes_eq q p.0.now) heads))
        ≡ map (λ p. p.1) (cond b ((h.0.now, h.1) ∷ filter (λ p. bytes_eq q p.0) (seen_heads heads)) (filter (λ p. bytes_eq q p.0) (seen_heads heads)))
    by_test true e = ap (λ z. h.1 ∷ z) e
    by_test false e = e

pub grouped_statics : {E : Type 0} (us : List EbUnit) (bs : List Bool) (i : ℕ) (heads slice : List (Bor (List ℕ) × ℕ)) (r : Result (BTreeMap (Bor (List ℕ)) (Vec ℕ)) E) → length us ≤ i → length bs ≤ i
    → seen_heads heads ≡ all_heads 0 (take i us) (take i bs) → slice ≡ heads
    → IfOk r (λ m. (q : List ℕ) → group m q ≡ map (λ p. p.1) (filter (λ p. bytes_eq q p.0.now) slice)) → IfOk r (λ m. AreStatics us bs m)
grouped_statics us bs i heads slice (Err e) l m h s g = tt
grouped_statics us bs i heads slice (Ok map_of) l m h s g = λ q.
    g q ∙ (places_seen q slice ∙ ap (λ z. map (λ p. p.1) (filter (λ p. bytes_eq q p.0) z)) (ap seen_heads s ∙ (h ∙ (ap (λ z. all_heads 0 z (take i bs)) (take_all i us l) ∙ ap (λ z. all_heads 0 us z) (take_all i bs m)))))
