-- Laws of the uses that names don't bind.
use Rattle.std.proofs.Common.{◌≡◌, ◌∙◌, Bool, true, false, not, ◌||◌, ◌&&◌, cond, if◌then◌else◌, ℕ, List, [], ◌∷◌, ◌++◌, filter, refl, sym, ap, subst}
use Rattle.std.specs.Str.{bytes_eq}
use Rattle.std.proofs.lemmas.Grind.{flat_map-append}
use Rattle.std.proofs.lemmas.List.Folds.{list_any-append}
use Rattle.std.proofs.lemmas.List.Elements.{filter-append}
use Rattle.std.proofs.lemmas.Slice.Eq.{bytes_eq-Decides}
use Rattle.eb_resolved.specs.Unknown.{Use}
use Rattle.eb_scoping.specs.FreeNames.{is_among}
use Rattle.eb_scoping.specs.steps.FreeByParts.{plain_names, unbound}

pub or_false : (a : Bool) → (a || false) ≡ a
or_false true = refl
or_false false = refl

pub or_assoc : (a b c : Bool) → ((a || b) || c) ≡ (a || (b || c))
or_assoc true b c = refl
or_assoc false b c = refl

or_true : (a : Bool) → (a || true) ≡ true
or_true true = refl
or_true false = refl

filter_same : {A : Type 0} (p q : A → Bool) → ((x : A) → p x ≡ q x) → (xs : List A) → filter p xs ≡ filter q xs
filter_same p q h [] = refl
filter_same p q h (x ∷ xs) = subst (λ b. cond (p x) (x ∷ filter p xs) (filter p xs) ≡ cond b (x ∷ filter q xs) (filter q xs)) (h x) (ap (λ z. cond (p x) (x ∷ z) z) (filter_same p q h xs))

filter_twice : {A : Type 0} (p q : A → Bool) (xs : List A) → filter p (filter q xs) ≡ filter (λ x. q x && p x) xs
filter_twice p q [] = refl
filter_twice p q (x ∷ xs) = by_case (q x) (filter_twice p q xs)
  where
    by_case : (b : Bool) → filter p (filter q xs) ≡ filter (λ y. q y && p y) xs → filter p (cond b (x ∷ filter q xs) (filter q xs)) ≡ cond (b && p x) (x ∷ filter (λ y. q y && p y) xs) (filter (λ y. q y && p y) xs)
    by_case true e = ap (λ z. cond (p x) (x ∷ z) z) e
    by_case false e = e

-- the uses with a `'`
abbrev pub primed : List Use → List Use
primed us = filter (λ u. u.is_primed) us

pub among_append : (ns ms : List (List ℕ)) (x : List ℕ) → is_among (ns ++ ms) x ≡ (is_among ns x || is_among ms x)
among_append ns ms x = list_any-append (λ y. bytes_eq y x) ns ms

pub unbound_append : (ns : List (List ℕ)) (us vs : List Use) → unbound ns (us ++ vs) ≡ unbound ns us ++ unbound ns vs
unbound_append ns us vs = filter-append (λ u. u.is_primed || not (is_among ns u.name)) us vs

pub primed_append : (us vs : List Use) → primed (us ++ vs) ≡ primed us ++ primed vs
primed_append us vs = filter-append (λ u. u.is_primed) us vs

pub plain_append : (us vs : List Use) → plain_names (us ++ vs) ≡ plain_names us ++ plain_names vs
plain_append us vs = flat_map-append (λ u. if u.is_primed then [] else u.name ∷ []) us vs

-- the same names bind the same uses
pub unbound_same : (ns ms : List (List ℕ)) → ((x : List ℕ) → is_among ns x ≡ is_among ms x) → (us : List Use) → unbound ns us ≡ unbound ms us
unbound_same ns ms h us = filter_same (λ u. u.is_primed || not (is_among ns u.name)) (λ u. u.is_primed || not (is_among ms u.name)) (λ u. ap (λ b. u.is_primed || not b) (h u.name)) us

pub unbound_none : (us : List Use) → unbound [] us ≡ us
unbound_none [] = refl
unbound_none (u ∷ us) = rw (or_true u.is_primed) (ap (λ z. u ∷ z) (unbound_none us))

-- what binds first and what binds then
pub unbound_both : (ns ms : List (List ℕ)) (us : List Use) → unbound (ns ++ ms) us ≡ unbound ns (unbound ms us)
unbound_both ns ms us =
    filter_same (λ u. u.is_primed || not (is_among (ns ++ ms) u.name)) (λ u. (u.is_primed || not (is_among ms u.name)) && (u.is_primed || not (is_among ns u.name)))
    (λ u. ap (λ b. u.is_primed || not b) (among_append ns ms u.name) ∙ by_case u.is_primed (is_among ns u.name) (is_among ms u.name)) us
    ∙ sym (filter_twice (λ u. u.is_primed || not (is_among ns u.name)) (λ u. u.is_primed || not (is_among ms u.name)) us)
  where
    by_case : (p n m : Bool) → (p || not (n || m)) ≡ ((p || not m) && (p || not n))
    by_case true n m = refl
    by_case false true true = refl
    by_case false true false = refl
    by_case false false true = refl
    by_case false false false = refl

pub unbound_primed : (ns : List (List ℕ)) (us : List Use) → unbound ns (primed us) ≡ primed us
unbound_primed ns us = filter_twice (λ u. u.is_primed || not (is_among ns u.name)) (λ u. u.is_primed) us
    ∙ filter_same (λ u. u.is_primed && (u.is_primed || not (is_among ns u.name))) (λ u. u.is_primed) (λ u. by_case u.is_primed (not (is_among ns u.name))) us
  where
    by_case : (p n : Bool) → (p && (p || n)) ≡ p
    by_case true n = refl
    by_case false n = refl

pub primed_primed : (us : List Use) → primed (primed us) ≡ primed us
primed_primed us = filter_twice (λ u. u.is_primed) (λ u. u.is_primed) us ∙ filter_same (λ u. u.is_primed && u.is_primed) (λ u. u.is_primed) (λ u. by_case u.is_primed) us
  where
    by_case : (p : Bool) → (p && p) ≡ p
    by_case true = refl
    by_case false = refl

pub plain_primed : (us : List Use) → plain_names (primed us) ≡ []
plain_primed [] = refl
plain_primed (u ∷ us) = by_case u.is_primed refl (plain_primed us)
  where
    by_case : (b : Bool) → u.is_primed ≡ b → plain_names (primed us) ≡ [] → plain_names (cond b (u ∷ primed us) (primed us)) ≡ []
    by_case true e h = subst (λ p. (if p then [] else u.name ∷ []) ++ plain_names (primed us) ≡ []) (sym e) h
    by_case false e h = h

own_name : (x : List ℕ) → bytes_eq x x ≡ true
own_name x = (bytes_eq-Decides x x).1 refl

-- of the uses that their own plain names bind those with a `'` are left
all_bound : (ns : List (List ℕ)) (us : List Use) → ((x : List ℕ) → is_among (plain_names us) x ≡ true → is_among ns x ≡ true) → unbound ns us ≡ primed us
all_bound ns [] h = refl
all_bound ns (u ∷ us) h = by_case u.is_primed (λ x. h x) (all_bound ns us)
  where
    by_case : (b : Bool) → ((x : List ℕ) → is_among ((if b then [] else u.name ∷ []) ++ plain_names us) x ≡ true → is_among ns x ≡ true)
        → (((x : List ℕ) → is_among (plain_names us) x ≡ true → is_among ns x ≡ true) → unbound ns us ≡ primed us)
        → cond (b || not (is_among ns u.name)) (u ∷ unbound ns us) (unbound ns us) ≡ cond b (u ∷ primed us) (primed us)
    by_case true k rest = ap (λ z. u ∷ z) (rest k)
    by_case false k rest =
        let here : is_among ns u.name ≡ true = k u.name (ap (λ b. b || is_among (plain_names us) u.name) (own_name u.name)) in
        subst (λ b. cond (not b) (u ∷ unbound ns us) (unbound ns us) ≡ primed us) (sym here)
        (rest (λ x t. k x (ap (λ b. bytes_eq u.name x || b) t ∙ or_true (bytes_eq u.name x))))

pub plain_bound : (us : List Use) → unbound (plain_names us) us ≡ primed us
plain_bound us = all_bound (plain_names us) us (λ x t. t)
