-- What the reading of a formula does with the names that it uses.
use Rattle.std.proofs.Common.{◌≡◌, ◌∙◌, ◌||◌, ℕ, length, take, List, [], ◌∷◌, ◌++◌, map, refl, sym, ap, subst, append-nil, append_assoc}
use Rattle.std.specs.Prelude.{⊤, Option, Some, None}
use Rattle.std.specs.List.{flat_map}
use Rattle.std.proofs.lemmas.List.{map-append}
use Rattle.std.proofs.Math.Seq.{take-append_seam}
use Rattle.eb_syntax.specs.declared.ast.Bound.{Bound}
use Rattle.eb_syntax.specs.declared.ast.Bound.TheVariants as bound
use Rattle.eb_syntax.specs.declared.ast.Mark.{Mark}
use Rattle.eb_syntax.specs.declared.ast.Mark.TheVariants as mark
use Rattle.eb_syntax.specs.declared.ast.Identifier.{Identifier}
use Rattle.numbered_names.specs.declared.entries.Entry.{Entry}
use Rattle.numbered_names.specs.Names.{Names, entry, entries, bind, bind_all, bind_token, bind_pattern, bind_bound, unbind, enter, leave}
use Rattle.eb_resolved.specs.declared.resolved.Resolved.{Resolved}
use Rattle.eb_resolved.specs.Resolving.{Reader, one, two, under}
use Rattle.eb_resolved.specs.Unknown.{Use, unknown}
use Rattle.eb_scoping.specs.FreeNames.{is_among, names_of, mark_names, bound_names}
use Rattle.eb_scoping.specs.steps.FreeByParts.{plain_names, unbound}
use Rattle.eb_scoping.proofs.OpenLaws.{or_false, or_assoc, primed, among_append, unbound_append, primed_append, plain_append, unbound_same, unbound_none, unbound_both, unbound_primed, primed_primed, plain_primed, plain_bound}

abbrev pub entry_names : List Entry → List (List ℕ)
entry_names es = map (λ e. e.name) es

-- which of the uses that nothing binds stay unknown: inside the E of `{E|P}` those with a `'`
abbrev pub left : Option (List Entry) → List Use → List Use
left None us = us
left (Some es) us = primed us

-- inside the E of `{E|P}` these plain names are built besides
abbrev pub IsBuilt : Option (List Entry) → Option (List Entry) → List (List ℕ) → Type 0
IsBuilt None None xs = ⊤
IsBuilt None (Some fs) xs = ⊥
IsBuilt (Some es) None xs = ⊥
IsBuilt (Some es) (Some fs) xs = (x : List ℕ) → is_among (entry_names fs) x ≡ (is_among (entry_names es) x || is_among xs x)

-- with the names s in scope these uses leave the names t, and these of them are unknown
pub record IsRead (s t : Names) (us found : List Use) : Type 0 where
  pub bound : t.bound ≡ s.bound
  pub finds : found ≡ left s.built (unbound (entry_names s.bound) us)
  pub built : IsBuilt s.built t.built (plain_names (unbound (entry_names s.bound) us))

abbrev pub Reads : Reader → List Use → Type 0
Reads f us = (s : Names) → IsRead s (f s).1 us (unknown (f s).0)

pub read_as : (s t : Names) (us free found : List Use) → unbound (entry_names s.bound) us ≡ free → t.bound ≡ s.bound → found ≡ left s.built free → IsBuilt s.built t.built (plain_names free) → IsRead s t us found
read_as s t us free found e b f m = record {
  bound = b;
  finds = f ∙ ap (left s.built) (sym e);
  built = subst (λ z. IsBuilt s.built t.built (plain_names z)) (sym e) m;
}

left_append : (b : Option (List Entry)) (us vs : List Use) → left b (us ++ vs) ≡ left b us ++ left b vs
left_append None us vs = refl
left_append (Some es) us vs = primed_append us vs

left_primed : (b : Option (List Entry)) (us : List Use) → left b (primed us) ≡ primed us
left_primed None us = refl
left_primed (Some es) us = primed_primed us

pub left_none : (b : Option (List Entry)) → [] ≡ left b []
left_none None = refl
left_none (Some es) = refl

left_same : (a b : Option (List Entry)) (xs : List (List ℕ)) → IsBuilt a b xs → (us : List Use) → left b us ≡ left a us
left_same None None xs h us = refl
left_same None (Some fs) xs h us = absurd h
left_same (Some es) None xs h us = absurd h
left_same (Some es) (Some fs) xs h us = refl

pub built_none : (b : Option (List Entry)) → IsBuilt b b []
built_none None = tt
built_none (Some es) = λ x. sym (or_false (is_among (entry_names es) x))

built_then : (a b c : Option (List Entry)) (xs ys : List (List ℕ)) → IsBuilt a b xs → IsBuilt b c ys → IsBuilt a c (xs ++ ys)
built_then None None None xs ys h k = tt
built_then None None (Some gs) xs ys h k = absurd k
built_then None (Some fs) c xs ys h k = absurd h
built_then (Some es) None c xs ys h k = absurd h
built_then (Some es) (Some fs) None xs ys h k = absurd k
built_then (Some es) (Some fs) (Some gs) xs ys h k = λ x. k x
    ∙ (ap (λ b. b || is_among ys x) (h x) ∙ (or_assoc (is_among (entry_names es) x) (is_among xs x) (is_among ys x) ∙ ap (λ b. is_among (entry_names es) x || b) (sym (among_append xs ys x))))

-- no use
pub read_none : (s t : Names) → t.bound ≡ s.bound → t.built ≡ s.built → IsRead s t [] []
read_none s t b m = record {
  bound = b;
  finds = left_none s.built;
  built = subst (λ z. IsBuilt s.built z []) (sym m) (built_none s.built);
}

-- some uses behind others
pub read_then : (s t u : Names) (us vs found more : List Use) → IsRead s t us found → IsRead t u vs more → IsRead s u (us ++ vs) (found ++ more)
read_then s t u us vs found more h k =
    let names : entry_names t.bound ≡ entry_names s.bound = ap entry_names h.bound in
    let here = unbound (entry_names s.bound) us in
    let behind = unbound (entry_names s.bound) vs in
    let same : more ≡ left s.built behind = k.finds ∙ (left_same s.built t.built (plain_names here) h.built (unbound (entry_names t.bound) vs) ∙ ap (λ ns. left s.built (unbound ns vs)) names) in
    let then : IsBuilt t.built u.built (plain_names behind) = subst (λ ns. IsBuilt t.built u.built (plain_names (unbound ns vs))) names k.built in
    read_as s u (us ++ vs) (here ++ behind) (found ++ more) (unbound_append (entry_names s.bound) us vs) (k.bound ∙ h.bound)
    (ap (λ z. z ++ more) h.finds ∙ (ap (λ z. left s.built here ++ z) same ∙ sym (left_append s.built here behind)))
    (subst (λ z. IsBuilt s.built u.built z) (sym (plain_append here behind)) (built_then s.built t.built u.built (plain_names here) (plain_names behind) h.built then))

pub reads_one : (make : Resolved → Resolved) → ((r : Resolved) → unknown (make r) ≡ unknown r) → (f : Reader) (us : List Use) → Reads f us → Reads (one make f) us
reads_one make same f us h s = record { bound = (h s).bound; finds = same (f s).0 ∙ (h s).finds; built = (h s).built }

pub reads_two : (make : Resolved → Resolved → Resolved) → ((r q : Resolved) → unknown (make r q) ≡ unknown r ++ unknown q) → (f g : Reader) (us vs : List Use) → Reads f us → Reads g vs → Reads (two make f g) (us ++ vs)
reads_two make same f g us vs h k s =
    subst (λ z. IsRead s (g (f s).1).1 (us ++ vs) z) (sym (same (f s).0 (g (f s).1).0))
    (read_then s (f s).1 (g (f s).1).1 us vs (unknown (f s).0) (unknown (g (f s).1).0) (h s) (k (f s).1))

-- behind these names that a binder binds
pub record Binds (s t : Names) (names : List (List ℕ)) : Type 0 where
  pub more : List Entry
  pub bound : t.bound ≡ s.bound ++ more
  pub adds : entry_names more ≡ names
  pub built : t.built ≡ s.built

binds_none : (s : Names) → Binds s s []
binds_none s = record { more = []; bound = sym (append-nil s.bound); adds = refl; built = refl }

binds_one : (s : Names) (x : Identifier) → Binds s (bind s x) (x.name ∷ [])
binds_one s x = record { more = entry x.name s.next ∷ []; bound = refl; adds = refl; built = refl }

binds_then : (s t u : Names) (ns ms : List (List ℕ)) → Binds s t ns → Binds t u ms → Binds s u (ns ++ ms)
binds_then s t u ns ms h k = record {
  more = h.more ++ k.more;
  bound = k.bound ∙ (ap (λ z. z ++ k.more) h.bound ∙ append_assoc s.bound h.more k.more);
  adds = map-append (λ e. e.name) h.more k.more ∙ (ap (λ z. z ++ entry_names k.more) h.adds ∙ ap (λ z. ns ++ z) k.adds);
  built = k.built ∙ h.built;
}

pub binds_all : (s : Names) (xs : List Identifier) → Binds s (bind_all s xs) (names_of xs)
binds_all s [] = binds_none s
binds_all s (x ∷ xs) = binds_then s (bind s x) (bind_all (bind s x) xs) (x.name ∷ []) (names_of xs) (binds_one s x) (binds_all (bind s x) xs)

binds_token : (s : Names) (m : Mark) → Binds s (bind_token s m) (mark_names m)
binds_token s (mark.Identifier x) = binds_one s x
binds_token s mark.MapsTo = binds_none s
binds_token s mark.Open = binds_none s
binds_token s mark.Close = binds_none s

binds_pattern : (s : Names) (ms : List Mark) → Binds s (bind_pattern s ms) (flat_map mark_names ms)
binds_pattern s [] = binds_none s
binds_pattern s (m ∷ ms) = binds_then s (bind_token s m) (bind_pattern (bind_token s m) ms) (mark_names m) (flat_map mark_names ms) (binds_token s m) (binds_pattern (bind_token s m) ms)

pub binds_bound : (s : Names) (b : Bound) → Binds s (bind_bound s b) (bound_names b)
binds_bound s (bound.Identifiers xs) = binds_all s xs
binds_bound s (bound.Pattern ms) = binds_pattern s ms

-- the names of entries behind others
unbound_more : (es fs : List Entry) (ns : List (List ℕ)) → ((x : List ℕ) → is_among (entry_names fs) x ≡ is_among ns x) → (us : List Use) → unbound (entry_names (es ++ fs)) us ≡ unbound (entry_names es) (unbound ns us)
unbound_more es fs ns h us = ap (λ z. unbound z us) (map-append (λ e. e.name) es fs) ∙ (unbound_both (entry_names es) (entry_names fs) us ∙ ap (unbound (entry_names es)) (unbound_same (entry_names fs) ns h us))

-- only the names of before are bound behind a binder
unbind_more : (es fs gs : List Entry) → gs ≡ es ++ fs → take (length es) gs ≡ es
unbind_more es fs gs e = ap (take (length es)) e ∙ take-append_seam es fs

pub reads_under : (s inner : Names) (names : List (List ℕ)) → Binds s inner names → (f : Reader) (us : List Use) → Reads f us → IsRead s (under inner f s).1 (unbound names us) (unknown (under inner f s).0)
reads_under s inner names binds f us h =
    let r = h inner in
    let open_uses : unbound (entry_names inner.bound) us ≡ unbound (entry_names s.bound) (unbound names us)
    = ap (λ z. unbound (entry_names z) us) binds.bound ∙ unbound_more s.bound binds.more names (λ x. ap (λ z. is_among z x) binds.adds) us in
    record {
      bound = unbind_more s.bound binds.more (f inner).1.bound (r.bound ∙ binds.bound);
      finds = r.finds ∙ (ap (λ z. left z (unbound (entry_names inner.bound) us)) binds.built ∙ ap (left s.built) open_uses);
      built = subst (λ z. IsBuilt s.built (f inner).1.built (plain_names z)) open_uses (subst (λ z. IsBuilt z (f inner).1.built (plain_names (unbound (entry_names inner.bound) us))) binds.built r.built);
    }

-- what the E of `{E|P}` has built are its plain names
built_all : (b : Option (List Entry)) (xs : List (List ℕ)) → IsBuilt (Some []) b xs → (x : List ℕ) → is_among (entry_names (entries b)) x ≡ is_among xs x
built_all None xs h x = absurd h
built_all (Some es) xs h x = h x

pub reads_built : (make : List Entry → Resolved → Resolved → Resolved) → ((es : List Entry) (r q : Resolved) → unknown (make es r q) ≡ unknown r ++ unknown q) → (f g : Reader) (us vs : List Use) → Reads f us → Reads g vs → (s : Names)
    → IsRead s (unbind (length s.bound) (g (leave s (f (enter s.next)).1)).1) (unbound (plain_names us) (us ++ vs)) (unknown (make (entries (f (enter s.next)).1.built) (f (enter s.next)).0 (g (leave s (f (enter s.next)).1)).0))
reads_built make same f g us vs h k s =
    let l = f (enter s.next) in
    let r = g (leave s l.1) in
    let value = h (enter s.next) in
    let condition = k (leave s l.1) in
    let es = entries l.1.built in
    let all : unbound [] us ≡ us = unbound_none us in
    let built_names : (x : List ℕ) → is_among (entry_names es) x ≡ is_among (plain_names us) x
    = built_all l.1.built (plain_names us) (subst (λ z. IsBuilt (Some []) l.1.built (plain_names z)) all value.built) in
    let rest = unbound (entry_names s.bound) (unbound (plain_names us) vs) in
    let behind : unbound (entry_names (s.bound ++ es)) vs ≡ rest = unbound_more s.bound es (plain_names us) built_names vs in
    let here : unknown l.0 ≡ primed us = value.finds ∙ ap primed all in
    let there : unknown r.0 ≡ left s.built rest = condition.finds ∙ ap (left s.built) behind in
    let split : unbound (plain_names us) (us ++ vs) ≡ primed us ++ unbound (plain_names us) vs = unbound_append (plain_names us) us vs ∙ ap (λ z. z ++ unbound (plain_names us) vs) (plain_bound us) in
    let free : unbound (entry_names s.bound) (unbound (plain_names us) (us ++ vs)) ≡ primed us ++ rest
    = ap (unbound (entry_names s.bound)) split ∙ (unbound_append (entry_names s.bound) (primed us) (unbound (plain_names us) vs) ∙ ap (λ z. z ++ rest) (unbound_primed (entry_names s.bound) us)) in
    let plain : plain_names rest ≡ plain_names (primed us ++ rest) = sym (plain_append (primed us) rest ∙ ap (λ z. z ++ plain_names rest) (plain_primed us)) in
    read_as s (unbind (length s.bound) r.1) (unbound (plain_names us) (us ++ vs)) (primed us ++ rest) (unknown (make es l.0 r.0)) free
    (unbind_more s.bound es r.1.bound condition.bound)
    (same es l.0 r.0 ∙ (ap (λ z. z ++ unknown r.0) here ∙ (ap (λ z. primed us ++ z) there ∙ sym (left_append s.built (primed us) rest ∙ ap (λ z. z ++ left s.built rest) (left_primed s.built us)))))
    (subst (λ z. IsBuilt s.built r.1.built z) plain (subst (λ z. IsBuilt s.built r.1.built (plain_names z)) behind condition.built))
