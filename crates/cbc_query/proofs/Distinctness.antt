-- Notes that are added one by one, each where it isn't there yet, are the distinct ones.
use Rattle.std.proofs.Common.{◌≡◌, ◌∙◌, refl, sym, ap, ap₂, ℕ, Bool, true, false, not, cond, ◌&&◌, ◌||◌, List, [], ◌∷◌, ◌++◌, append_assoc}
use Rattle.std.specs.Prelude.{filter, if◌then◌else◌}
use Rattle.std.specs.List.{list_any}
use Rattle.std.specs.Str.{bytes_eq}
use Rattle.std.proofs.lemmas.Bool.Decides.{same_from_decides, Decides-like}
use Rattle.std.proofs.lemmas.List.{append-nil}
use Rattle.std.proofs.lemmas.List.Folds.{list_any-append}
use Rattle.std.proofs.lemmas.Slice.Eq.{bytes_eq-Decides}
use Rattle.cbc_query.specs.declared.note.Note.{Note}
use Rattle.cbc_query.specs.Notes.{same_note, distinct}
use Rattle.cbc_query.specs.steps.Distinct.{with_note, with_all}

pub bytes_flip : (xs ys : List ℕ) → bytes_eq xs ys ≡ bytes_eq ys xs
bytes_flip xs ys = same_from_decides (bytes_eq xs ys) (bytes_eq ys xs) (bytes_eq-Decides xs ys) (Decides-like (bytes_eq ys xs) (λ e. sym e) (λ e. sym e) (bytes_eq-Decides ys xs))

note_flip : (n o : Note) → same_note n o ≡ same_note o n
note_flip n o = ap₂ (λ x y. x && y) (bytes_flip n.label o.label) (bytes_flip n.identifier o.identifier)

both_true : (a b : Bool) → (a && b) ≡ true → (a ≡ true) × (b ≡ true)
both_true true b e = (refl, e)
both_true false b e = absurd (cc)

-- the notes have the same texts
texts_same : (n o : Note) → same_note n o ≡ true → (n.label ≡ o.label) × (n.identifier ≡ o.identifier)
texts_same n o e =
    let b = both_true (bytes_eq n.label o.label) (bytes_eq n.identifier o.identifier) e in
    ((bytes_eq-Decides n.label o.label).0 b.0, (bytes_eq-Decides n.identifier o.identifier).0 b.1)

there_same : (n o : Note) (ds : List Note) → same_note n o ≡ true → list_any (same_note n) ds ≡ list_any (same_note o) ds
there_same n o ds e =
    let t = texts_same n o e in
    ap₂ (λ x y. list_any (λ (d : Note). bytes_eq x d.label && bytes_eq y d.identifier) ds) t.0 t.1

filter_same : (p q : Note → Bool) (ns : List Note) → ((n : Note) → p n ≡ q n) → filter p ns ≡ filter q ns
filter_same p q [] h = refl
filter_same p q (n ∷ ns) h = ap₂ (λ b xs. cond b (n ∷ xs) xs) (h n) (filter_same p q ns h)

filter_by : (p q : Note → Bool) (n : Note) (ns : List Note) (b : Bool) → q n ≡ b → filter p (filter q ns) ≡ filter (λ o. q o && p o) ns
    → filter p (cond b (n ∷ filter q ns) (filter q ns)) ≡ cond (b && p n) (n ∷ filter (λ o. q o && p o) ns) (filter (λ o. q o && p o) ns)
filter_by p q n ns true e h = ap (λ z. cond (p n) (n ∷ z) z) h
filter_by p q n ns false e h = h

filter_twice : (p q : Note → Bool) (ns : List Note) → filter p (filter q ns) ≡ filter (λ o. q o && p o) ns
filter_twice p q [] = refl
filter_twice p q (n ∷ ns) = filter_by p q n ns (q n) refl (filter_twice p q ns)

-- not there
abbrev is_new : List Note → Note → Bool
is_new ds o = not (list_any (same_note o) ds)

still_new_by : (s a : Bool) → (s ≡ true → a ≡ true) → (not s && not a) ≡ not a
still_new_by true a h = ap not (sym (h refl))
still_new_by false a h = refl

-- where n is there, what is new is no n
still_new : (ds : List Note) (n o : Note) → list_any (same_note n) ds ≡ true → (not (same_note n o) && is_new ds o) ≡ is_new ds o
still_new ds n o there = still_new_by (same_note n o) (list_any (same_note o) ds) (λ e. sym (there_same n o ds e) ∙ there)

new_by : (s a : Bool) → (not s && not a) ≡ not (a || (s || false))
new_by true true = refl
new_by true false = refl
new_by false true = refl
new_by false false = refl

new_behind : (ds : List Note) (n o : Note) → (not (same_note n o) && is_new ds o) ≡ is_new (ds ++ n ∷ []) o
new_behind ds n o =
    ap (λ s. not s && is_new ds o) (note_flip n o)
    ∙ (new_by (same_note o n) (list_any (same_note o) ds) ∙ ap not (sym (list_any-append (same_note o) ds (n ∷ []))))

abbrev Added : List Note → Type 0
Added ns = (ds : List Note) → with_all ds ns ≡ ds ++ filter (is_new ds) (distinct ns)

added_by : (ns : List Note) → Added ns → (ds : List Note) (n : Note) (b : Bool) → list_any (same_note n) ds ≡ b
    → with_all (if b then ds else ds ++ n ∷ []) ns ≡ ds ++ cond (not b) (n ∷ filter (is_new ds) (filter (λ o. not (same_note n o)) (distinct ns))) (filter (is_new ds) (filter (λ o. not (same_note n o)) (distinct ns)))
added_by ns h ds n true e =
    h ds
    ∙ ap (λ z. ds ++ z) (sym (filter_twice (is_new ds) (λ o. not (same_note n o)) (distinct ns)
    ∙ filter_same (λ o. not (same_note n o) && is_new ds o) (is_new ds) (distinct ns) (λ o. still_new ds n o e)))
added_by ns h ds n false e =
    h (ds ++ n ∷ [])
    ∙ (append_assoc ds (n ∷ []) (filter (is_new (ds ++ n ∷ [])) (distinct ns))
    ∙ ap (λ z. ds ++ n ∷ z) (sym (filter_twice (is_new ds) (λ o. not (same_note n o)) (distinct ns)
    ∙ filter_same (λ o. not (same_note n o) && is_new ds o) (is_new (ds ++ n ∷ [])) (distinct ns) (λ o. new_behind ds n o))))

added : (ns : List Note) → Added ns
added [] ds = sym (append-nil ds)
added (n ∷ ns) ds = added_by ns (added ns) ds n (list_any (same_note n) ds) refl

filter_all : (ns : List Note) → filter (λ (n : Note). true) ns ≡ ns
filter_all [] = refl
filter_all (n ∷ ns) = ap (λ z. n ∷ z) (filter_all ns)

pub distinct_is : (ns : List Note) → with_all [] ns ≡ distinct ns
distinct_is ns = added ns [] ∙ filter_all (distinct ns)

-- ---- notes in a row

pub all-append : (ds xs ys : List Note) → with_all ds (xs ++ ys) ≡ with_all (with_all ds xs) ys
all-append ds [] ys = refl
all-append ds (x ∷ xs) ys = all-append (with_note ds x) xs ys
