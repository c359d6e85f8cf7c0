-- One entry more, and one fewer.
use Rattle.std.proofs.Common.{◌≡◌, ◌∙◌, ℕ, zero, suc, ◌+◌, ◌-◌, ◌≤◌, Bool, true, false, cond, List, [], ◌∷◌, ◌++◌, length, take, map, refl, sym, ap, subst, arith, rules, append_assoc}
use Rattle.std.specs.Prelude.{Option, Some, None, fold, IsSome, if◌then◌else◌}
use Rattle.std.specs.Str.{bytes_eq}
use Rattle.std.specs.Bool.{Decides}
use Rattle.std.proofs.lemmas.Slice.Eq.{bytes_eq-Decides}
use Rattle.numbered_names.specs.declared.entries.Entry.{Entry}
use Rattle.numbered_names.specs.declared.entries.Layer.{Layer}
use Rattle.numbered_names.specs.Names.{newest}
use Rattle.numbered_names.specs.steps.Layers.{entries_of, AreHiding, AreLayers}

fold_snoc : {A X : Type 0} (f : A → X → A) (a : A) (xs : List X) (x : X) → fold f a (xs ++ x ∷ []) ≡ f (fold f a xs) x
fold_snoc f a [] x = refl
fold_snoc f a (y ∷ xs) x = fold_snoc f (f a y) xs x

newest_more : (q : List ℕ) (es : List Entry) (e : Entry) → newest q (es ++ e ∷ []) ≡ (if bytes_eq q e.name then Some e.number else newest q es)
newest_more q es e = fold_snoc (λ found x. if bytes_eq q x.name then Some x.number else found) None es e

pub entries_more : (ls : List Layer) (l : Layer) → entries_of (ls ++ l ∷ []) ≡ entries_of ls ++ l.entry ∷ []
entries_more [] l = refl
entries_more (m ∷ ls) l = ap (λ es. m.entry ∷ es) (entries_more ls l)

append_none : (es : List Entry) → es ++ [] ≡ es
append_none [] = refl
append_none (e ∷ es) = ap (λ z. e ∷ z) (append_none es)

hiding_more : (before : List Entry) (ls : List Layer) (l : Layer) → AreHiding before ls → l.hidden ≡ newest l.entry.name (before ++ entries_of ls) → AreHiding before (ls ++ l ∷ [])
hiding_more before [] l h e = (e ∙ ap (newest l.entry.name) (append_none before), tt)
hiding_more before (m ∷ ls) l h e = (h.0, hiding_more (before ++ m.entry ∷ []) ls l h.1 (e ∙ ap (newest l.entry.name) (sym (append_assoc before (m.entry ∷ []) (entries_of ls)))))

hiding_fewer : (before : List Entry) (ls : List Layer) (l : Layer) → AreHiding before (ls ++ l ∷ []) → AreHiding before ls × (l.hidden ≡ newest l.entry.name (before ++ entries_of ls))
hiding_fewer before [] l h = (tt, h.0 ∙ ap (newest l.entry.name) (sym (append_none before)))
hiding_fewer before (m ∷ ls) l h =
    let more = hiding_fewer (before ++ m.entry ∷ []) ls l h.1 in
    ((h.0, more.0), more.1 ∙ ap (newest l.entry.name) (append_assoc before (m.entry ∷ []) (entries_of ls)))

pushed : (ls : List Layer) (l : Layer) (m n : List ℕ → Option ℕ) → AreLayers ls m → l.hidden ≡ m l.entry.name → ((q : List ℕ) → n q ≡ (if bytes_eq q l.entry.name then Some l.entry.number else m q)) → AreLayers (ls ++ l ∷ []) n
pushed ls l m n a h u = record {
  hiding = hiding_more [] ls l a.hiding (h ∙ a.newest l.entry.name);
  newest = λ q. u q
      ∙ (ap (λ z. if bytes_eq q l.entry.name then Some l.entry.number else z) (a.newest q)
      ∙ (sym (newest_more q (entries_of ls) l.entry) ∙ ap (newest q) (sym (entries_more ls l))));
}

same_name : (q x : List ℕ) → bytes_eq q x ≡ true → q ≡ x
same_name q x e = search (rules, bytes_eq-Decides)

own_name : (x : List ℕ) → bytes_eq x x ≡ true
own_name x = search (rules, bytes_eq-Decides)

-- what the map has of a name, beside the last layer
last_of : (ls : List Layer) (l : Layer) (m : List ℕ → Option ℕ) (q : List ℕ) → AreLayers (ls ++ l ∷ []) m → m q ≡ (if bytes_eq q l.entry.name then Some l.entry.number else newest q (entries_of ls))
last_of ls l m q a = a.newest q ∙ (ap (newest q) (entries_more ls l) ∙ newest_more q (entries_of ls) l.entry)

last_there : (ls : List Layer) (l : Layer) (m : List ℕ → Option ℕ) → AreLayers (ls ++ l ∷ []) m → m l.entry.name ≡ Some l.entry.number
last_there ls l m a = last_of ls l m l.entry.name a ∙ ap (λ b. if b then Some l.entry.number else newest l.entry.name (entries_of ls)) (own_name l.entry.name)

popped_at : (ls : List Layer) (l : Layer) (m n : List ℕ → Option ℕ) (q : List ℕ) (b : Bool) → bytes_eq q l.entry.name ≡ b → AreLayers (ls ++ l ∷ []) m → n q ≡ (if bytes_eq q l.entry.name then l.hidden else m q) → n q ≡ newest q (entries_of ls)
popped_at ls l m n q true e a u =
    let same : q ≡ l.entry.name = same_name q l.entry.name e in
    u ∙ (ap (λ c. if c then l.hidden else m q) e ∙ ((hiding_fewer [] ls l a.hiding).1 ∙ ap (λ z. newest z (entries_of ls)) (sym same)))
popped_at ls l m n q false e a u =
    u ∙ (ap (λ c. if c then l.hidden else m q) e ∙ (last_of ls l m q a ∙ ap (λ c. if c then Some l.entry.number else newest q (entries_of ls)) e))

popped : (ls : List Layer) (l : Layer) (m n : List ℕ → Option ℕ) → AreLayers (ls ++ l ∷ []) m → ((q : List ℕ) → n q ≡ (if bytes_eq q l.entry.name then l.hidden else m q)) → AreLayers ls n
popped ls l m n a u = record {
  hiding = (hiding_fewer [] ls l a.hiding).0;
  newest = λ q. popped_at ls l m n q (bytes_eq q l.entry.name) refl a (u q);
}

pub pushed_by : (ls os : List Layer) (l : Layer) (m n : List ℕ → Option ℕ) → os ≡ ls ++ l ∷ [] → AreLayers ls m → l.hidden ≡ m l.entry.name → ((q : List ℕ) → n q ≡ (if bytes_eq q l.entry.name then Some l.entry.number else m q)) → AreLayers os n
pushed_by ls os l m n e a h u = rw e (pushed ls l m n a h u)

pub popped_by : (ls os : List Layer) (l : Layer) (m n : List ℕ → Option ℕ) → os ≡ ls ++ l ∷ [] → AreLayers os m → ((q : List ℕ) → n q ≡ (if bytes_eq q l.entry.name then l.hidden else m q)) → AreLayers ls n
popped_by ls os l m n e a u = popped ls l m n (subst (λ z. AreLayers z m) e a) u

pub there_by : (ls os : List Layer) (l : Layer) (m : List ℕ → Option ℕ) (x : List ℕ) → os ≡ ls ++ l ∷ [] → x ≡ l.entry.name → AreLayers os m → IsSome (m x)
there_by ls os l m x e f a = let s : m x ≡ Some l.entry.number = ap m f ∙ last_there ls l m (subst (λ z. AreLayers z m) e a) in rw s refl
