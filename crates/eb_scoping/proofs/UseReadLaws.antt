-- What the use of a name does.
use Rattle.std.proofs.Common.{◌≡◌, ◌∙◌, Bool, true, false, not, ◌||◌, cond, if◌then◌else◌, ℕ, List, [], ◌∷◌, ◌++◌, refl, sym, ap, subst, is_some, rules}
use Rattle.std.specs.Prelude.{Option, Some, None, fold, unwrap_or}
use Rattle.std.specs.Option.{option_or}
use Rattle.std.specs.Str.{bytes_eq}
use Rattle.std.proofs.lemmas.Slice.Eq.{bytes_eq-Decides}
use Rattle.std.proofs.lemmas.List.{map-append}
use Rattle.numbered_names.specs.declared.entries.Entry.{Entry}
use Rattle.numbered_names.specs.Names.{Names, entry, newest, built_in, built_number, built_more, after_found, after_build}
use Rattle.eb_resolved.specs.declared.resolved.Resolved.{the_lemmas}
use Rattle.eb_resolved.specs.Formulas as made
use Rattle.eb_resolved.specs.Resolving.{meant, used_as}
use Rattle.eb_resolved.specs.Unknown.{used, unknown}
use Rattle.eb_scoping.specs.FreeNames.{is_among}
use Rattle.eb_scoping.specs.steps.FreeByParts.{unbound}
use Rattle.eb_scoping.proofs.OpenLaws.{or_false, among_append}
use Rattle.eb_scoping.proofs.ReadLaws.{entry_names, left, IsBuilt, IsRead, Reads, read_as, left_none, built_none}

same_bytes : (x y : List ℕ) (b : Bool) → bytes_eq x y ≡ b → bytes_eq y x ≡ b
same_bytes x y true e = (bytes_eq-Decides y x).1 (sym ((bytes_eq-Decides x y).0 e))
same_bytes x y false e = other (bytes_eq y x) refl
  where
    other : (b : Bool) → bytes_eq y x ≡ b → b ≡ false
    other true h = let t : bytes_eq x y ≡ true = (bytes_eq-Decides x y).1 (sym ((bytes_eq-Decides y x).0 h)) in sym t ∙ e
    other false h = refl

-- a name has a newest entry where it is among the names of the entries
newest_from : (x : List ℕ) (o : Option ℕ) (es : List Entry) → is_some (fold (λ found e. if bytes_eq x e.name then Some e.number else found) o es) ≡ (is_some o || is_among (entry_names es) x)
newest_from x o [] = sym (or_false (is_some o))
newest_from x o (e ∷ es) = newest_from x (if bytes_eq x e.name then Some e.number else o) es
    ∙ (by_case (bytes_eq x e.name) (is_some o) (is_among (entry_names es) x) ∙ ap (λ b. is_some o || (b || is_among (entry_names es) x)) (sym (same_bytes x e.name (bytes_eq x e.name) refl)))
  where
    by_old : (p m : Bool) → true ≡ (p || true)
    by_old true m = refl
    by_old false m = refl

    by_case : (b p m : Bool) → (is_some (if b then Some e.number else o) || m) ≡ (is_some o || (b || m))
    by_case true p m = by_old (is_some o) m
    by_case false p m = refl

pub newest_among : (x : List ℕ) (es : List Entry) → is_some (newest x es) ≡ is_among (entry_names es) x
newest_among x es = newest_from x None es

-- a name that is bound
used_bound : (place k : ℕ) (x : List ℕ) (s : Names) → is_among (entry_names s.bound) x ≡ true → IsRead s s (used x false ∷ []) (unknown (made.identifier place k))
used_bound place k x s e =
    let none : unknown (made.identifier place k) ≡ [] = search (rules, the_lemmas) in
    read_as s s (used x false ∷ []) [] (unknown (made.identifier place k)) (ap (λ b. cond (not b) (used x false ∷ []) []) e) refl (none ∙ left_none s.built) (built_none s.built)

-- one more name, which is there
built_again : (x : List ℕ) (es : List Entry) → is_among (entry_names es) x ≡ true → IsBuilt (Some es) (Some es) (x ∷ [])
built_again x es e q = by_case (bytes_eq x q) refl
  where
    by_case : (b : Bool) → bytes_eq x q ≡ b → is_among (entry_names es) q ≡ (is_among (entry_names es) q || (b || false))
    by_case true h = let same : x ≡ q = (bytes_eq-Decides x q).0 h in subst (λ z. is_among (entry_names es) z ≡ (is_among (entry_names es) z || true)) same (rw e refl)
    by_case false h = sym (or_false (is_among (entry_names es) q))

built_first : (x : List ℕ) (n : ℕ) (es : List Entry) → IsBuilt (Some es) (Some (es ++ entry x n ∷ [])) (x ∷ [])
built_first x n es q = ap (λ z. is_among z q) (map-append (λ e. e.name) es (entry x n ∷ [])) ∙ among_append (entry_names es) (x ∷ []) q

built_use : (x : List ℕ) (s : Names) (es : List Entry) → (o : Option ℕ) → is_some o ≡ is_among (entry_names es) x → s.built ≡ Some es → IsBuilt (Some es) (built_more x s es o).built (x ∷ [])
built_use x s es (Some k) e b = subst (λ z. IsBuilt (Some es) z (x ∷ [])) (sym b) (built_again x es (sym e))
built_use x s es None e b = built_first x s.next es

bound_use : (x : List ℕ) (s : Names) (es : List Entry) (o : Option ℕ) → (built_more x s es o).bound ≡ s.bound
bound_use x s es (Some k) = refl
bound_use x s es None = refl

-- a name that nothing binds
used_free : (place : ℕ) (x : List ℕ) (bs : List Entry) (built : Option (List Entry)) (n : ℕ) (s : Names) → s ≡ record { bound = bs; built = built; next = n } → is_among (entry_names bs) x ≡ false
    → IsRead s (after_build x s built) (used x false ∷ []) (unknown (meant place x (option_or (built_in x n built) None)))
used_free place x bs None n s is e =
    let free : unbound (entry_names s.bound) (used x false ∷ []) ≡ used x false ∷ [] = ap (λ z. unbound (entry_names z.bound) (used x false ∷ [])) is ∙ ap (λ b. cond (not b) (used x false ∷ []) []) e in
    let found : unknown (made.unknown place x false) ≡ used x false ∷ [] = search (rules, the_lemmas) in
    let none : s.built ≡ None = ap (λ z. z.built) is in
    read_as s s (used x false ∷ []) (used x false ∷ []) (unknown (made.unknown place x false)) free refl
    (found ∙ ap (λ b. left b (used x false ∷ [])) (sym none))
    (subst (λ b. IsBuilt b b (x ∷ [])) (sym none) tt)
used_free place x bs (Some es) n s is e =
    let free : unbound (entry_names s.bound) (used x false ∷ []) ≡ used x false ∷ [] = ap (λ z. unbound (entry_names z.bound) (used x false ∷ [])) is ∙ ap (λ b. cond (not b) (used x false ∷ []) []) e in
    let found : unknown (made.identifier place (unwrap_or (newest x es) n)) ≡ [] = search (rules, the_lemmas) in
    let some : s.built ≡ Some es = ap (λ z. z.built) is in
    read_as s (built_more x s es (newest x es)) (used x false ∷ []) (used x false ∷ []) (unknown (made.identifier place (unwrap_or (newest x es) n))) free (bound_use x s es (newest x es))
    (found ∙ ap (λ b. left b (used x false ∷ [])) (sym some))
    (subst (λ b. IsBuilt b (built_more x s es (newest x es)).built (x ∷ [])) (sym some) (built_use x s es (newest x es) (newest_among x es) some))

used_at : (place : ℕ) (x : List ℕ) (s : Names) (o : Option ℕ) → is_some o ≡ is_among (entry_names s.bound) x → IsRead s (after_found x s o) (used x false ∷ []) (unknown (meant place x (option_or (option_or o (built_number x s)) None)))
used_at place x s (Some k) e = used_bound place k x s (sym e)
used_at place x s None e = used_free place x s.bound s.built s.next s refl (sym e)

pub reads_use : (place : ℕ) (x : List ℕ) → Reads (used_as [] place x) (used x false ∷ [])
reads_use place x s = used_at place x s (newest x s.bound) (newest_among x s.bound)

pub reads_primed : (place : ℕ) (x : List ℕ) (s : Names) → IsRead s s (used x true ∷ []) (unknown (made.unknown place x true))
reads_primed place x s =
    let found : unknown (made.unknown place x true) ≡ used x true ∷ [] = search (rules, the_lemmas) in
    read_as s s (used x true ∷ []) (used x true ∷ []) (unknown (made.unknown place x true)) refl refl (found ∙ by_case s.built) (built_none s.built)
  where
    by_case : (b : Option (List Entry)) → used x true ∷ [] ≡ left b (used x true ∷ [])
    by_case None = refl
    by_case (Some es) = refl
