-- What a term refers to, by its parts.
use Rattle.std.proofs.Common.{◌≡◌, refl, ◌∙◌, rules, Bool, ◌||◌, ◌++◌, List, [], ◌∷◌, map}
use Rattle.std.specs.List.{list_any, flat_map}
use Rattle.std.proofs.lemmas.List.Concat.{flat_map-cons}
use Rattle.std.proofs.lemmas.List.Folds.{list_any-append}
use Rattle.eb_term.specs.declared.operators.Binder.{Binder}
use Rattle.eb_term.specs.declared.operators.Many.{Many}
use Rattle.eb_term.specs.declared.term.Term.{Term, fold_out-Term}
use Rattle.eb_term.specs.declared.term.Head.{the_lemmas}
use Rattle.eb_term.specs.declared.term.Head.TheVariants as head
use Rattle.eb_term.specs.Leaves.{references}
use Rattle.eb_meaning.specs.Meaning.{Slot}
use Rattle.eb_meaning.specs.Problems.{names_undefined}

any_flat : {X A : Type 0} (p : A → Bool) (f : X → List A) (xs : List X) → list_any p (flat_map f xs) ≡ list_any (λ x. list_any p (f x)) xs
any_flat p f [] = refl
any_flat p f (x ∷ xs) = rw (flat_map-cons f x xs, list_any-append p (f x) (flat_map f xs), any_flat p f xs) refl

any_map : {X A : Type 0} (p : A → Bool) (f : X → A) (xs : List X) → list_any p (map f xs) ≡ list_any (λ x. p (f x)) xs
any_map p f [] = refl
any_map p f (x ∷ xs) = rw (any_map p f xs) refl

many_references : (t : Term) (o : Many) (parts : List Term) → t.head ≡ head.Many o parts → references t ≡ flat_map (λ e. e) (map references parts)
many_references t o parts p = search (rules, fold_out-Term, the_lemmas, p)

over_references : (t : Term) (o : Binder) (range body : Term) → t.head ≡ head.Over o range body → references t ≡ references range ++ references body
over_references t o range body p = search (rules, fold_out-Term, the_lemmas, p)

pub many_refer : (slots : List Slot) (t : Term) (o : Many) (parts : List Term) → t.head ≡ head.Many o parts
    → names_undefined slots t ≡ list_any (names_undefined slots) parts
many_refer slots t o parts p = rw (many_references t o parts p) (any_flat _ (λ e. e) (map references parts) ∙ any_map _ references parts)

pub over_refer : (slots : List Slot) (t : Term) (o : Binder) (range body : Term) → t.head ≡ head.Over o range body
    → names_undefined slots t ≡ (names_undefined slots range || names_undefined slots body)
over_refer slots t o range body p = rw (over_references t o range body p) (list_any-append _ (references range) (references body))
