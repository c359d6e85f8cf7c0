-- The solutions of the equations of a model are its typings.
use Rattle.std.proofs.Common.{◌≡◌, ◌∙◌, ℕ, zero, suc, ◌+◌, ◌<◌, ◌≤◌, List, [], ◌∷◌, ◌++◌, length, take, get_or, refl, sym, subst, arith, append_assoc, length-append}
use Rattle.std.proofs.Math.Seq.{take-suc, get_or-append_seam}
use Rattle.std.proofs.lemmas.Option.{slice_get-get_or}
use Rattle.std.proofs.lemmas.List.{take_all}
use Rattle.std.specs.Prelude.{⊤, fold}
use Rattle.eb_value.specs.declared.types.EbType.{EbType}
use Rattle.eb_value.specs.Types.{integer}
use Rattle.eb_model.specs.declared.model.EbModel.{EbModel}
use Rattle.type_equations.specs.Equations.{Solves, types_below}
use Rattle.eb_typing.specs.declared.generated.Generated.{Generated}
use Rattle.eb_typing.specs.steps.Generating.{nothing}
use Rattle.eb_typing.specs.steps.Demanding.{all_demanded, one_part}
use Rattle.eb_typing.specs.Models.{owed, Typed}
use Rattle.eb_typing.specs.Equating.{Equated}
use Rattle.eb_typing.proofs.Solving.{length-types_below}
use Rattle.eb_typing.proofs.Soundness.{all_sound}
use Rattle.eb_typing.proofs.Extending.{Has, has_front, has_back, has_get}
use Rattle.eb_typing.proofs.Completeness.{all_complete}
use Rattle.eb_typing.proofs.Owing.{parts_owed}

-- the types of a list, by their places
abbrev at_places : List EbType → ℕ → EbType
at_places ts k = get_or ts k integer

places_have : (ys xs : List EbType) → Has (at_places (ys ++ xs)) (length ys) xs
places_have ys [] = tt
places_have ys (x ∷ xs) =
    let e : (ys ++ x ∷ []) ++ xs ≡ ys ++ x ∷ xs = append_assoc ys (x ∷ []) xs in
    let l : length (ys ++ x ∷ []) ≡ length ys + 1 = length-append ys (x ∷ []) in (
      get_or-append_seam ys x xs integer,
      subst (λ n. Has (at_places (ys ++ x ∷ xs)) n xs) l (subst (λ z. Has (at_places z) (length (ys ++ x ∷ [])) xs) e (places_have (ys ++ x ∷ []) xs)),
    )

below_front : (σ : ℕ → EbType) (ts : List EbType) (n : ℕ) → Has σ 0 ts → n ≤ length ts → types_below n σ ≡ take n ts
below_front σ ts zero h l = refl
below_front σ ts (suc n) h l =
    let m : n < length ts = omega arith in
    let z : 0 + n ≡ n = omega arith in
    let e : σ n ≡ get_or ts n integer = subst (λ k. σ k ≡ get_or ts n integer) z (has_get σ 0 n ts (get_or ts n integer) h (slice_get-get_or ts n integer m)) in
    rw (below_front σ ts n h (omega arith), e) (sym (take-suc ts n integer m))

types_of : (σ : ℕ → EbType) (ts : List EbType) → Has σ 0 ts → types_below (length ts) σ ≡ ts
types_of σ ts h = below_front σ ts (length ts) h (omega arith) ∙ take_all (length ts) ts (omega arith)

model_sound : (m : EbModel) (σ : ℕ → EbType) → Solves σ (all_demanded m.numbers (nothing m.numbers) (owed m)).equations → Typed m (types_below m.numbers σ)
model_sound m σ s = record {
  each_number = length-types_below σ m.numbers;
  predicates = (all_sound σ m.numbers (nothing m.numbers) (owed m) s).1;
}

model_complete : (m : EbModel) (types : List EbType) → Typed m types → (σ : ℕ → EbType) × Solves σ (all_demanded m.numbers (nothing m.numbers) (owed m)).equations × (types_below m.numbers σ ≡ types)
model_complete m types w =
    let n = m.numbers in
    let a = all_complete n (nothing n) (owed m) (λ σ. ⊤) w.each_number w.predicates in
    let σ = at_places (types ++ a.more) in
    let h : Has σ 0 (types ++ a.more) = places_have [] (types ++ a.more) in
    let front = has_front σ 0 types a.more h in
    let z : 0 + length types ≡ n = omega (arith, w.each_number) in
    let back = subst (λ m. Has σ m a.more) z (has_back σ 0 types a.more h) in
    (σ, (a.solves σ front back tt tt).0, subst (λ m. types_below m σ ≡ types) w.each_number (types_of σ types front))

pub equated : (m : EbModel) (made : Generated) → made ≡ fold (one_part m.numbers) (nothing m.numbers) m.parts → Equated m m.numbers made.equations
equated m made is =
    let e : made ≡ all_demanded m.numbers (nothing m.numbers) (owed m) = is ∙ parts_owed m.numbers (nothing m.numbers) m.parts in
    rw e (record { sound = model_sound m; complete = model_complete m })
