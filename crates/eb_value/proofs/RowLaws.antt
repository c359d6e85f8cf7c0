-- What is printed of values of given types is read as those values.
use Rattle.std.proofs.Common.{◌≡◌, ◌∙◌, ℕ, ◌<◌, ◌^◌, Bool, true, false, ◌&&◌, nat_eq, if◌then◌else◌, List, [], ◌∷◌, ◌++◌, Option, Some, None, refl, sym, ap, subst, append_assoc, append-nil}
use Rattle.std.specs.Prelude.{All}
use Rattle.std.specs.List.{flat_map}
use Rattle.std.specs.Cmp.Lexicographic.{pointwise, nat_list_eq_equiv}
use Rattle.eb_value.specs.declared.scope.Scope.{Scope}
use Rattle.eb_value.specs.declared.types.EbType.{EbType}
use Rattle.eb_value.specs.declared.value.Value.{Value}
use Rattle.eb_value.specs.Typing.{has_type, AreOfTypes}
use Rattle.eb_value.specs.Texts.{AreReadable, value_text, values_text}
use Rattle.eb_value.specs.steps.Reading
use Rattle.eb_value.specs.steps.Reading.{◌>>=◌}
use Rattle.eb_value.specs.steps.Rows
use Rattle.eb_value.proofs.PairLaws.{same_some}
use Rattle.eb_value.proofs.TextLaws.{joined}
use Rattle.eb_value.proofs.ReadingLaws.{ends, read_back, same_text}

-- ---- what is read has the types

-- an answer that came of one before it
given : {A B : Type 0} (o : Option A) (f : A → Option B) (b : B) → (o >>= f) ≡ Some b → (a : A) × (o ≡ Some a) × (f a ≡ Some b)
given None f b e = cc
given (Some a) f b e = (a, refl, e)

passed : (b : Bool) (x y : Value × List ℕ) → (if b then Some x else None) ≡ Some y → (b ≡ true) × (x ≡ y)
passed true x y e = (refl, cc)
passed false x y e = cc

typed_next : (names : List (List ℕ)) (scope : Scope) (front : List Value) (t : EbType) (s : List ℕ) (x : Value × List ℕ) → Rows.next_at names scope front t s ≡ Some x → has_type scope x.0 t ≡ true
typed_next names scope front t s x e =
    let behind = given (Rows.separated front s) (Rows.typed_at names scope t) x e in
    let value = given (Reading.value_at names scope.sizes t behind.0) (λ y. if has_type scope y.0 t then Some y else None) x behind.2 in
    let found = passed (has_type scope value.0.0 t) value.0 x value.2 in
    ap (λ y. has_type scope y.0 t) (sym found.1) ∙ found.0

-- what is read behind a front is the front before values of the types
abbrev Extends : Scope → List EbType → List Value → List Value → Type 0
Extends scope ts front vs = (ws : List Value) × (vs ≡ front ++ ws) × AreOfTypes scope ws ts

typed_row : (names : List (List ℕ)) (scope : Scope) (ts : List EbType) (front : List Value) (s : List ℕ) (x : List Value × List ℕ) → Rows.row_at names scope ts front s ≡ Some x → Extends scope ts front x.0
typed_row names scope [] front s x e = let same : (front, s) ≡ x = cc in ([], ap (λ y. y.0) (sym same) ∙ sym (append-nil front), tt)
typed_row names scope (t ∷ ts) front s x e =
    let next = given (Rows.next_at names scope front t s) (λ y. Rows.row_at names scope ts (front ++ y.0 ∷ []) y.1) x e in
    let later = typed_row names scope ts (front ++ next.0.0 ∷ []) next.0.1 x next.2 in
    (next.0.0 ∷ later.0, later.1 ∙ append_assoc front (next.0.0 ∷ []) later.0, (typed_next names scope front t s next.0 next.1, later.2))

-- ---- what is read whole prints so

whole : (names : List (List ℕ)) (s : List ℕ) (x : List Value × List ℕ) (vs : List Value) (b c : Bool) → pointwise nat_eq (values_text names x.0) s ≡ c → (if b && c then Some x.0 else None) ≡ Some vs → (x.0 ≡ vs) × (s ≡ values_text names vs)
whole names s x vs true true k e = let same : x.0 ≡ vs = cc in (same, sym (same_text (values_text names x.0) s k) ∙ ap (values_text names) same)
whole names s x vs true false k e = cc
whole names s x vs false c k e = cc

pub sound : (names : List (List ℕ)) (scope : Scope) (ts : List EbType) (s : List ℕ) (vs : List Value) → Rows.whole_row names scope ts s ≡ Some vs → (s ≡ values_text names vs) × AreOfTypes scope vs ts
sound names scope ts s vs e =
    let read = given (Rows.row_at names scope ts [] s) (λ x. if Reading.is_nil x.1 && pointwise nat_eq (values_text names x.0) s then Some x.0 else None) vs e in
    let printed = whole names s read.0 vs (Reading.is_nil read.0.1) (pointwise nat_eq (values_text names read.0.0) s) refl read.2 in
    let typed = typed_row names scope ts [] s read.0 read.1 in
    (printed.1, subst (λ us. AreOfTypes scope us ts) (sym typed.1 ∙ printed.0) typed.2)

-- ---- what is printed is read

module _ (names : List (List ℕ)) (scope : Scope) (readable : AreReadable names) (fit : All (λ size. size < 2 ^ 32) scope.sizes) where
  -- the texts of values, each behind a comma
  abbrev behind_commas : List Value → List ℕ
  behind_commas ws = flat_map (λ w. 44 ∷ value_text names w) ws

  ends_commas : (ws : List Value) → ends (behind_commas ws) ≡ true
  ends_commas [] = refl
  ends_commas (w ∷ ws) = refl

  typed_read : (t : EbType) (w : Value) (rest : List ℕ) → has_type scope w t ≡ true → ends rest ≡ true → Rows.typed_at names scope t (value_text names w ++ rest) ≡ Some (w, rest)
  typed_read t w rest h e = ap (λ o. o >>= (λ x. if has_type scope x.0 t then Some x else None)) (read_back names scope readable fit t w rest h e) ∙ rw h refl

  others_read : (ts : List EbType) (front ws : List Value) (v : Value) → AreOfTypes scope ws ts → Rows.row_at names scope ts (v ∷ front) (behind_commas ws) ≡ Some (v ∷ front ++ ws, [])
  others_read [] front [] v h = ap (λ us. Some (us, [])) (sym (append-nil (v ∷ front)))
  others_read [] front (w ∷ ws) v h = absurd h
  others_read (t ∷ ts) front [] v h = absurd h
  others_read (t ∷ ts) front (w ∷ ws) v h =
      ap (λ o. o >>= (λ x. Rows.row_at names scope ts (v ∷ front ++ x.0 ∷ []) x.1)) (typed_read t w (behind_commas ws) h.0 (ends_commas ws))
      ∙ others_read ts (front ++ w ∷ []) ws v h.1 ∙ ap (λ us. Some (v ∷ us, [])) (append_assoc front (w ∷ []) ws)

  row_read : (ts : List EbType) (ws : List Value) → AreOfTypes scope ws ts → Rows.row_at names scope ts [] (values_text names ws) ≡ Some (ws, [])
  row_read [] [] h = refl
  row_read [] (w ∷ ws) h = absurd h
  row_read (t ∷ ts) [] h = absurd h
  row_read (t ∷ ts) (w ∷ ws) h =
      ap (Rows.row_at names scope (t ∷ ts) []) (joined (value_text names) w ws)
      ∙ ap (λ o. o >>= (λ x. Rows.row_at names scope ts (x.0 ∷ []) x.1)) (typed_read t w (behind_commas ws) h.0 (ends_commas ws))
      ∙ others_read ts [] ws w h.1

  pub complete : (ts : List EbType) (ws : List Value) (s : List ℕ) → AreOfTypes scope ws ts → s ≡ values_text names ws → Rows.whole_row names scope ts s ≡ Some ws
  complete ts ws s h e =
      let read : Rows.row_at names scope ts [] s ≡ Some (ws, []) = ap (Rows.row_at names scope ts []) e ∙ row_read ts ws h in
      let same : pointwise nat_eq (values_text names ws) s ≡ true = ap (pointwise nat_eq (values_text names ws)) e ∙ nat_list_eq_equiv.refl (values_text names ws) in
      ap (λ o. o >>= (λ x. if Reading.is_nil x.1 && pointwise nat_eq (values_text names x.0) s then Some x.0 else None)) read ∙ rw same refl

  -- values of the same types that print alike are equal
  pub told : (ts : List EbType) (vs ws : List Value) → AreOfTypes scope vs ts → AreOfTypes scope ws ts → values_text names vs ≡ values_text names ws → vs ≡ ws
  told ts vs ws h k e = same_some vs ws (sym (complete ts vs (values_text names vs) h refl) ∙ complete ts ws (values_text names vs) k e)
