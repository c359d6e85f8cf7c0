-- Which types the operators give.
use Rattle.std.proofs.Common.{◌≡◌, ◌∙◌, true, ◌&&◌, List, Some, ℤ, pos, negsuc, ◌+ℤ◌, ◌≤ℤ◌, int_le, sym, subst, arith}
use Rattle.std.specs.Int.{int_gap}
use Rattle.std.specs.List.{Contains}
use Rattle.std.specs.Cmp.{first_so, second_so}
use Rattle.std.proofs.lemmas.Int.{ints, by_lt_z}
use Rattle.eb_value.specs.declared.scope.Scope.{Scope}
use Rattle.eb_value.specs.declared.types.EbType.{EbType}
use Rattle.eb_value.specs.declared.value.Value.{Value}
use Rattle.eb_value.specs.Types.{integer, product}
use Rattle.eb_value.specs.Values.{pair, int}
use Rattle.eb_value.specs.Relations.{Relates}
use Rattle.eb_value.specs.Scopes.{ints_from}
use Rattle.eb_value.specs.Typing.{has_type, have_type}
use Rattle.eb_value.specs.Comprehensions as set
use Rattle.eb_value.proofs.TypingLaws.{all_so, so_all, both_so, has_type-pair, has_type-int}
use Rattle.eb_value.proofs.IntegerLaws.{from_up, gap_up, gap_none}
use Rattle.eb_value.proofs.Completeness.{so_le}
use Rattle.eb_value.proofs.ComprehensionLaws.{applied_related}
use Rattle.eb_value.proofs.KeepLaws
use Rattle.eb_value.proofs.KeepLaws.{AllIn}

module _ (scope : Scope) where
  abbrev Has : EbType → Value → Type 0
  Has t v = has_type scope v t ≡ true

  abbrev Have : EbType → List Value → Type 0
  Have t vs = have_type scope vs t ≡ true

  each : (t : EbType) (vs : List Value) → Have t vs → AllIn (Has t) vs
  each t vs h v m = all_so (λ v. has_type scope v t) vs h v m

  all : (t : EbType) (vs : List Value) → AllIn (Has t) vs → Have t vs
  all t vs h = so_all (λ v. has_type scope v t) vs h

  halves : (t u : EbType) (x y : Value) → Has (product t u) (pair x y) → Has t x × Has u y
  halves t u x y h =
      let e : (has_type scope x t && has_type scope y u) ≡ true = sym (has_type-pair scope x y t u) ∙ h in
      (first_so (has_type scope x t) (has_type scope y u) e, second_so (has_type scope x t) (has_type scope y u) e)

  paired : (t u : EbType) (x y : Value) → Has t x → Has u y → Has (product t u) (pair x y)
  paired t u x y h k = has_type-pair scope x y t u ∙ both_so (has_type scope x t) (has_type scope y u) h k

  -- both values of a maplet
  related : (t u : EbType) (r : List Value) → Have (product t u) r → (x y : Value) → Relates r x y → Has t x × Has u y
  related t u r h x y m = halves t u x y (each (product t u) r h (pair x y) m)

  pub set_of : (t : EbType) (a : List Value) → Have t a → Have t (set.set_of a)
  set_of t a h = all t (set.set_of a) (KeepLaws.set_of_keeps (Has t) a (each t a h))

  pub union : (t : EbType) (a b : List Value) → Have t a → Have t b → Have t (set.union a b)
  union t a b h k = all t (set.union a b) (KeepLaws.union_keeps (Has t) a b (each t a h) (each t b k))

  pub meet : (t : EbType) (a b : List Value) → Have t a → Have t b → Have t (set.meet a b)
  meet t a b h k = all t (set.meet a b) (KeepLaws.meet_keeps (Has t) a b (each t a h))

  pub minus : (t : EbType) (a b : List Value) → Have t a → Have t b → Have t (set.minus a b)
  minus t a b h k = all t (set.minus a b) (KeepLaws.minus_keeps (Has t) a b (each t a h))

  pub cross : (t u : EbType) (a b : List Value) → Have t a → Have u b → Have (product t u) (set.cross a b)
  cross t u a b h k = all (product t u) (set.cross a b) (KeepLaws.cross_keeps (Has (product t u)) a b (λ x y m n. paired t u x y (each t a h x m) (each u b k y n)))

  pub domain : (t u : EbType) (r : List Value) → Have (product t u) r → Have t (set.domain r)
  domain t u r h = all t (set.domain r) (KeepLaws.domain_keeps (Has t) r (λ x y m. (related t u r h x y m).0))

  pub range : (t u : EbType) (r : List Value) → Have (product t u) r → Have u (set.range r)
  range t u r h = all u (set.range r) (KeepLaws.range_keeps (Has u) r (λ x y m. (related t u r h x y m).1))

  pub inverse : (t u : EbType) (r : List Value) → Have (product t u) r → Have (product u t) (set.inverse r)
  inverse t u r h = all (product u t) (set.inverse r) (KeepLaws.inverse_keeps (Has (product u t)) r (λ x y m. paired u t y x (related t u r h x y m).1 (related t u r h x y m).0))

  pub dom_keep : (t u : EbType) (s r : List Value) → Have t s → Have (product t u) r → Have (product t u) (set.dom_keep s r)
  dom_keep t u s r h k = all (product t u) (set.dom_keep s r) (KeepLaws.dom_keep_keeps (Has (product t u)) s r (each (product t u) r k))

  pub dom_drop : (t u : EbType) (s r : List Value) → Have t s → Have (product t u) r → Have (product t u) (set.dom_drop s r)
  dom_drop t u s r h k = all (product t u) (set.dom_drop s r) (KeepLaws.dom_drop_keeps (Has (product t u)) s r (each (product t u) r k))

  pub ran_keep : (t u : EbType) (r s : List Value) → Have (product t u) r → Have u s → Have (product t u) (set.ran_keep r s)
  ran_keep t u r s h k = all (product t u) (set.ran_keep r s) (KeepLaws.ran_keep_keeps (Has (product t u)) r s (each (product t u) r h))

  pub ran_drop : (t u : EbType) (r s : List Value) → Have (product t u) r → Have u s → Have (product t u) (set.ran_drop r s)
  ran_drop t u r s h k = all (product t u) (set.ran_drop r s) (KeepLaws.ran_drop_keeps (Has (product t u)) r s (each (product t u) r h))

  pub image : (t u : EbType) (r s : List Value) → Have (product t u) r → Have t s → Have u (set.image r s)
  image t u r s h k = all u (set.image r s) (KeepLaws.image_keeps (Has u) r s (λ x y m. (related t u r h x y m).1))

  pub overlay : (t u : EbType) (f g : List Value) → Have (product t u) f → Have (product t u) g → Have (product t u) (set.overlay f g)
  overlay t u f g h k = all (product t u) (set.overlay f g) (KeepLaws.overlay_keeps (Has (product t u)) f g (each (product t u) f h) (each (product t u) g k))

  pub compose : (t u w : EbType) (r s : List Value) → Have (product t u) r → Have (product u w) s → Have (product t w) (set.compose r s)
  compose t u w r s h k = all (product t w) (set.compose r s) (KeepLaws.compose_keeps (Has (product t w)) r s (λ x y z m n. paired t w x z (related t u r h x y m).0 (related u w s k y z n).1))

  pub direct : (t u w : EbType) (r s : List Value) → Have (product t u) r → Have (product t w) s → Have (product t (product u w)) (set.direct r s)
  direct t u w r s h k = all (product t (product u w)) (set.direct r s) (KeepLaws.direct_keeps (Has (product t (product u w))) r s (λ x y z m n. paired t (product u w) x (pair y z) (related t u r h x y m).0 (paired u w y z (related t u r h x y m).1 (related t w s k x z n).1)))

  pub parallel : (t u v w : EbType) (r s : List Value) → Have (product t u) r → Have (product v w) s → Have (product (product t v) (product u w)) (set.parallel r s)
  parallel t u v w r s h k = all (product (product t v) (product u w)) (set.parallel r s) (KeepLaws.parallel_keeps (Has (product (product t v) (product u w))) r s (λ x y a z m n. paired (product t v) (product u w) (pair x a) (pair y z) (paired t v x a (related t u r h x y m).0 (related v w s k a z n).0) (paired u w y z (related t u r h x y m).1 (related v w s k a z n).1)))

  pub apply : (t u : EbType) (f : List Value) (x y : Value) → Have (product t u) f → Has t x → set.apply f x ≡ Some y → Has u y
  apply t u f x y h k e = (related t u f h x y (applied_related f x y e)).1

  pub union_of : (t : EbType) (sets : List (List Value)) → ((s : List Value) → Contains sets s → Have t s) → Have t (set.union_of sets)
  union_of t sets h = all t (set.union_of sets) (KeepLaws.union_of_keeps (Has t) sets (λ s m. each t s (h s m)))

  pub meet_of : (t : EbType) (sets : List (List Value)) (xs : List Value) → ((s : List Value) → Contains sets s → Have t s) → set.meet_of sets ≡ Some xs → Have t xs
  meet_of t sets xs h e = all t xs (KeepLaws.meet_of_keeps (Has t) sets xs (λ s m. each t s (h s m)) e)

  in_range : (m : ℤ) → negsuc 4611686018427387903 ≤ℤ m → m ≤ℤ pos 4611686018427387904 → Has integer (int m)
  in_range m l u = has_type-int scope m ∙ both_so (int_le (negsuc 4611686018427387903) m) (int_le m (pos 4611686018427387904)) (so_le (negsuc 4611686018427387903) m l) (so_le m (pos 4611686018427387904) u)

  listed : (lo hi : ℤ) → negsuc 4611686018427387903 ≤ℤ lo → hi ≤ℤ pos 4611686018427387904 → AllIn (Has integer) (ints_from lo (int_gap lo (hi +ℤ pos 1)))
  listed lo hi low high v m =
      let r = from_up lo (int_gap lo (hi +ℤ pos 1)) v m in
      subst (Has integer) (sym r.1) (by_lt_z hi lo
      (λ l. let empty : int_gap lo (hi +ℤ pos 1) ≡ 0 = gap_none lo (hi +ℤ pos 1) (omega (arith, ints)) in absurd (omega (arith, ints, empty, r.2, r.3)))
      (λ l. let end : lo +ℤ pos (int_gap lo (hi +ℤ pos 1)) ≡ hi +ℤ pos 1 = gap_up lo (hi +ℤ pos 1) (omega (arith, ints)) in
      in_range r.0 (omega (arith, ints, low, r.2)) (omega (arith, ints, end, high, r.3))))

  pub integers : (lo hi : ℤ) → negsuc 4611686018427387903 ≤ℤ lo → hi ≤ℤ pos 4611686018427387904 → Have integer (ints_from lo (int_gap lo (hi +ℤ pos 1)))
  integers lo hi low high = all integer (ints_from lo (int_gap lo (hi +ℤ pos 1))) (listed lo hi low high)
