-- What holds of the members of the arguments holds of the members of the result.
use Rattle.std.proofs.Common.{◌≡◌, ⊎_elim, List, [], ◌∷◌, filter, Some, refl, sym, subst}
use Rattle.std.specs.List.{Contains, list_all, flat_map}
use Rattle.eb_value.specs.declared.value.Value.{Value}
use Rattle.eb_value.specs.Values.{pair}
use Rattle.eb_value.specs.Sets.{IsSetOf, InUnion, InMeet, InMinus}
use Rattle.eb_value.specs.Relations as in_relation
use Rattle.eb_value.specs.Relations.{Relates}
use Rattle.eb_value.specs.Comprehensions as set
use Rattle.eb_value.proofs.Ascending.{contains_filter}
use Rattle.eb_value.proofs.Members.{contains_here}
use Rattle.eb_value.proofs.PairLaws.{contains_flat_map, same_some}
use Rattle.eb_value.proofs.ComprehensionLaws

abbrev pub AllIn : (Value → Type 0) → List Value → Type 0
AllIn P xs = (v : Value) → Contains xs v → P v

all_of : (P Q : Value → Type 0) (xs : List Value) → IsSetOf P xs → ((v : Value) → P v → Q v) → AllIn Q xs
all_of P Q xs s h v m = h v ((s.members v).0 m)

module _ (Q : Value → Type 0) where
  pub set_of_keeps : (a : List Value) → AllIn Q a → AllIn Q (set.set_of a)
  set_of_keeps a h = all_of (Contains a) Q (set.set_of a) (ComprehensionLaws.set_of_is a) h

  pub union_keeps : (a b : List Value) → AllIn Q a → AllIn Q b → AllIn Q (set.union a b)
  union_keeps a b h k = all_of (InUnion a b) Q (set.union a b) (ComprehensionLaws.union_is a b) (λ v. ⊎_elim (h v) (k v))

  pub meet_keeps : (a b : List Value) → AllIn Q a → AllIn Q (set.meet a b)
  meet_keeps a b h = all_of (InMeet a b) Q (set.meet a b) (ComprehensionLaws.meet_is a b) (λ v p. h v p.0)

  pub minus_keeps : (a b : List Value) → AllIn Q a → AllIn Q (set.minus a b)
  minus_keeps a b h = all_of (InMinus a b) Q (set.minus a b) (ComprehensionLaws.minus_is a b) (λ v p. h v p.0)

  pub dom_keep_keeps : (s r : List Value) → AllIn Q r → AllIn Q (set.dom_keep s r)
  dom_keep_keeps s r h = all_of (in_relation.InDomKeep s r) Q (set.dom_keep s r) (ComprehensionLaws.dom_keep_is s r) (λ v p. subst Q (sym p.2) (h (pair p.0 p.1) p.4))

  pub dom_drop_keeps : (s r : List Value) → AllIn Q r → AllIn Q (set.dom_drop s r)
  dom_drop_keeps s r h = all_of (in_relation.InDomDrop s r) Q (set.dom_drop s r) (ComprehensionLaws.dom_drop_is s r) (λ v p. subst Q (sym p.2) (h (pair p.0 p.1) p.4))

  pub ran_keep_keeps : (r s : List Value) → AllIn Q r → AllIn Q (set.ran_keep r s)
  ran_keep_keeps r s h = all_of (in_relation.InRanKeep r s) Q (set.ran_keep r s) (ComprehensionLaws.ran_keep_is r s) (λ v p. subst Q (sym p.2) (h (pair p.0 p.1) p.3))

  pub ran_drop_keeps : (r s : List Value) → AllIn Q r → AllIn Q (set.ran_drop r s)
  ran_drop_keeps r s h = all_of (in_relation.InRanDrop r s) Q (set.ran_drop r s) (ComprehensionLaws.ran_drop_is r s) (λ v p. subst Q (sym p.2) (h (pair p.0 p.1) p.3))

  pub overlay_keeps : (f g : List Value) → AllIn Q f → AllIn Q g → AllIn Q (set.overlay f g)
  overlay_keeps f g h k = all_of (in_relation.InOverlay f g) Q (set.overlay f g) (ComprehensionLaws.overlay_is f g) (λ v. ⊎_elim (k v) (λ q. subst Q (sym q.2) (h (pair q.0 q.1) q.3)))

  pub domain_keeps : (r : List Value) → ((x y : Value) → Relates r x y → Q x) → AllIn Q (set.domain r)
  domain_keeps r h = all_of (in_relation.InDomain r) Q (set.domain r) (ComprehensionLaws.domain_is r) (λ v p. h v p.0 p.1)

  pub range_keeps : (r : List Value) → ((x y : Value) → Relates r x y → Q y) → AllIn Q (set.range r)
  range_keeps r h = all_of (in_relation.InRange r) Q (set.range r) (ComprehensionLaws.range_is r) (λ v p. h p.0 v p.1)

  pub image_keeps : (r s : List Value) → ((x y : Value) → Relates r x y → Q y) → AllIn Q (set.image r s)
  image_keeps r s h = all_of (in_relation.InImage r s) Q (set.image r s) (ComprehensionLaws.image_is r s) (λ v p. h p.0 v p.2)

  pub inverse_keeps : (r : List Value) → ((x y : Value) → Relates r x y → Q (pair y x)) → AllIn Q (set.inverse r)
  inverse_keeps r h = all_of (in_relation.InInverse r) Q (set.inverse r) (ComprehensionLaws.inverse_is r) (λ v p. subst Q (sym p.2) (h p.0 p.1 p.3))

  pub cross_keeps : (a b : List Value) → ((x y : Value) → Contains a x → Contains b y → Q (pair x y)) → AllIn Q (set.cross a b)
  cross_keeps a b h = all_of (in_relation.InCross a b) Q (set.cross a b) (ComprehensionLaws.cross_is a b) (λ v p. subst Q (sym p.2) (h p.0 p.1 p.3 p.4))

  pub compose_keeps : (r s : List Value) → ((x y z : Value) → Relates r x y → Relates s y z → Q (pair x z)) → AllIn Q (set.compose r s)
  compose_keeps r s h = all_of (in_relation.InCompose r s) Q (set.compose r s) (ComprehensionLaws.compose_is r s) (λ v p. subst Q (sym p.3) (h p.0 p.1 p.2 p.4 p.5))

  pub direct_keeps : (r s : List Value) → ((x y z : Value) → Relates r x y → Relates s x z → Q (pair x (pair y z))) → AllIn Q (set.direct r s)
  direct_keeps r s h = all_of (in_relation.InDirect r s) Q (set.direct r s) (ComprehensionLaws.direct_is r s) (λ v p. subst Q (sym p.3) (h p.0 p.1 p.2 p.4 p.5))

  pub parallel_keeps : (r s : List Value) → ((x y u z : Value) → Relates r x y → Relates s u z → Q (pair (pair x u) (pair y z))) → AllIn Q (set.parallel r s)
  parallel_keeps r s h = all_of (in_relation.InParallel r s) Q (set.parallel r s) (ComprehensionLaws.parallel_is r s) (λ v p. subst Q (sym p.4) (h p.0 p.1 p.2 p.3 p.5 p.6))

  pub union_of_keeps : (sets : List (List Value)) → ((s : List Value) → Contains sets s → AllIn Q s) → AllIn Q (set.union_of sets)
  union_of_keeps sets h = set_of_keeps (flat_map (λ s. s) sets) (λ v m. let f = contains_flat_map (λ s. s) sets v m in h f.0 f.1 v f.2)

  pub meet_of_keeps : (sets : List (List Value)) (xs : List Value) → ((s : List Value) → Contains sets s → AllIn Q s) → set.meet_of sets ≡ Some xs → AllIn Q xs
  meet_of_keeps [] xs h e = cc
  meet_of_keeps (s ∷ sets) xs h e =
      let kept = filter (λ v. list_all (λ t. set.has t v) sets) s in
      subst (AllIn Q) (same_some (set.set_of kept) xs e) (set_of_keeps kept (λ v m. h s (contains_here s sets s refl) v ((contains_filter (λ v. list_all (λ t. set.has t v) sets) s v).0 m).0))

-- the intersection of sets is ascending
pub meet_of_sorted : (sets : List (List Value)) (xs : List Value) → set.meet_of sets ≡ Some xs → IsSetOf (Contains xs) xs
meet_of_sorted [] xs e = cc
meet_of_sorted (s ∷ sets) xs e =
    let kept = filter (λ v. list_all (λ t. set.has t v) sets) s in
    let sorted = ComprehensionLaws.set_of_is kept in
    subst (λ ys. IsSetOf (Contains ys) ys) (same_some (set.set_of kept) xs e) (record { ascending = sorted.ascending; members = λ v. (λ m. m, λ m. m) })
