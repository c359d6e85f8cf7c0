-- Down to a part of a typed node keeps what comes of it.
use Rattle.std.proofs.Common.{◌≡◌, ◌∙◌, ℕ, zero, suc, ◌+◌, Bool, true, false, ◌&&◌, List, ◌∷◌, slice_get, Option, Some, None, refl, sym, ap}
use Rattle.std.specs.Cmp.{first_so, second_so}
use Rattle.eb_syntax.specs.declared.ast.Prefix.TheVariants as prefix
use Rattle.eb_value.specs.declared.scope.Scope.{Scope}
use Rattle.eb_value.specs.declared.types.EbType.{EbType}
use Rattle.eb_value.specs.declared.value.Value.{Value}
use Rattle.eb_value.specs.Types.{product}
use Rattle.type_table.specs.Rows.{Sort, predicate}
use Rattle.eb_term.specs.declared.operators.Unary.{Unary}
use Rattle.eb_term.specs.declared.operators.Unary.TheVariants as unary
use Rattle.eb_term.specs.declared.operators.Binary.{Binary}
use Rattle.eb_term.specs.declared.operators.Binary.TheVariants as binary
use Rattle.eb_term.specs.declared.operators.Many.TheVariants as many
use Rattle.eb_term.specs.declared.operators.Binder.TheVariants as binder
use Rattle.eb_term.specs.declared.operators.Side.TheVariants as side
use Rattle.eb_term.specs.declared.term.Term.{Term}
use Rattle.eb_term.specs.declared.term.Head.TheOpen as head
use Rattle.eb_term.specs.Terms as term
use Rattle.eb_term.specs.Terms.{Layer, layer}
use Rattle.eb_term.specs.Typed as typed
use Rattle.eb_term.specs.Typed.{HasSort, of_two}
use Rattle.eb_meaning.specs.Meaning.{Slot}
use Rattle.eb_meaning.specs.Fitting.{fits}
use Rattle.problem_nodes.specs.Places.{parts, parts_of_layer, size, starts}
use Rattle.occ_domains.specs.declared.domain.Domain.{Domain}
use Rattle.occ_domains.specs.Domains.{Outcome, has}
use Rattle.occ_domains.specs.Wholes.{whole}
use Rattle.rules_base.specs.declared.connective.Connective.TheVariants as connective
use Rattle.rules_base.specs.declared.rule.UnaryRule.{UnaryRule}
use Rattle.rules_base.specs.declared.rule.BinaryRule.{BinaryRule}
use Rattle.rules_base.specs.Operators.{unary_rule, binary_rule}
use Rattle.rules_base.specs.Outcomes.{of_one, is_ranged}
use Rattle.rules_base.specs.Outcomes.{of_two as of_both}
use Rattle.occurrences.specs.declared.place.Place.TheVariants as place
use Rattle.occurrences.specs.Binding.{binds_layer}
use Rattle.occurrences.specs.Stores.{Domains}
use Rattle.occurrences.specs.Outcomes.{env_of, outcome_of}
use Rattle.node_rules.specs.Nodes.{down_unary, down_binary, down_layer}
use Rattle.node_rules.specs.Sound.{PartsHave}
use Rattle.node_rules.proofs.UpSound.{Laws, ranged, layer-unary, layer-binary, layer-truth, layer-literal, layer-reference, layer-variable, layer-infinite, layer-identity, layer-projection, layer-many, layer-over, layer-all, fits-binary, Comes, Come, not_comes, defined_comes, part_comes, connective_comes, operator_comes, call_comes, no_rule, no_two}

module _ (scope : Scope) (refs : List Slot) (bound : List Value) (types : List EbType) (laws : Laws scope refs bound types) (at : Domains) (k : ℕ) where
  abbrev outcome : Term → Outcome
  outcome t = outcome_of scope (env_of refs bound) t

  -- Down to the part at this place keeps what comes of it
  abbrev Keeps : Term → Type 0
  Keeps t = (number : ℕ) (u : Term) (d : Domain) → slice_get (parts t) number ≡ Some u → has d (outcome u) ≡ true → has (at (place.Node k) bound) (outcome t) ≡ true
      → has (down_layer at k bound number (layer t) d) (outcome u) ≡ true

  some_is : (t u : Term) → Some t ≡ Some u → u ≡ t
  some_is t u e = cc

  unary_keeps : (o : Unary) (a : Term) → Comes scope refs bound types laws o a → Keeps (term.unary o a)
  unary_keeps o a comes zero u d e h w = rw (layer-unary o a) (by (unary_rule o) refl) where
    same : u ≡ a
    same = some_is a u (sym (ap (λ l. slice_get (parts_of_layer l) 0) (layer-unary o a)) ∙ e)

    by : (r : Option UnaryRule) → unary_rule o ≡ r → has (down_unary (unary_rule o) (at (place.Node k) bound) d) (outcome u) ≡ true
    by None f = rw f h
    by (Some rule) f = rw f (laws.down_one rule (at (place.Node k) bound) d (outcome u) (outcome (term.unary o a)) h (ap (λ t. of_one rule (outcome t)) same ∙ comes rule f) w)
  unary_keeps o a comes (suc zero) u d e h w = rw (layer-unary o a) h
  unary_keeps o a comes (suc (suc n)) u d e h w = h

  binary_keeps : (o : Binary) (a b : Term) (p q : Sort) → HasSort types a p → HasSort types b q → Come scope refs bound types laws o a b → fits scope refs (term.binary o a b) ≡ true
      → PartsHave scope at refs bound k (term.binary o a b) → Keeps (term.binary o a b)
  binary_keeps o a b p q i j comes f ps zero u d e h w = rw (layer-binary o a b) (by (binary_rule o) refl) where
    both : (fits scope refs a && fits scope refs b) ≡ true
    both = sym (fits-binary scope refs o a b) ∙ f

    same : u ≡ a
    same = some_is a u (sym (ap (λ l. slice_get (parts_of_layer l) 0) (layer-binary o a b)) ∙ e)

    second : has (at (place.Node (suc k + size a)) bound) (outcome b) ≡ true
    second = ps 1 (suc k + size a) b (ap (λ l. slice_get (parts_of_layer l) 1) (layer-binary o a b)) (ap (λ l. slice_get (starts (suc k) (parts_of_layer l)) 1) (layer-binary o a b)) (ap (λ l. binds_layer l 1) (layer-binary o a b))

    by : (r : Option BinaryRule) → binary_rule o ≡ r → has (down_binary (binary_rule o) side.First (at (place.Node k) bound) d (at (place.Node (suc k + size a)) bound)) (outcome u) ≡ true
    by None g = rw g h
    by (Some rule) g = rw g (laws.down_two rule side.First (at (place.Node k) bound) d (at (place.Node (suc k + size a)) bound) (outcome u) (outcome b) (outcome (term.binary o a b))
        (ap (λ t. is_ranged (outcome t)) same ∙ ranged scope refs bound types laws a p i (first_so (fits scope refs a) (fits scope refs b) both)) (ranged scope refs bound types laws b q j (second_so (fits scope refs a) (fits scope refs b) both))
        h second (ap (λ t. of_both rule (outcome t) (outcome b)) same ∙ comes rule g) w)
  binary_keeps o a b p q i j comes f ps (suc zero) u d e h w = rw (layer-binary o a b) (by (binary_rule o) refl) where
    both : (fits scope refs a && fits scope refs b) ≡ true
    both = sym (fits-binary scope refs o a b) ∙ f

    same : u ≡ b
    same = some_is b u (sym (ap (λ l. slice_get (parts_of_layer l) 1) (layer-binary o a b)) ∙ e)

    first : has (at (place.Node (suc k)) bound) (outcome a) ≡ true
    first = ps 0 (suc k) a (ap (λ l. slice_get (parts_of_layer l) 0) (layer-binary o a b)) (ap (λ l. slice_get (starts (suc k) (parts_of_layer l)) 0) (layer-binary o a b)) (ap (λ l. binds_layer l 0) (layer-binary o a b))

    by : (r : Option BinaryRule) → binary_rule o ≡ r → has (down_binary (binary_rule o) side.Second (at (place.Node k) bound) d (at (place.Node (suc k)) bound)) (outcome u) ≡ true
    by None g = rw g h
    by (Some rule) g = rw g (laws.down_two rule side.Second (at (place.Node k) bound) d (at (place.Node (suc k)) bound) (outcome u) (outcome a) (outcome (term.binary o a b))
        (ap (λ t. is_ranged (outcome t)) same ∙ ranged scope refs bound types laws b q j (second_so (fits scope refs a) (fits scope refs b) both)) (ranged scope refs bound types laws a p i (first_so (fits scope refs a) (fits scope refs b) both))
        h first (ap (λ t. of_both rule (outcome a) (outcome t)) same ∙ comes rule g) w)
  binary_keeps o a b p q i j comes f ps (suc (suc n)) u d e h w = h

  -- no part of another node has a rule
  abbrev is_other : Layer → Bool
  is_other (head.Unary o a) = false
  is_other (head.Binary o a b) = false
  is_other _ = true

  other_layer : (l : Layer) (number : ℕ) (d : Domain) → is_other l ≡ true → down_layer at k bound number l d ≡ d
  other_layer (head.Unary o a) number d e = cc
  other_layer (head.Binary o a b) number d e = cc
  other_layer _ zero d e = refl
  other_layer _ (suc zero) d e = refl
  other_layer _ (suc (suc n)) d e = refl

  other : (t : Term) → is_other (layer t) ≡ true → Keeps t
  other t o number u d e h w = rw (other_layer (layer t) number d o) h

  pub down_has : (t : Term) (s : Sort) → HasSort types t s → fits scope refs t ≡ true → PartsHave scope at refs bound k t → Keeps t
  down_has _ _ (typed.truth b) f ps = other (term.truth b) (ap is_other (layer-truth b))
  down_has _ _ (typed.literal v ty) f ps = other (term.literal v ty) (ap is_other (layer-literal v ty))
  down_has _ _ (typed.reference n ty) f ps = other (term.reference n ty) (ap is_other (layer-reference n ty))
  down_has _ _ (typed.variable n path whole ty e g) f ps = other (term.variable n path ty) (ap is_other (layer-variable n path ty))
  down_has _ _ (typed.infinite i) f ps = other (term.infinite i) (ap is_other (layer-infinite i))
  down_has _ _ (typed.identity ty) f ps = other (term.identity ty) (ap is_other (layer-identity ty))
  down_has _ _ (typed.projection x a b) f ps = other (term.projection x a b) (ap is_other (layer-projection x a b))
  down_has t s (typed.prefix {a = a} prefix.Not v h) f ps = unary_keeps (unary.Prefix prefix.Not) a (not_comes scope refs bound types laws a h (typed.prefix prefix.Not v h))
  down_has t s (typed.prefix {a = a} prefix.Minus v h) f ps = unary_keeps (unary.Prefix prefix.Minus) a (no_rule scope refs bound types laws (unary.Prefix prefix.Minus) a refl)
  down_has t s (typed.call {a = a} o v h) f ps = unary_keeps (unary.Call o) a (call_comes scope refs bound types laws o v a h (typed.call o v h))
  down_has t s (typed.inverse {a = a} v h) f ps = unary_keeps unary.Inverse a (no_rule scope refs bound types laws unary.Inverse a refl)
  down_has t s (typed.defined {a = a} ty h) f ps = unary_keeps unary.Defined a (defined_comes scope refs bound types laws a ty h (typed.defined ty h))
  down_has t s (typed.functional {a = a} x y h) f ps = unary_keeps unary.Functional a (no_rule scope refs bound types laws unary.Functional a refl)
  down_has t s (typed.part {a = a} x u w h) f ps = unary_keeps (unary.Part x) a (part_comes scope refs bound types laws a x (of_two x u w) (product u w) h (typed.part x u w h))
  down_has t s (typed.operator {a = a} {b = b} o v h g) f ps =
      binary_keeps (binary.Operator o) a b _ _ h g (operator_comes scope refs bound types laws o v a b h g (typed.operator o v h g)) f ps
  down_has t s (typed.both {p = p} {q = q} h g) f ps =
      binary_keeps binary.Both p q predicate predicate h g (connective_comes scope refs bound types laws binary.Both connective.Both p q refl h g (typed.both h g) refl) f ps
  down_has t s (typed.if {p = p} {s = e} ty h g) f ps = binary_keeps binary.If p e _ _ h g (no_two scope refs bound types laws binary.If p e refl) f ps
  down_has t s (typed.extension {e = e} {es = es} ty h) f ps = other (term.many many.Extension (e ∷ es)) (ap is_other (layer-many many.Extension (e ∷ es)))
  down_has t s (typed.partition {e = e} {es = es} ty h) f ps = other (term.many many.Partition (e ∷ es)) (ap is_other (layer-many many.Partition (e ∷ es)))
  down_has t s (typed.quantified_over {e = e} {p = p} o ty q h g) f ps = other (term.over o e p) (ap is_other (layer-over o e p))
  down_has t s (typed.quantified {p = p} o ty q h) f ps = other (term.all o ty p) (ap is_other (layer-all o ty p))
  down_has t s (typed.collected_over {e = e} {s = b} ty u h g) f ps = other (term.over binder.Collect e b) (ap is_other (layer-over binder.Collect e b))
  down_has t s (typed.collected {s = b} ty u h) f ps = other (term.all binder.Collect ty b) (ap is_other (layer-all binder.Collect ty b))
