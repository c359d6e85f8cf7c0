-- What comes of a reference: what stands at its number.
use Rattle.std.proofs.Common.{◌≡◌, ◌∙◌, refl, sym, ap, subst, ℕ, List, [], ◌∷◌, Option, Some, Contains, arith}
use Rattle.eb_value.specs.declared.scope.Scope.{Scope}
use Rattle.eb_value.specs.declared.types.EbType.{EbType}
use Rattle.eb_term.specs.declared.term.Term.{Term}
use Rattle.eb_term.specs.declared.term.Head.TheOpen as head
use Rattle.eb_term.specs.Terms.{layer}
use Rattle.eb_term.specs.Leaves.{references, references_step}
use Rattle.eb_meaning.specs.Meaning.{Env, Meaning, expression, meaning, meaning_step, slot_at}
use Rattle.term_types.specs.Types.{type_of, type_step}
use Rattle.occ_domains.specs.Domains.{slot}
use Rattle.occurrences.specs.Outcomes.{outcome_by, outcome_of}
use Rattle.sound_rules.proofs.Parts.{mapped, at_layer}

module _ (t : Term) (number : ℕ) (ty : EbType) (is : layer t ≡ head.Reference number ty) where
  its_references : references t ≡ number ∷ []
  unfolding mapped
  its_references = at_layer (List ℕ) references_step t ∙ ap (λ y. references_step (mapped (List ℕ) references_step y)) is

  pub refers : Contains (references t) number
  refers = subst (λ ns. Contains ns number) (sym its_references) (0, omega arith, refl)

  its_type : type_of t ≡ Some ty
  unfolding mapped
  its_type = at_layer (Option EbType) type_step t ∙ ap (λ y. type_step (mapped (Option EbType) type_step y)) is

  its_meaning : (scope : Scope) → meaning scope t ≡ expression (λ env. slot_at env.refs number)
  unfolding mapped
  its_meaning scope = at_layer Meaning (meaning_step scope) t ∙ ap (λ y. meaning_step scope (mapped Meaning (meaning_step scope) y)) is

  pub its_outcome : (scope : Scope) (env : Env) → outcome_of scope env t ≡ slot (slot_at env.refs number)
  its_outcome scope env = ap (λ o. outcome_by o scope env t) its_type ∙ ap (λ m. slot (m.value env)) (its_meaning scope)
