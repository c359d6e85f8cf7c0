-- Stores whose domains are in normal form.
use Rattle.std.proofs.Common.{◌≡◌, refl, rules, Bool, true, false, List, Option, Some, None, slice_get, if◌then◌else◌, ◌&&◌}
use Rattle.eb_value.specs.declared.scope.Scope.{Scope}
use Rattle.eb_value.specs.declared.types.EbType.{EbType}
use Rattle.eb_value.specs.declared.value.Value.{Value}
use Rattle.eb_term.specs.declared.problem.Choice.{Choice}
use Rattle.eb_term.specs.declared.problem.Problem.{Problem}
use Rattle.eb_term.specs.declared.term.Term.{Term}
use Rattle.eb_term.specs.Nodes.{nodes_of}
use Rattle.term_types.specs.Types.{type_of}
use Rattle.occ_domains.specs.declared.domain.Domain.{Domain}
use Rattle.occ_domains.specs.declared.domain.Domain.TheVariants as domain
use Rattle.occ_domains.specs.declared.body.Body.{the_lemmas}
use Rattle.occ_domains.specs.Domains.{is_normal, nothing}
use Rattle.occ_domains.specs.Wholes.{whole, first}
use Rattle.occurrences.specs.declared.place.Place.{Place}
use Rattle.occurrences.specs.declared.place.Place.TheVariants as place
use Rattle.occurrences.specs.Stores.{Domains, first_domains, with_domain, choice_domain, term_domain, whole_by, truth_alone, is_fact, same_place, same_values}
use Rattle.domain_store.specs.Boxes.{AreNormal}

-- the first domains of types are in normal form
pub record Firsts : Type 0 where
  pub first : (scope : Scope) (ty : EbType) → is_normal (domain.Values (first scope ty) false) ≡ true
  pub whole : (scope : Scope) (ty : EbType) → is_normal (domain.Values (whole scope ty) true) ≡ true

nothing_normal : is_normal nothing ≡ true
nothing_normal = search (rules, the_lemmas)

of_choice : Firsts → (scope : Scope) (o : Option Choice) → is_normal (choice_domain scope o) ≡ true
of_choice normal scope None = nothing_normal
of_choice normal scope (Some c) = normal.first scope c.ty

of_type : Firsts → (scope : Scope) (o : Option EbType) → is_normal (whole_by scope o) ≡ true
of_type normal scope None = refl
of_type normal scope (Some ty) = normal.whole scope ty

of_term : Firsts → (scope : Scope) (o : Option Term) → is_normal (term_domain scope o) ≡ true
of_term normal scope None = nothing_normal
of_term normal scope (Some t) = of_type normal scope (type_of t)

of_either : (b : Bool) (d e : Domain) → is_normal d ≡ true → is_normal e ≡ true → is_normal (if b then d else e) ≡ true
of_either true d e h k = h
of_either false d e h k = k

first_at : Firsts → (scope : Scope) (p : Problem) (at : Place) (bound : List Value) → is_normal (first_domains scope p at bound) ≡ true
first_at normal scope p (place.Choice k) bound = of_choice normal scope (slice_get p.choices k)
first_at normal scope p (place.Definition k) bound = of_term normal scope (slice_get p.definitions k)
first_at normal scope p (place.Node k) bound = of_either (is_fact p k) (truth_alone true) (term_domain scope (slice_get (nodes_of p) k)) refl (of_term normal scope (slice_get (nodes_of p) k))

pub first_normal : Firsts → (scope : Scope) (p : Problem) → AreNormal (first_domains scope p)
first_normal normal scope p = record { each = λ at bound. first_at normal scope p at bound }

pub with_normal : (at : Domains) (place : Place) (bound : List Value) (d : Domain) → AreNormal at → is_normal d ≡ true → AreNormal (with_domain at place bound d)
with_normal at place bound d normal h = record {
  each = λ other values. of_either (same_place place other && same_values bound values) d (at other values) h (normal.each other values);
}
