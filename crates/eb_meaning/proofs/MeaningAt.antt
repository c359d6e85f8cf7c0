-- What terms mean, and whether they fit, at each constructor.
use Rattle.std.proofs.Common.{◌≡◌, ◌∙◌, ◌&&◌, ℕ, Bool, List, [], ◌∷◌, map, Some, None, option_map, refl, ap, rules}
use Rattle.std.specs.List.{list_all, flat_map}
use Rattle.eb_value.specs.declared.scope.Scope.{Scope}
use Rattle.eb_value.specs.declared.types.EbType.{EbType}
use Rattle.eb_value.specs.declared.value.Value.{Value}
use Rattle.eb_value.specs.Values.{pair, set}
use Rattle.eb_value.specs.Typing.{has_type}
use Rattle.eb_value.specs.Scopes.{vals}
use Rattle.eb_value.specs.Comprehensions as sets
use Rattle.eb_term.specs.declared.operators.Unary.{Unary}
use Rattle.eb_term.specs.declared.operators.Binary.{Binary}
use Rattle.eb_term.specs.declared.operators.Many.{Many}
use Rattle.eb_term.specs.declared.operators.Binder.{Binder}
use Rattle.eb_term.specs.declared.operators.Infinite.{Infinite}
use Rattle.eb_term.specs.declared.operators.Side.{Side}
use Rattle.eb_term.specs.declared.term.Term.{Term, the_lemmas}
use Rattle.eb_term.specs.Terms as term
use Rattle.eb_meaning.specs.Meaning.{Slot, Env, meaning, value_of, slot_at, variable_at, maplet_of_projection, by_unary, by_binary, by_many, by_binder}
use Rattle.eb_meaning.specs.Fitting.{slot_has_type, fits}

pub value-truth : (scope : Scope) (env : Env) (b : Bool) → value_of scope env (term.truth b) ≡ None
value-truth scope env b = search (rules, the_lemmas)

pub value-literal : (scope : Scope) (env : Env) (v : Value) (t : EbType) → value_of scope env (term.literal v t) ≡ Some v
value-literal scope env v t = search (rules, the_lemmas)

pub value-reference : (scope : Scope) (env : Env) (place : ℕ) (t : EbType) → value_of scope env (term.reference place t) ≡ slot_at env.refs place
value-reference scope env place t = search (rules, the_lemmas)

pub value-variable : (scope : Scope) (env : Env) (k : ℕ) (path : List Side) (t : EbType) → value_of scope env (term.variable k path t) ≡ variable_at env k path
value-variable scope env k path t = search (rules, the_lemmas)

pub value-infinite : (scope : Scope) (env : Env) (i : Infinite) → value_of scope env (term.infinite i) ≡ None
value-infinite scope env i = search (rules, the_lemmas)

pub value-identity : (scope : Scope) (env : Env) (t : EbType) → value_of scope env (term.identity t) ≡ Some (set (sets.set_of (map (λ x. pair x x) (vals scope t))))
value-identity scope env t = search (rules, the_lemmas)

pub value-projection : (scope : Scope) (env : Env) (s : Side) (a b : EbType) → value_of scope env (term.projection s a b) ≡ Some (set (sets.set_of (flat_map (λ x. map (maplet_of_projection s x) (vals scope b)) (vals scope a))))
value-projection scope env s a b = search (rules, the_lemmas)

pub meaning-unary : (scope : Scope) (o : Unary) (a : Term) → meaning scope (term.unary o a) ≡ by_unary o (meaning scope a)
meaning-unary scope o a = search (rules, the_lemmas)

pub meaning-binary : (scope : Scope) (o : Binary) (a b : Term) → meaning scope (term.binary o a b) ≡ by_binary o (meaning scope a) (meaning scope b)
meaning-binary scope o a b = search (rules, the_lemmas)

pub meaning-many : (scope : Scope) (o : Many) (es : List Term) → meaning scope (term.many o es) ≡ by_many o (map (meaning scope) es)
meaning-many scope o es = search (rules, the_lemmas)

pub meaning-over : (scope : Scope) (o : Binder) (range body : Term) → meaning scope (term.over o range body) ≡ by_binder o (λ env. option_map sets.members (value_of scope env range)) (meaning scope body)
meaning-over scope o range body = search (rules, the_lemmas)

pub meaning-all : (scope : Scope) (o : Binder) (t : EbType) (body : Term) → meaning scope (term.all o t body) ≡ by_binder o (λ env. Some (vals scope t)) (meaning scope body)
meaning-all scope o t body = search (rules, the_lemmas)

pub fits-literal : (scope : Scope) (refs : List Slot) (v : Value) (t : EbType) → fits scope refs (term.literal v t) ≡ has_type scope v t
fits-literal scope refs v t = search (rules, the_lemmas)

pub fits-reference : (scope : Scope) (refs : List Slot) (place : ℕ) (t : EbType) → fits scope refs (term.reference place t) ≡ slot_has_type scope (slot_at refs place) t
fits-reference scope refs place t = search (rules, the_lemmas)

pub fits-unary : (scope : Scope) (refs : List Slot) (o : Unary) (a : Term) → fits scope refs (term.unary o a) ≡ fits scope refs a
fits-unary scope refs o a = search (rules, the_lemmas)

pub fits-binary : (scope : Scope) (refs : List Slot) (o : Binary) (a b : Term) → fits scope refs (term.binary o a b) ≡ (fits scope refs a && fits scope refs b)
fits-binary scope refs o a b = search (rules, the_lemmas)

fits-many_by : (scope : Scope) (refs : List Slot) (o : Many) (es : List Term) → fits scope refs (term.many o es) ≡ list_all (λ b. b) (map (fits scope refs) es)
fits-many_by scope refs o es = search (rules, the_lemmas)

all-map : (p : Term → Bool) (es : List Term) → list_all (λ b. b) (map p es) ≡ list_all p es
all-map p [] = refl
all-map p (e ∷ es) = ap (λ b. p e && b) (all-map p es)

pub fits-many : (scope : Scope) (refs : List Slot) (o : Many) (es : List Term) → fits scope refs (term.many o es) ≡ list_all (fits scope refs) es
fits-many scope refs o es = fits-many_by scope refs o es ∙ all-map (fits scope refs) es

pub fits-over : (scope : Scope) (refs : List Slot) (o : Binder) (range body : Term) → fits scope refs (term.over o range body) ≡ (fits scope refs range && fits scope refs body)
fits-over scope refs o range body = search (rules, the_lemmas)

pub fits-all : (scope : Scope) (refs : List Slot) (o : Binder) (t : EbType) (body : Term) → fits scope refs (term.all o t body) ≡ fits scope refs body
fits-all scope refs o t body = search (rules, the_lemmas)
