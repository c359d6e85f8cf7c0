-- Terms whose literals and references fit.
use Rattle.std.proofs.Common.{◌≡◌, ◌∙◌, ℤ, Bool, true, false, ◌&&◌, List, [], ◌∷◌, map, refl, ap, ap₂, rules}
use Rattle.std.specs.List.{list_all, AllByRecursion}
use Rattle.eb_value.specs.declared.scope.Scope.{Scope}
use Rattle.eb_value.specs.declared.types.EbType.{EbType}
use Rattle.eb_value.specs.declared.types.EbType as type_module
use Rattle.eb_value.specs.declared.types.Shape.TheOpen as ty
use Rattle.eb_value.specs.declared.value.Value.{Value}
use Rattle.eb_value.specs.declared.value.Value as value_module
use Rattle.eb_value.specs.declared.value.Form.TheOpen as val
use Rattle.eb_value.specs.Types.{integer, boolean, power}
use Rattle.eb_value.specs.Values.{layer, int, truth, set, is_ascending}
use Rattle.eb_value.specs.Typing.{in_range, has_type, typed_step}
use Rattle.eb_term.specs.declared.operators.Unary.{Unary}
use Rattle.eb_term.specs.declared.operators.Unary.TheVariants as unary
use Rattle.eb_term.specs.declared.operators.Binary.{Binary}
use Rattle.eb_term.specs.declared.operators.Binary.TheVariants as binary
use Rattle.eb_term.specs.declared.operators.Many.{Many}
use Rattle.eb_term.specs.declared.operators.Many.TheVariants as many
use Rattle.eb_term.specs.declared.operators.Binder.{Binder}
use Rattle.eb_term.specs.declared.term.Term.{Term, the_lemmas}
use Rattle.eb_term.specs.Terms as term
use Rattle.eb_meaning.specs.Meaning.{Slot}
use Rattle.eb_meaning.specs.Fitting.{fits}
use Rattle.typed_lowering.proofs.Judging.{Judges}

both_true : (a b : Bool) → a ≡ true → b ≡ true → (a && b) ≡ true
both_true a b x y = ap₂ (λ p q. p && q) x y

int-layer : (n : ℤ) → layer (int n) ≡ val.Int n
int-layer n = search (rules, value_module.the_lemmas)

truth-layer : (b : Bool) → layer (truth b) ≡ val.Bool b
truth-layer b = search (rules, value_module.the_lemmas)

set-layer : (xs : List Value) → layer (set xs) ≡ val.Set xs
set-layer xs = search (rules, value_module.the_lemmas)

at_integer : (scope : Scope) (v : Value) → has_type scope v integer ≡ typed_step scope.sizes ty.Integer (layer v)
at_integer scope v = search (rules, type_module.the_lemmas)

at_boolean : (scope : Scope) (v : Value) → has_type scope v boolean ≡ typed_step scope.sizes ty.Bool (layer v)
at_boolean scope v = search (rules, type_module.the_lemmas)

at_power : (scope : Scope) (t : EbType) (v : Value) → has_type scope v (power t) ≡ typed_step scope.sizes (ty.Power (λ w. has_type scope w t)) (layer v)
at_power scope t v = search (rules, type_module.the_lemmas)

integer_typed : (scope : Scope) (n : ℤ) → in_range n ≡ true → has_type scope (int n) integer ≡ true
integer_typed scope n e = at_integer scope (int n) ∙ ap (typed_step scope.sizes ty.Integer) (int-layer n) ∙ e

truth_typed : (scope : Scope) (b : Bool) → has_type scope (truth b) boolean ≡ true
truth_typed scope b = at_boolean scope (truth b) ∙ ap (typed_step scope.sizes ty.Bool) (truth-layer b)

set_typed : (scope : Scope) (t : EbType) (xs : List Value) → is_ascending xs ≡ true → list_all (λ v. has_type scope v t) xs ≡ true → has_type scope (set xs) (power t) ≡ true
set_typed scope t xs a e =
    at_power scope t (set xs) ∙ ap (typed_step scope.sizes (ty.Power (λ w. has_type scope w t))) (set-layer xs)
    ∙ both_true (is_ascending xs) (list_all (λ v. has_type scope v t) xs) a e

truths_ascend : is_ascending (truth false ∷ truth true ∷ []) ≡ true
truths_ascend = search (rules, value_module.the_lemmas)

booleans_typed : (scope : Scope) → has_type scope (set (truth false ∷ truth true ∷ [])) (power boolean) ≡ true
booleans_typed scope = set_typed scope boolean (truth false ∷ truth true ∷ []) truths_ascend
    (both_true (has_type scope (truth false) boolean) (has_type scope (truth true) boolean && true) (truth_typed scope false) (both_true (has_type scope (truth true) boolean) true (truth_typed scope true) refl))

module _ (scope : Scope) (refs : List Slot) where
  fits-literal : (v : Value) (t : EbType) → fits scope refs (term.literal v t) ≡ has_type scope v t
  fits-literal v t = search (rules, the_lemmas)

  fits-unary : (o : Unary) (a : Term) → fits scope refs (term.unary o a) ≡ fits scope refs a
  fits-unary o a = search (rules, the_lemmas)

  fits-binary : (o : Binary) (a b : Term) → fits scope refs (term.binary o a b) ≡ (fits scope refs a && fits scope refs b)
  fits-binary o a b = search (rules, the_lemmas)

  fits-many : (o : Many) (es : List Term) → fits scope refs (term.many o es) ≡ list_all (λ b. b) (map (fits scope refs) es)
  fits-many o es = search (rules, the_lemmas)

  fits-over : (o : Binder) (e b : Term) → fits scope refs (term.over o e b) ≡ (fits scope refs e && fits scope refs b)
  fits-over o e b = search (rules, the_lemmas)

  fits-all : (o : Binder) (t : EbType) (b : Term) → fits scope refs (term.all o t b) ≡ fits scope refs b
  fits-all o t b = search (rules, the_lemmas)

  each_fits : (es : List Term) → AllByRecursion (λ e. fits scope refs e ≡ true) es → list_all (λ b. b) (map (fits scope refs) es) ≡ true
  each_fits [] h = refl
  each_fits (e ∷ es) h = both_true (fits scope refs e) (list_all (λ b. b) (map (fits scope refs) es)) h.0 (each_fits es h.1)

  pub fitting_judges : Judges (λ bound e r. fits scope refs e ≡ true)
  fitting_judges = record {
    truth = λ bound b. search (rules, the_lemmas);
    int_literal = λ bound n e. fits-literal (int n) integer ∙ integer_typed scope n e;
    empty_literal = λ bound t. fits-literal (set []) (power t) ∙ set_typed scope t [] refl refl;
    truth_literal = λ bound b. fits-literal (truth b) boolean ∙ truth_typed scope b;
    truths_literal = λ bound. fits-literal (set (truth false ∷ truth true ∷ [])) (power boolean) ∙ booleans_typed scope;
    variable = λ bound k path whole t e f. search (rules, the_lemmas);
    infinite = λ bound i. search (rules, the_lemmas);
    identity = λ bound t. search (rules, the_lemmas);
    projection = λ bound x a b. search (rules, the_lemmas);
    prefix = λ bound a o v x. fits-unary (unary.Prefix o) a ∙ x;
    call = λ bound a o v x. fits-unary (unary.Call o) a ∙ x;
    inverse = λ bound a v x. fits-unary unary.Inverse a ∙ x;
    operator = λ bound a b o v x y. fits-binary (binary.Operator o) a b ∙ both_true (fits scope refs a) (fits scope refs b) x y;
    where_true = λ bound p s t x y. fits-binary binary.If p s ∙ both_true (fits scope refs p) (fits scope refs s) x y;
    extension = λ bound e es t x. fits-many many.Extension (e ∷ es) ∙ each_fits (e ∷ es) x;
    partition = λ bound e es t x. fits-many many.Partition (e ∷ es) ∙ each_fits (e ∷ es) x;
    over = λ bound e b o r t i x y. fits-over o e b ∙ both_true (fits scope refs e) (fits scope refs b) x y;
    all = λ bound b o r t i y. fits-all o t b ∙ y;
  }
