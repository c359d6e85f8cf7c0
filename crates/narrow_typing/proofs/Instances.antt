-- What is judged of narrow terms: that they are typed, and that their literals and references fit.
use Rattle.std.proofs.Common.{◌≡◌, ◌∙◌, refl, sym, ap, ap₂, ℤ, Bool, true, ◌&&◌, List, [], ◌∷◌, ◌++◌, length, map, rules}
use Rattle.std.specs.Prelude.{⊤}
use Rattle.std.specs.List.{list_all, AllByRecursion}
use Rattle.std.specs.Cmp.{first_so, second_so}
use Rattle.eb_value.specs.declared.scope.Scope.{Scope}
use Rattle.eb_value.specs.declared.types.EbType.{EbType}
use Rattle.eb_value.specs.declared.types.EbType as type_module
use Rattle.eb_value.specs.declared.types.Shape.TheOpen as ty
use Rattle.eb_value.specs.declared.value.Value.{Value}
use Rattle.eb_value.specs.declared.value.Value as value_module
use Rattle.eb_value.specs.declared.value.Form.TheOpen as val
use Rattle.eb_value.specs.Types.{integer, power}
use Rattle.eb_value.specs.Values.{layer, int, set}
use Rattle.eb_value.specs.Typing.{in_range, has_type, typed_step}
use Rattle.type_table.specs.Rows.{Sort, expression}
use Rattle.eb_term.specs.declared.operators.Unary.{Unary}
use Rattle.eb_term.specs.declared.operators.Unary.TheVariants as unary
use Rattle.eb_term.specs.declared.operators.Binary.{Binary}
use Rattle.eb_term.specs.declared.operators.Binary.TheVariants as binary
use Rattle.eb_term.specs.declared.operators.Many.{Many}
use Rattle.eb_term.specs.declared.operators.Many.TheVariants as many
use Rattle.eb_term.specs.declared.operators.Binder.{Binder}
use Rattle.eb_term.specs.declared.term.Term.{Term}
use Rattle.eb_term.specs.declared.term.Head.{the_lemmas}
use Rattle.eb_term.specs.Terms as term
use Rattle.eb_term.specs.Typed.{HasSort, HaveSort}
use Rattle.eb_term.specs.Typed as typing
use Rattle.eb_meaning.specs.Meaning.{Slot}
use Rattle.eb_meaning.specs.Fitting.{fits, fits_step}
use Rattle.narrow_typing.proofs.Judging.{Judges, Gives, BindsAt, exists, collects}
use Rattle.narrow_typing.proofs.Shifted.{kept, typed_shifted}

-- ---- typed

have_sort : (bound : List EbType) (r : Sort) (es : List Term) → AllByRecursion (λ e. HasSort bound e r) es → HaveSort bound es r
have_sort bound r [] h = typing.none
have_sort bound r (e ∷ es) h = typing.more h.0 (have_sort bound r es h.1)

over_typed : {o : Binder} {r : Sort} (bound : List EbType) (e b : Term) (t : EbType) → BindsAt o r → HasSort bound e (expression (power t)) → HasSort (bound ++ t ∷ []) b r → HasSort bound (term.over o e b) r
over_typed bound e b t exists x y = typing.quantified_over _ t typing.exists x y
over_typed bound e b t (collects u) x y = typing.collected_over t u x y

all_typed : {o : Binder} {r : Sort} (bound : List EbType) (b : Term) (t : EbType) → BindsAt o r → HasSort (bound ++ t ∷ []) b r → HasSort bound (term.all o t b) r
all_typed bound b t exists y = typing.quantified _ t typing.exists y
all_typed bound b t (collects u) y = typing.collected t u y

pub typed_judges : Judges HasSort
typed_judges = record {
  truth = λ bound b. typing.truth b;
  int_literal = λ bound n e. typing.literal (int n) integer;
  no_members = λ bound t. typing.literal (set []) (power t);
  variable = λ bound k path whole t e f. typing.variable k path whole t e f;
  prefix = λ bound a o v x. typing.prefix o v x;
  call = λ bound a o v x. typing.call o v x;
  inverse = λ bound a v x. typing.inverse v x;
  defined = λ bound a t x. typing.defined t x;
  functional = λ bound a s t x. typing.functional s t x;
  part = λ bound a x s t h. typing.part x s t h;
  operator = λ bound a b o v x y. typing.operator o v x y;
  both = λ bound p q x y. typing.both x y;
  where_true = λ bound p s t x y. typing.«if» t x y;
  extension = λ bound e es t x. typing.extension t (have_sort bound (expression t) (e ∷ es) x);
  over = λ bound e b o r t i x y. over_typed bound e b t i x y;
  all = λ bound b o r t i y. all_typed bound b t i y;
  shifted = typed_shifted;
}

abbrev pub Any : Term → Type 0
Any t = ⊤

each_any : (es : List Term) → AllByRecursion Any es
each_any [] = tt
each_any (e ∷ es) = (tt, each_any es)

pub typed_leaves : Gives HasSort Any
typed_leaves = record {
  literal = λ bound v t l. typing.literal v t;
  reference = λ bound place t l. typing.reference place t;
  unary = λ o a l. tt;
  left = λ o a b l. tt;
  right = λ o a b l. tt;
  many = λ o es l. each_any es;
  range = λ o e b l. tt;
  body = λ o e b l. tt;
  all = λ o t b l. tt;
}

-- ---- literals and references fit

both_true : (a b : Bool) → a ≡ true → b ≡ true → (a && b) ≡ true
both_true a b x y = ap₂ (λ p q. p && q) x y

int-layer : (n : ℤ) → layer (int n) ≡ val.Int n
int-layer n = search (rules, value_module.the_lemmas)

set-layer : (xs : List Value) → layer (set xs) ≡ val.Set xs
set-layer xs = search (rules, value_module.the_lemmas)

at_integer : (scope : Scope) (v : Value) → has_type scope v integer ≡ typed_step scope.sizes ty.Integer (layer v)
at_integer scope v = search (rules, type_module.the_lemmas)

at_power : (scope : Scope) (t : EbType) (v : Value) → has_type scope v (power t) ≡ typed_step scope.sizes (ty.Power (λ w. has_type scope w t)) (layer v)
at_power scope t v = search (rules, type_module.the_lemmas)

integer_typed : (scope : Scope) (n : ℤ) → in_range n ≡ true → has_type scope (int n) integer ≡ true
integer_typed scope n e = at_integer scope (int n) ∙ ap (typed_step scope.sizes ty.Integer) (int-layer n) ∙ e

none_typed : (scope : Scope) (t : EbType) → has_type scope (set []) (power t) ≡ true
none_typed scope t = at_power scope t (set []) ∙ ap (typed_step scope.sizes (ty.Power (λ w. has_type scope w t))) (set-layer [])

module _ (scope : Scope) (refs : List Slot) where
  fits-literal : (v : Value) (t : EbType) → fits scope refs (term.literal v t) ≡ has_type scope v t
  fits-literal v t = search (rules, the_lemmas)

  fits-unary : (o : Unary) (a : Term) → fits scope refs (term.unary o a) ≡ fits scope refs a
  fits-unary o a = search (rules, the_lemmas)

  fits-binary : (o : Binary) (a b : Term) → fits scope refs (term.binary o a b) ≡ (fits scope refs a && fits scope refs b)
  fits-binary o a b = search (rules, the_lemmas)

  fits-many : (o : Many) (es : List Term) → fits scope refs (term.many o es) ≡ list_all (λ b. b) (map (fits scope refs) es)
  fits-many o es = search (rules, the_lemmas)

  fits-over : (o : Binder) (e b : Term) → fits scope refs (term.over o e b) ≡ (fits scope refs e && fits scope refs b)
  fits-over o e b = search (rules, the_lemmas)

  fits-all : (o : Binder) (t : EbType) (b : Term) → fits scope refs (term.all o t b) ≡ fits scope refs b
  fits-all o t b = search (rules, the_lemmas)

  each_fits : (es : List Term) → AllByRecursion (λ e. fits scope refs e ≡ true) es → list_all (λ b. b) (map (fits scope refs) es) ≡ true
  each_fits [] h = refl
  each_fits (e ∷ es) h = both_true (fits scope refs e) (list_all (λ b. b) (map (fits scope refs) es)) h.0 (each_fits es h.1)

  fits_each : (es : List Term) → list_all (λ b. b) (map (fits scope refs) es) ≡ true → AllByRecursion (λ e. fits scope refs e ≡ true) es
  fits_each [] h = tt
  fits_each (e ∷ es) h =
      let rest : Bool = list_all (λ b. b) (map (fits scope refs) es) in
      (first_so (fits scope refs e) rest h, fits_each es (second_so (fits scope refs e) rest h))

  pub fitting_judges : Judges (λ bound e r. fits scope refs e ≡ true)
  fitting_judges = record {
    truth = λ bound b. search (rules, the_lemmas);
    int_literal = λ bound n e. fits-literal (int n) integer ∙ integer_typed scope n e;
    no_members = λ bound t. fits-literal (set []) (power t) ∙ none_typed scope t;
    variable = λ bound k path whole t e f. search (rules, the_lemmas);
    prefix = λ bound a o v x. fits-unary (unary.Prefix o) a ∙ x;
    call = λ bound a o v x. fits-unary (unary.Call o) a ∙ x;
    inverse = λ bound a v x. fits-unary unary.Inverse a ∙ x;
    defined = λ bound a t x. fits-unary unary.Defined a ∙ x;
    functional = λ bound a s t x. fits-unary unary.Functional a ∙ x;
    part = λ bound a x s t h. fits-unary (unary.Part x) a ∙ h;
    operator = λ bound a b o v x y. fits-binary (binary.Operator o) a b ∙ both_true (fits scope refs a) (fits scope refs b) x y;
    both = λ bound p q x y. fits-binary binary.Both p q ∙ both_true (fits scope refs p) (fits scope refs q) x y;
    where_true = λ bound p s t x y. fits-binary binary.If p s ∙ both_true (fits scope refs p) (fits scope refs s) x y;
    extension = λ bound e es t x. fits-many many.Extension (e ∷ es) ∙ each_fits (e ∷ es) x;
    over = λ bound e b o r t i x y. fits-over o e b ∙ both_true (fits scope refs e) (fits scope refs b) x y;
    all = λ bound b o r t i y. fits-all o t b ∙ y;
    shifted = λ bound more a s h. kept Bool (fits_step scope refs) (λ j k path t. refl) (length bound) (length more) a ∙ h;
  }

  pub fitting_leaves : Gives (λ bound e r. fits scope refs e ≡ true) (λ e. fits scope refs e ≡ true)
  fitting_leaves = record {
    literal = λ bound v t l. l;
    reference = λ bound place t l. l;
    unary = λ o a l. sym (fits-unary o a) ∙ l;
    left = λ o a b l. first_so (fits scope refs a) (fits scope refs b) (sym (fits-binary o a b) ∙ l);
    right = λ o a b l. second_so (fits scope refs a) (fits scope refs b) (sym (fits-binary o a b) ∙ l);
    many = λ o es l. fits_each es (sym (fits-many o es) ∙ l);
    range = λ o e b l. first_so (fits scope refs e) (fits scope refs b) (sym (fits-over o e b) ∙ l);
    body = λ o e b l. second_so (fits scope refs e) (fits scope refs b) (sym (fits-over o e b) ∙ l);
    all = λ o t b l. sym (fits-all o t b) ∙ l;
  }
