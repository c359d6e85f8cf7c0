-- Terms that are typed.
use Rattle.std.proofs.Common.{List, [], ◌∷◌, ◌++◌}
use Rattle.std.specs.List.{AllByRecursion}
use Rattle.eb_value.specs.declared.types.EbType.{EbType}
use Rattle.eb_value.specs.Types.{integer, boolean, power}
use Rattle.eb_value.specs.Values as value
use Rattle.eb_value.specs.Values.{int}
use Rattle.type_table.specs.Rows.{Sort, expression}
use Rattle.eb_term.specs.declared.operators.Binder.{Binder}
use Rattle.eb_term.specs.declared.term.Term.{Term}
use Rattle.eb_term.specs.Terms as term
use Rattle.eb_term.specs.Typed as typing
use Rattle.eb_term.specs.Typed.{HasSort, HaveSort}
use Rattle.typed_lowering.proofs.Judging.{Judges, BindsAt, quantifies, collects}

have_sort : (bound : List EbType) (r : Sort) (es : List Term) → AllByRecursion (λ e. HasSort bound e r) es → HaveSort bound es r
have_sort bound r [] h = typing.none
have_sort bound r (e ∷ es) h = typing.more h.0 (have_sort bound r es h.1)

over_typed : {o : Binder} {r : Sort} (bound : List EbType) (e b : Term) (t : EbType) → BindsAt o r → HasSort bound e (expression (power t)) → HasSort (bound ++ t ∷ []) b r → HasSort bound (term.over o e b) r
over_typed bound e b t (quantifies o q) x y = typing.quantified_over o t q x y
over_typed bound e b t (collects u) x y = typing.collected_over t u x y

all_typed : {o : Binder} {r : Sort} (bound : List EbType) (b : Term) (t : EbType) → BindsAt o r → HasSort (bound ++ t ∷ []) b r → HasSort bound (term.all o t b) r
all_typed bound b t (quantifies o q) y = typing.quantified o t q y
all_typed bound b t (collects u) y = typing.collected t u y

pub typed_judges : Judges HasSort
typed_judges = record {
  truth = λ bound b. typing.truth b;
  int_literal = λ bound n e. typing.literal (int n) integer;
  empty_literal = λ bound t. typing.literal (value.set []) (power t);
  truth_literal = λ bound b. typing.literal (value.truth b) boolean;
  truths_literal = λ bound. typing.literal _ (power boolean);
  variable = λ bound k path whole t e f. typing.variable k path whole t e f;
  infinite = λ bound i. typing.infinite i;
  identity = λ bound t. typing.identity t;
  projection = λ bound x a b. typing.projection x a b;
  prefix = λ bound a o v x. typing.prefix o v x;
  call = λ bound a o v x. typing.call o v x;
  inverse = λ bound a v x. typing.inverse v x;
  operator = λ bound a b o v x y. typing.operator o v x y;
  where_true = λ bound p s t x y. typing.«if» t x y;
  extension = λ bound e es t x. typing.extension t (have_sort bound (expression t) (e ∷ es) x);
  partition = λ bound e es t x. typing.partition t (have_sort bound (expression (power t)) (e ∷ es) x);
  over = λ bound e b o r t i x y. over_typed bound e b t i x y;
  all = λ bound b o r t i y. all_typed bound b t i y;
}
