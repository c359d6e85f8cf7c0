-- Terms that refer to no places but those of which a test is true.
use Rattle.std.proofs.Common.{◌≡◌, ◌∙◌, ℕ, Bool, true, false, ◌&&◌, List, [], ◌∷◌, ◌++◌, map, refl, ap, ap₂, rules}
use Rattle.std.specs.List.{list_all, flat_map, AllByRecursion}
use Rattle.std.proofs.lemmas.List.Folds.{list_all-append}
use Rattle.eb_value.specs.declared.types.EbType.{EbType}
use Rattle.eb_value.specs.declared.value.Value.{Value}
use Rattle.eb_value.specs.Types.{integer, boolean, power}
use Rattle.eb_value.specs.Values.{int, truth, set}
use Rattle.eb_term.specs.declared.operators.Unary.{Unary}
use Rattle.eb_term.specs.declared.operators.Unary.TheVariants as unary
use Rattle.eb_term.specs.declared.operators.Binary.{Binary}
use Rattle.eb_term.specs.declared.operators.Binary.TheVariants as binary
use Rattle.eb_term.specs.declared.operators.Many.{Many}
use Rattle.eb_term.specs.declared.operators.Many.TheVariants as many
use Rattle.eb_term.specs.declared.operators.Binder.{Binder}
use Rattle.eb_term.specs.declared.operators.Infinite.{Infinite}
use Rattle.eb_term.specs.declared.operators.Side.{Side}
use Rattle.eb_term.specs.declared.term.Term.{Term}
use Rattle.eb_term.specs.declared.term.Head.{the_lemmas}
use Rattle.eb_term.specs.Terms as term
use Rattle.eb_term.specs.Leaves.{references}
use Rattle.typed_lowering.proofs.Judging.{Judges}

refers-unary : (o : Unary) (a : Term) → references (term.unary o a) ≡ references a
refers-unary o a = search (rules, the_lemmas)

refers-binary : (o : Binary) (a b : Term) → references (term.binary o a b) ≡ references a ++ references b
refers-binary o a b = search (rules, the_lemmas)

refers-many : (o : Many) (es : List Term) → references (term.many o es) ≡ flat_map (λ e. e) (map references es)
refers-many o es = search (rules, the_lemmas)

refers-over : (o : Binder) (a b : Term) → references (term.over o a b) ≡ references a ++ references b
refers-over o a b = search (rules, the_lemmas)

refers-all : (o : Binder) (t : EbType) (b : Term) → references (term.all o t b) ≡ references b
refers-all o t b = search (rules, the_lemmas)

none-truth : (b : Bool) → references (term.truth b) ≡ []
none-truth b = search (rules, the_lemmas)

none-literal : (v : Value) (t : EbType) → references (term.literal v t) ≡ []
none-literal v t = search (rules, the_lemmas)

none-variable : (k : ℕ) (path : List Side) (t : EbType) → references (term.variable k path t) ≡ []
none-variable k path t = search (rules, the_lemmas)

none-infinite : (i : Infinite) → references (term.infinite i) ≡ []
none-infinite i = search (rules, the_lemmas)

none-identity : (t : EbType) → references (term.identity t) ≡ []
none-identity t = search (rules, the_lemmas)

none-projection : (x : Side) (a b : EbType) → references (term.projection x a b) ≡ []
none-projection x a b = search (rules, the_lemmas)

module _ (p : ℕ → Bool) where
  -- each place that the term refers to is one of these
  abbrev pub Within : Term → Type 0
  Within e = list_all p (references e) ≡ true

  at_parts : (ks ls : List ℕ) → ks ≡ ls → list_all p ls ≡ true → list_all p ks ≡ true
  at_parts ks ls e h = ap (list_all p) e ∙ h

  at_none : (ks : List ℕ) → ks ≡ [] → list_all p ks ≡ true
  at_none ks e = at_parts ks [] e refl

  both : (ks ls : List ℕ) → list_all p ks ≡ true → list_all p ls ≡ true → list_all p (ks ++ ls) ≡ true
  both ks ls h k = list_all-append p ks ls ∙ ap₂ (λ a b. a && b) h k

  each : (es : List Term) → AllByRecursion Within es → list_all p (flat_map (λ e. e) (map references es)) ≡ true
  each [] h = refl
  each (e ∷ es) h = both (references e) (flat_map (λ e. e) (map references es)) h.0 (each es h.1)

  of_unary : (o : Unary) (a : Term) → Within a → Within (term.unary o a)
  of_unary o a h = at_parts _ (references a) (refers-unary o a) h

  of_binary : (o : Binary) (a b : Term) → Within a → Within b → Within (term.binary o a b)
  of_binary o a b h k = at_parts _ (references a ++ references b) (refers-binary o a b) (both (references a) (references b) h k)

  of_many : (o : Many) (es : List Term) → AllByRecursion Within es → Within (term.many o es)
  of_many o es h = at_parts _ (flat_map (λ e. e) (map references es)) (refers-many o es) (each es h)

  pub referring_judges : Judges (λ bound e r. Within e)
  referring_judges = record {
    truth = λ bound b. at_none _ (none-truth b);
    int_literal = λ bound n e. at_none _ (none-literal (int n) integer);
    empty_literal = λ bound t. at_none _ (none-literal (set []) (power t));
    truth_literal = λ bound b. at_none _ (none-literal (truth b) boolean);
    truths_literal = λ bound. at_none _ (none-literal (set (truth false ∷ truth true ∷ [])) (power boolean));
    variable = λ bound k path whole t e f. at_none _ (none-variable k path t);
    infinite = λ bound i. at_none _ (none-infinite i);
    identity = λ bound t. at_none _ (none-identity t);
    projection = λ bound x a b. at_none _ (none-projection x a b);
    prefix = λ bound a o v x. of_unary (unary.Prefix o) a x;
    call = λ bound a o v x. of_unary (unary.Call o) a x;
    inverse = λ bound a v x. of_unary unary.Inverse a x;
    operator = λ bound a b o v x y. of_binary (binary.Operator o) a b x y;
    where_true = λ bound p s t x y. of_binary binary.If p s x y;
    extension = λ bound e es t x. of_many many.Extension (e ∷ es) x;
    partition = λ bound e es t x. of_many many.Partition (e ∷ es) x;
    over = λ bound e b o r t i x y. at_parts _ (references e ++ references b) (refers-over o e b) (both (references e) (references b) x y);
    all = λ bound b o r t i y. at_parts _ (references b) (refers-all o t b) y;
  }
