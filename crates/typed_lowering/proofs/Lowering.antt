-- What holds of the term of each formula.
use Rattle.std.proofs.Common.{◌≡◌, ℕ, ℤ, Bool, List, [], ◌++◌, map, sym, subst, rules}
use Rattle.std.specs.List.{AllByRecursion}
use Rattle.eb_syntax.specs.declared.ast.Constant.{Constant}
use Rattle.eb_syntax.specs.declared.ast.Prefix.{Prefix}
use Rattle.eb_syntax.specs.declared.ast.Call.{Call}
use Rattle.eb_syntax.specs.declared.ast.Operator.{Operator}
use Rattle.eb_syntax.specs.declared.ast.Quantifier.{Quantifier}
use Rattle.eb_syntax.specs.declared.ast.Binder.{Binder as Gatherer}
use Rattle.eb_syntax.specs.declared.ast.Bound.{Bound}
use Rattle.numbered_names.specs.declared.entries.Entry.{Entry}
use Rattle.eb_value.specs.declared.types.EbType.{EbType}
use Rattle.type_table.specs.declared.pattern.Letter.TheVariants.{A}
use Rattle.type_table.specs.declared.pattern.Pattern.TheVariants as p
use Rattle.type_table.specs.Rows.{Sort, constant_pattern, prefix_row, call_row, inverse_row, quantifier_row, comprehension_row, builder_row, operator_row}
use Rattle.eb_term.specs.declared.operators.Unary.TheVariants as unary
use Rattle.eb_term.specs.declared.operators.Many.TheVariants as many
use Rattle.eb_term.specs.declared.term.Term.{Term}
use Rattle.eb_term.specs.Terms as term
use Rattle.eb_resolved.specs.declared.resolved.Resolved.{Resolved, the_lemmas}
use Rattle.eb_resolved.specs.Formulas as made
use Rattle.eb_resolved.specs.Resolving.{entries_from}
use Rattle.eb_forms.specs.Forms.{constant_kind, call_kind}
use Rattle.eb_forms.specs.Widths.{bound_identifiers}
use Rattle.eb_typing.specs.Numbering as row
use Rattle.eb_typing.specs.Numbering.{Numbered, typed, unknown, none, plain, marked, of_one, of_two, bound_made, all, numbered}
use Rattle.eb_lowering.specs.declared.setting.Setting.{Setting}
use Rattle.eb_lowering.specs.Lowering.{Lowered, type_at, no_value, number_term, constant_term, mark_term, of_kind, formula, by_operator, identifier, quantified, entry_numbers, comprehension, gathered, all_uses, lowered}
use Rattle.eb_value.specs.Types.{boolean}
use Rattle.typed_lowering.proofs.FormulaInduction.{ind_resolved}
use Rattle.typed_lowering.proofs.Identifiers.{Suits}
use Rattle.typed_lowering.proofs.Formulas.{IsLowered, number_lowered, identifier_lowered, primed_lowered, unknown_lowered, constant_lowered, mark_lowered, prefix_lowered, call_lowered, inverse_lowered, operator_lowered, quantifier_lowered, binder_lowered, comprehension_lowered, builder_lowered, extension_lowered, partition_lowered}

module _ (G : List EbType → Term → Sort → Type 0) (s : Setting) (h : Suits G s) where
  abbrev Holds : Resolved → Type 0
  Holds r = IsLowered G s h (numbered r) (lowered s r)

  holds_as : (r : Resolved) (n : Numbered) (l : Lowered) → numbered r ≡ n → lowered s r ≡ l → IsLowered G s h n l → Holds r
  holds_as r n l e f i = subst (λ z. IsLowered G s h z (lowered s r)) (sym e) (subst (λ z. IsLowered G s h n z) (sym f) i)

  number : (place : ℕ) (n : ℤ) → Holds (made.number place n)
  number place n = holds_as (made.number place n) (row.made [] p.Integer none) (formula [] (λ w. number_term n)) (search (rules, the_lemmas)) (search (rules, the_lemmas)) (number_lowered G s h n)

  identifier_holds : (place k : ℕ) → Holds (made.identifier place k)
  identifier_holds place k = holds_as (made.identifier place k) (typed k) (identifier s k) (search (rules, the_lemmas)) (search (rules, the_lemmas)) (identifier_lowered G s h k)

  primed : (place k : ℕ) → Holds (made.primed place k)
  primed place k = holds_as (made.primed place k) (typed k) (formula [] (λ w. no_value (type_at s k))) (search (rules, the_lemmas)) (search (rules, the_lemmas)) (primed_lowered G s h k)

  unknown_name : (place : ℕ) (x : List ℕ) (is_primed : Bool) → Holds (made.unknown place x is_primed)
  unknown_name place x is_primed = holds_as (made.unknown place x is_primed) unknown (formula [] (λ w. no_value boolean)) (search (rules, the_lemmas)) (search (rules, the_lemmas)) (unknown_lowered G s h (λ w. no_value boolean))

  constant : (place : ℕ) (c : Constant) → Holds (made.constant place c)
  constant place c = holds_as (made.constant place c) (plain c) (of_kind (constant_kind c) [] (λ w. constant_term c)) (search (rules, the_lemmas)) (search (rules, the_lemmas)) (constant_lowered G s h c)

  mark : (place : ℕ) (c : Constant) (k : ℕ) → Holds (made.mark place c k)
  mark place c k = holds_as (made.mark place c k) (marked (constant_pattern c) k) (formula [] (λ w. mark_term c (type_at s k))) (search (rules, the_lemmas)) (search (rules, the_lemmas)) (mark_lowered G s h c k)

  prefix : (place : ℕ) (o : Prefix) (a : Resolved) → Holds a → Holds (made.prefix place o a)
  prefix place o a i = holds_as (made.prefix place o a) (of_one (prefix_row o) (numbered a)) (formula (lowered s a).uses (λ w. term.unary (unary.Prefix o) ((lowered s a).term w))) (search (rules, the_lemmas)) (search (rules, the_lemmas)) (prefix_lowered G s h o (numbered a) (lowered s a) i)

  call : (place : ℕ) (o : Call) (a : Resolved) → Holds a → Holds (made.call place o a)
  call place o a i = holds_as (made.call place o a) (of_one (call_row o) (numbered a)) (of_kind (call_kind o) (lowered s a).uses (λ w. term.unary (unary.Call o) ((lowered s a).term w))) (search (rules, the_lemmas)) (search (rules, the_lemmas)) (call_lowered G s h o (numbered a) (lowered s a) i)

  inverse : (place : ℕ) (a : Resolved) → Holds a → Holds (made.inverse place a)
  inverse place a i = holds_as (made.inverse place a) (of_one inverse_row (numbered a)) (formula (lowered s a).uses (λ w. term.unary unary.Inverse ((lowered s a).term w))) (search (rules, the_lemmas)) (search (rules, the_lemmas)) (inverse_lowered G s h (numbered a) (lowered s a) i)

  operator : (place : ℕ) (o : Operator) (a b : Resolved) → Holds a → Holds b → Holds (made.operator place o a b)
  operator place o a b i j = holds_as (made.operator place o a b) (of_two (operator_row o) (numbered a) (numbered b)) (by_operator o (lowered s a) (lowered s b)) (search (rules, the_lemmas)) (search (rules, the_lemmas)) (operator_lowered G s h o (numbered a) (numbered b) (lowered s a) (lowered s b) i j)

  quantifier : (place : ℕ) (q : Quantifier) (es : List Entry) (a : Resolved) → Holds a → Holds (made.quantifier place q es a)
  quantifier place q es a i = holds_as (made.quantifier place q es a) (of_one quantifier_row (numbered a)) (quantified s q (entry_numbers es) (lowered s a)) (search (rules, the_lemmas)) (search (rules, the_lemmas)) (quantifier_lowered G s h q (entry_numbers es) (numbered a) (lowered s a) i)

  binder : (place : ℕ) (o : Gatherer) (b : Bound) (first : ℕ) (a e : Resolved) → Holds a → Holds e → Holds (made.binder place o b first a e)
  binder place o b first a e i j =
      holds_as (made.binder place o b first a e) (bound_made o b first (numbered a) (numbered e)) (formula ((lowered s a).uses ++ (lowered s e).uses) (gathered s o b first (entry_numbers (entries_from first (bound_identifiers b))) (lowered s a) (lowered s e)))
      (search (rules, the_lemmas)) (search (rules, the_lemmas))
      (binder_lowered G s h o b first (entry_numbers (entries_from first (bound_identifiers b))) (numbered a) (numbered e) (lowered s a) (lowered s e) i j)

  comprehension_holds : (place : ℕ) (es : List Entry) (a e : Resolved) → Holds a → Holds e → Holds (made.comprehension place es a e)
  comprehension_holds place es a e i j =
      holds_as (made.comprehension place es a e) (of_two comprehension_row (numbered a) (numbered e)) (formula ((lowered s a).uses ++ (lowered s e).uses) (comprehension s (entry_numbers es) (lowered s a) (lowered s e).term))
      (search (rules, the_lemmas)) (search (rules, the_lemmas)) (comprehension_lowered G s h (entry_numbers es) (numbered a) (numbered e) (lowered s a) (lowered s e) i j)

  builder : (place : ℕ) (es : List Entry) (e a : Resolved) → Holds e → Holds a → Holds (made.builder place es e a)
  builder place es e a j i =
      holds_as (made.builder place es e a) (of_two builder_row (numbered e) (numbered a)) (formula ((lowered s e).uses ++ (lowered s a).uses) (comprehension s (entry_numbers es) (lowered s a) (lowered s e).term))
      (search (rules, the_lemmas)) (search (rules, the_lemmas)) (builder_lowered G s h (entry_numbers es) (numbered e) (numbered a) (lowered s e) (lowered s a) j i)

  extension : (place : ℕ) (rs : List Resolved) → AllByRecursion Holds rs → Holds (made.extension place rs)
  extension place rs i =
      holds_as (made.extension place rs) (all (p.Type A) (p.Set A) (map numbered rs)) (formula (all_uses (map (lowered s) rs)) (λ w. term.many many.Extension (map (λ l. l.term w) (map (lowered s) rs))))
      (search (rules, the_lemmas)) (search (rules, the_lemmas)) (extension_lowered G s h numbered (lowered s) rs (all_uses (map (lowered s) rs)) i)

  partition : (place : ℕ) (rs : List Resolved) → AllByRecursion Holds rs → Holds (made.partition place rs)
  partition place rs i =
      holds_as (made.partition place rs) (all (p.Set A) p.Predicate (map numbered rs)) (formula (all_uses (map (lowered s) rs)) (λ w. term.many many.Partition (map (λ l. l.term w) (map (lowered s) rs))))
      (search (rules, the_lemmas)) (search (rules, the_lemmas)) (partition_lowered G s h numbered (lowered s) rs (all_uses (map (lowered s) rs)) i)

  pub every_formula : (r : Resolved) → IsLowered G s h (numbered r) (lowered s r)
  every_formula = ind_resolved Holds (record {
    number = number;
    identifier = identifier_holds;
    primed = primed;
    unknown = unknown_name;
    constant = constant;
    mark = mark;
    prefix = prefix;
    call = call;
    inverse = inverse;
    operator = operator;
    quantifier = quantifier;
    binder = binder;
    comprehension = comprehension_holds;
    builder = builder;
    extension = extension;
    partition = partition;
  })
