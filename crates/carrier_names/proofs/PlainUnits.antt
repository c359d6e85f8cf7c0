-- The names in the `sets` clauses of a text's units are plain.
use Rattle.std.proofs.Common.{◌≡◌, ℕ, Bool, true, List, [], refl}
use Rattle.std.specs.List.{list_all}
use Rattle.eb_lexer.specs.declared.token.Token.{Token}
use Rattle.eb_lexer.specs.Tokens.{IsTokens}
use Rattle.eb_syntax.specs.declared.ast.Identifier.{Identifier}
use Rattle.eb_syntax.specs.declared.units.ContextClause.{ContextClause}
use Rattle.eb_syntax.specs.declared.units.ContextClause.TheVariants as parts
use Rattle.eb_syntax.specs.declared.units.EbUnit.{EbUnit}
use Rattle.eb_syntax.specs.declared.units.EbUnit.TheVariants as unit
use Rattle.eb_units.specs.Grammar.{Named, Each, NextName, Names, ContextPart, IsUnit, Reads, named, none, more, next_name, names, sets, constants, axioms, context, unit_context, unit_machine, unit_scope, unit_queries}
use Rattle.carrier_names.specs.Plain.{is_plain_name}
use Rattle.carrier_names.proofs.Tests.{are_true}
use Rattle.carrier_names.proofs.TokenWords.{HavePlainWords, text_plain}
use Rattle.carrier_names.proofs.Behind.{next_behind, perhaps_behind, named_behind, names_follow, after_names, predicates_behind, machine_behind, scope_behind, queries_behind}

-- the name is plain
abbrev pub is_plain_identifier : Identifier → Bool
is_plain_identifier x = is_plain_name x.name

-- each name is plain, where it is one of a carrier set
abbrev pub is_plain_clause : ContextClause → Bool
is_plain_clause (parts.Sets xs) = list_all is_plain_identifier xs
is_plain_clause (parts.Constants xs) = true
is_plain_clause (parts.Axioms ls) = true

abbrev pub is_plain_unit : EbUnit → Bool
is_plain_unit (unit.Context c) = list_all is_plain_clause c.clauses
is_plain_unit (unit.Machine m) = true
is_plain_unit (unit.Scope b) = true
is_plain_unit (unit.Queries qs) = true

-- what stands at the front passes, and the words behind it are plain
record Passes {A : Type 0} (passes : A → Bool) (x : A) (rest : List Token) : Type 0 where
  here : passes x ≡ true
  behind : HavePlainWords rest

each_passes : {A : Type 0} (One : List Token → A → ℕ → List Token → Type 0) (passes : A → Bool)
    → ((ts rest : List Token) (x : A) (k : ℕ) → One ts x k rest → HavePlainWords ts → Passes passes x rest)
    → (ts rest : List Token) (xs : List A) (k : ℕ) → Each One ts xs k rest → HavePlainWords ts → Passes (list_all passes) xs rest
each_passes One passes one ts rest xs k none h = record { here = refl; behind = h }
each_passes One passes one ts rest xs k (more {us = us} {x = x} {xs = ys} {h = g} {k = l} a b) h =
    let first = one ts us x g a h in
    let others = each_passes One passes one us rest ys l b first.behind in
    record { here = are_true (passes x) (list_all passes ys) first.here others.here; behind = others.behind }

named_passes : {ts rest : List Token} {x : Identifier} → Named ts x rest → HavePlainWords ts → Passes is_plain_identifier x rest
named_passes (named t x e) h = record { here = h.0 x e; behind = h.1 }

next_passes : (ts rest : List Token) (x : Identifier) (k : ℕ) → NextName ts x k rest → HavePlainWords ts → Passes is_plain_identifier x rest
next_passes ts rest x k (next_name p n) h = named_passes n (perhaps_behind p h)

names_pass : {ts rest : List Token} {xs : List Identifier} → Names ts xs rest → HavePlainWords ts → Passes (list_all is_plain_identifier) xs rest
names_pass {rest = rest} (names {us = us} {x = x} {xs = ys} {h = g} n e) h =
    let first = named_passes n h in
    let others = each_passes NextName is_plain_identifier next_passes us rest ys g e first.behind in
    record { here = are_true (is_plain_identifier x) (list_all is_plain_identifier ys) first.here others.here; behind = others.behind }

part_passes : (ts rest : List Token) (x : ContextClause) (k : ℕ) → ContextPart ts x k rest → HavePlainWords ts → Passes is_plain_clause x rest
part_passes ts rest x k (sets n r) h = let p = names_pass r (next_behind n h) in record { here = p.here; behind = p.behind }
part_passes ts rest x k (constants n r) h = record { here = refl; behind = names_follow r (next_behind n h) }
part_passes ts rest x k (axioms {us = us} {ps = ps} n e) h = record { here = refl; behind = predicates_behind us rest ps k e (next_behind n h) }

unit_passes : (ts rest : List Token) (x : EbUnit) (k : ℕ) → IsUnit ts x k rest → HavePlainWords ts → Passes is_plain_unit x rest
unit_passes ts rest x k (unit_context (context {ws = ws} {xs = xs} {cs = cs} n y s e f)) h =
    let p = each_passes ContextPart is_plain_clause part_passes ws xs cs k e (after_names s (named_behind y (next_behind n h))) in
    record { here = p.here; behind = next_behind f p.behind }
unit_passes ts rest x k (unit_machine m) h = record { here = refl; behind = machine_behind m h }
unit_passes ts rest x k (unit_scope b) h = record { here = refl; behind = scope_behind b h }
unit_passes ts rest x k (unit_queries qs) h = record { here = refl; behind = queries_behind qs h }

-- the units that a text is read as
pub units_plain : (text : List ℕ) (ts : List Token) (us : List EbUnit) (height : ℕ) → IsTokens ts text → Reads ts us height → list_all is_plain_unit us ≡ true
units_plain text ts us height t r = (each_passes IsUnit is_plain_unit unit_passes ts [] us height r (text_plain ts text t)).here
