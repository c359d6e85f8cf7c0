-- The names of a formula that stand for nothing are those that are free by its parts.
use Rattle.std.proofs.Common.{◌≡◌, ◌∙◌, ℤ, ℕ, Bool, true, false, if◌then◌else◌, List, [], ◌∷◌, ◌++◌, map, refl, sym, subst, rules}
use Rattle.std.specs.List.{flat_map, AllByRecursion}
use Rattle.eb_syntax.specs.declared.ast.Constant.{Constant}
use Rattle.eb_syntax.specs.declared.ast.Constant.TheVariants.{EmptySet}
use Rattle.eb_syntax.specs.declared.ast.Prefix.{Prefix}
use Rattle.eb_syntax.specs.declared.ast.Call.{Call}
use Rattle.eb_syntax.specs.declared.ast.Operator.{Operator}
use Rattle.eb_syntax.specs.declared.ast.Quantifier.{Quantifier}
use Rattle.eb_syntax.specs.declared.ast.Binder.{Binder}
use Rattle.eb_syntax.specs.declared.ast.Bound.{Bound}
use Rattle.eb_syntax.specs.declared.ast.Identifier.{Identifier}
use Rattle.eb_syntax.specs.declared.ast.Ast.{Ast, the_lemmas as ast_lemmas}
use Rattle.eb_syntax.specs.declared.ast.Node.TheVariants as node
use Rattle.eb_syntax.specs.Asts as ast
use Rattle.numbered_names.specs.Names.{Names, no_names, is_mark, after_mark, bind_all, bind_bound}
use Rattle.eb_resolved.specs.declared.resolved.Resolved.{Resolved, the_lemmas as made_lemmas}
use Rattle.eb_resolved.specs.Formulas as made
use Rattle.eb_resolved.specs.Resolving.{Reader, one, two, each, all, constant, entries_from, used_as, quantified, bound_by, comprehension, built, resolved}
use Rattle.eb_resolved.specs.Unknown.{Use, used, unknown, free}
use Rattle.eb_scoping.specs.FreeNames.{names_of, bound_names}
use Rattle.eb_scoping.specs.steps.FreeByParts.{plain_names, unbound, free_by_parts}
use Rattle.eb_scoping.proofs.AstInduction.{ind_ast}
use Rattle.eb_scoping.proofs.FreeLaws.{flat_mapped}
use Rattle.eb_scoping.proofs.OpenLaws.{unbound_none}
use Rattle.eb_scoping.proofs.ReadLaws.{IsRead, Reads, read_none, read_then, reads_one, reads_two, reads_under, reads_built, binds_all, binds_bound}
use Rattle.eb_scoping.proofs.UseReadLaws.{reads_use, reads_primed}

-- the formula is read as its free names by parts say
abbrev pub IsFree : Ast → Type 0
IsFree a = Reads (resolved [] a) (free_by_parts a)

-- a formula is read as such a reader reads, and has these free names by parts
reads_as : (a : Ast) (f : Reader) (us : List Use) → ((s : Names) → resolved [] a s ≡ f s) → free_by_parts a ≡ us → Reads f us → IsFree a
reads_as a f us e u h s = subst (λ r. IsRead s r.1 (free_by_parts a) (unknown r.0)) (sym (e s)) (subst (λ z. IsRead s (f s).1 z (unknown (f s).0)) (sym u) (h s))

number : (place : ℕ) (n : ℤ) → IsFree (ast.number place n)
number place n = reads_as (ast.number place n) (λ s. (made.number place n, s)) [] (λ s. search (rules, ast_lemmas)) (search (rules, ast_lemmas)) (λ s.
    let none : unknown (made.number place n) ≡ [] = search (rules, made_lemmas) in
    subst (λ z. IsRead s s [] z) (sym none) (read_none s s refl refl))

identifier : (place : ℕ) (x : List ℕ) → IsFree (ast.identifier place x)
identifier place x = reads_as (ast.identifier place x) (used_as [] place x) (used x false ∷ []) (λ s. search (rules, ast_lemmas)) (search (rules, ast_lemmas)) (reads_use place x)

primed : (place : ℕ) (x : List ℕ) → IsFree (ast.primed place x)
primed place x = reads_as (ast.primed place x) (λ s. (made.unknown place x true, s)) (used x true ∷ []) (λ s. search (rules, ast_lemmas)) (search (rules, ast_lemmas)) (reads_primed place x)

abbrev mark_or_constant : ℕ → Constant → Bool → Reader
mark_or_constant place c is_mark s = if is_mark then (made.mark place c s.next, after_mark s) else (made.constant place c, s)

reads_constant : (place : ℕ) (c : Constant) (is_mark : Bool) → Reads (mark_or_constant place c is_mark) []
reads_constant place c true s = let none : unknown (made.mark place c s.next) ≡ [] = search (rules, made_lemmas) in subst (λ z. IsRead s (after_mark s) [] z) (sym none) (read_none s (after_mark s) refl refl)
reads_constant place c false s = let none : unknown (made.constant place c) ≡ [] = search (rules, made_lemmas) in subst (λ z. IsRead s s [] z) (sym none) (read_none s s refl refl)

-- what is read as a constant
of_constant : (a : Ast) (place : ℕ) (c : Constant) → ((s : Names) → resolved [] a s ≡ constant place c s) → free_by_parts a ≡ [] → IsFree a
of_constant a place c e u = reads_as a (constant place c) [] e u (reads_constant place c (is_mark c))

constant_free : (place : ℕ) (c : Constant) → IsFree (ast.constant place c)
constant_free place c = of_constant (ast.constant place c) place c (λ s. search (rules, ast_lemmas)) (search (rules, ast_lemmas))

prefix : (place : ℕ) (op : Prefix) (a : Ast) → IsFree a → IsFree (ast.prefix place op a)
prefix place op a h = reads_as (ast.prefix place op a) (one (made.prefix place op) (resolved [] a)) (free_by_parts a) (λ s. search (rules, ast_lemmas)) (search (rules, ast_lemmas))
    (reads_one (made.prefix place op) (λ r. search (rules, made_lemmas)) (resolved [] a) (free_by_parts a) h)

call : (place : ℕ) (op : Call) (a : Ast) → IsFree a → IsFree (ast.call place op a)
call place op a h = reads_as (ast.call place op a) (one (made.call place op) (resolved [] a)) (free_by_parts a) (λ s. search (rules, ast_lemmas)) (search (rules, ast_lemmas))
    (reads_one (made.call place op) (λ r. search (rules, made_lemmas)) (resolved [] a) (free_by_parts a) h)

parentheses : (place : ℕ) (a : Ast) → IsFree a → IsFree (ast.parentheses place a)
parentheses place a h = reads_as (ast.parentheses place a) (resolved [] a) (free_by_parts a) (λ s. search (rules, ast_lemmas)) (search (rules, ast_lemmas)) h

inverse : (place : ℕ) (a : Ast) → IsFree a → IsFree (ast.at place (node.Inverse a))
inverse place a h = reads_as (ast.at place (node.Inverse a)) (one (made.inverse place) (resolved [] a)) (free_by_parts a) (λ s. search (rules, ast_lemmas)) (search (rules, ast_lemmas))
    (reads_one (made.inverse place) (λ r. search (rules, made_lemmas)) (resolved [] a) (free_by_parts a) h)

operator : (place : ℕ) (op : Operator) (a b : Ast) → IsFree a → IsFree b → IsFree (ast.at place (node.Operator op a b))
operator place op a b h k = reads_as (ast.at place (node.Operator op a b)) (two (made.operator place op) (resolved [] a) (resolved [] b)) (free_by_parts a ++ free_by_parts b) (λ s. search (rules, ast_lemmas)) (search (rules, ast_lemmas))
    (reads_two (made.operator place op) (λ r q. search (rules, made_lemmas)) (resolved [] a) (resolved [] b) (free_by_parts a) (free_by_parts b) h k)

quantifier : (place : ℕ) (q : Quantifier) (xs : List Identifier) (a : Ast) → IsFree a → IsFree (ast.quantifier place q xs a)
quantifier place q xs a h = reads_as (ast.quantifier place q xs a) (quantified place q xs (resolved [] a)) (unbound (names_of xs) (free_by_parts a)) (λ s. search (rules, ast_lemmas)) (search (rules, ast_lemmas))
    (λ s. let make = made.quantifier place q (entries_from s.next xs) in
    reads_under s (bind_all s xs) (names_of xs) (binds_all s xs) (one make (resolved [] a)) (free_by_parts a)
    (reads_one make (λ r. search (rules, made_lemmas)) (resolved [] a) (free_by_parts a) h))

binder : (place : ℕ) (op : Binder) (b : Bound) (p e : Ast) → IsFree p → IsFree e → IsFree (ast.binder place op b p e)
binder place op b p e h k = reads_as (ast.binder place op b p e) (bound_by place op b (resolved [] p) (resolved [] e)) (unbound (bound_names b) (free_by_parts p ++ free_by_parts e)) (λ s. search (rules, ast_lemmas)) (search (rules, ast_lemmas))
    (λ s. let make = made.binder place op b s.next in
    reads_under s (bind_bound s b) (bound_names b) (binds_bound s b) (two make (resolved [] p) (resolved [] e)) (free_by_parts p ++ free_by_parts e)
    (reads_two make (λ r q. search (rules, made_lemmas)) (resolved [] p) (resolved [] e) (free_by_parts p) (free_by_parts e) h k))

comprehension_free : (place : ℕ) (xs : List Identifier) (p e : Ast) → IsFree p → IsFree e → IsFree (ast.comprehension place xs p e)
comprehension_free place xs p e h k = reads_as (ast.comprehension place xs p e) (comprehension place xs (resolved [] p) (resolved [] e)) (unbound (names_of xs) (free_by_parts p ++ free_by_parts e)) (λ s. search (rules, ast_lemmas)) (search (rules, ast_lemmas))
    (λ s. let make = made.comprehension place (entries_from s.next xs) in
    reads_under s (bind_all s xs) (names_of xs) (binds_all s xs) (two make (resolved [] p) (resolved [] e)) (free_by_parts p ++ free_by_parts e)
    (reads_two make (λ r q. search (rules, made_lemmas)) (resolved [] p) (resolved [] e) (free_by_parts p) (free_by_parts e) h k))

builder : (place : ℕ) (e p : Ast) → IsFree e → IsFree p → IsFree (ast.builder place e p)
builder place e p h k = reads_as (ast.builder place e p) (built place (resolved [] e) (resolved [] p)) (unbound (plain_names (free_by_parts e)) (free_by_parts e ++ free_by_parts p)) (λ s. search (rules, ast_lemmas)) (search (rules, ast_lemmas))
    (reads_built (made.builder place) (λ es r q. search (rules, made_lemmas)) (resolved [] e) (resolved [] p) (free_by_parts e) (free_by_parts p) h k)

-- a row of formulas
reads_row : (es : List Ast) → AllByRecursion IsFree es → (s : Names) → IsRead s (each (map (resolved []) es) s).1 (flat_map free_by_parts es) (flat_map unknown (each (map (resolved []) es) s).0)
reads_row [] h s = read_none s s refl refl
reads_row (e ∷ es) h s =
    let r = resolved [] e s in
    let q = each (map (resolved []) es) r.1 in
    read_then s r.1 q.1 (free_by_parts e) (flat_map free_by_parts es) (unknown r.0) (flat_map unknown q.0) (h.0 s) (reads_row es h.1 r.1)

reads_all : (make : List Resolved → Resolved) → ((rs : List Resolved) → unknown (make rs) ≡ flat_map (λ us. us) (map unknown rs)) → (es : List Ast) → AllByRecursion IsFree es → Reads (all make (map (resolved []) es)) (flat_map free_by_parts es)
reads_all make same es h s =
    let rs = (each (map (resolved []) es) s).0 in
    subst (λ z. IsRead s (each (map (resolved []) es) s).1 (flat_map free_by_parts es) z) (sym (same rs ∙ flat_mapped (λ us. us) unknown rs)) (reads_row es h s)

partition : (place : ℕ) (es : List Ast) → AllByRecursion IsFree es → IsFree (ast.partition place es)
partition place es h = reads_as (ast.partition place es) (all (made.partition place) (map (resolved []) es)) (flat_map free_by_parts es) (λ s. search (rules, ast_lemmas))
    (let e : free_by_parts (ast.partition place es) ≡ flat_map (λ us. us) (map free_by_parts es) = search (rules, ast_lemmas) in e ∙ flat_mapped (λ us. us) free_by_parts es)
    (reads_all (made.partition place) (λ rs. search (rules, made_lemmas)) es h)

extension_free : (place : ℕ) (es : List Ast) → AllByRecursion IsFree es → IsFree (ast.extension place es)
extension_free place [] h = of_constant (ast.extension place []) place EmptySet (λ s. search (rules, ast_lemmas)) (search (rules, ast_lemmas))
extension_free place (m ∷ ms) h = reads_as (ast.extension place (m ∷ ms)) (all (made.extension place) (map (resolved []) (m ∷ ms))) (flat_map free_by_parts (m ∷ ms)) (λ s. search (rules, ast_lemmas))
    (let e : free_by_parts (ast.extension place (m ∷ ms)) ≡ flat_map (λ us. us) (map free_by_parts (m ∷ ms)) = search (rules, ast_lemmas) in e ∙ flat_mapped (λ us. us) free_by_parts (m ∷ ms))
    (reads_all (made.extension place) (λ rs. search (rules, made_lemmas)) (m ∷ ms) h)

pub is_free : (a : Ast) → IsFree a
is_free = ind_ast IsFree (record {
  number = number;
  identifier = identifier;
  primed = primed;
  constant = constant_free;
  prefix = prefix;
  call = call;
  parentheses = parentheses;
  inverse = inverse;
  operator = operator;
  quantifier = quantifier;
  binder = binder;
  comprehension = comprehension_free;
  builder = builder;
  extension = extension_free;
  partition = partition;
})

-- the names that stand for nothing where none is in scope
pub free_of_parts : (a : Ast) → free a ≡ free_by_parts a
free_of_parts a = (is_free a no_names).finds ∙ unbound_none (free_by_parts a)
