-- Laws of the axioms whose names are judged: they are of contexts of the model.
use Rattle.std.proofs.Common.{◌≡◌, ◌<◌, ◌++◌, ◌∷◌, [], ℕ, zero, suc, Bool, true, false, List, Option, None, Some, length, get_or, map, refl, sym, subst, arith}
use Rattle.std.specs.List.{flat_map, AllByRecursion}
use Rattle.eb_syntax.specs.declared.ast.Identifier.{Identifier}
use Rattle.eb_syntax.specs.declared.units.Context.{Context}
use Rattle.eb_syntax.specs.declared.units.ContextClause.{ContextClause}
use Rattle.eb_syntax.specs.declared.units.ContextClause.TheVariants as part
use Rattle.eb_syntax.specs.declared.units.Machine.{Machine}
use Rattle.eb_syntax.specs.declared.units.MachineClause.{MachineClause}
use Rattle.eb_syntax.specs.declared.units.MachineClause.TheVariants as clause
use Rattle.eb_syntax.specs.declared.units.PredicatesClause.{PredicatesClause}
use Rattle.eb_syntax.specs.declared.units.Assignment.{Assignment}
use Rattle.eb_syntax.specs.declared.units.Assignment.TheVariants as assign
use Rattle.eb_syntax.specs.declared.units.Event.{Event}
use Rattle.eb_syntax.specs.declared.units.ScopeBlock.{ScopeBlock}
use Rattle.eb_syntax.specs.declared.units.ScopeSetting.{ScopeSetting}
use Rattle.eb_syntax.specs.declared.units.ScopeSetting.TheVariants as setting
use Rattle.eb_syntax.specs.declared.units.EbUnit.{EbUnit}
use Rattle.eb_syntax.specs.declared.units.EbUnit.TheVariants as eb
use Rattle.eb_resolved.specs.Unknown.{free}
use Rattle.eb_scoping.specs.FreeNames.{names_of}
use Rattle.eb_scoping.specs.Models.{AreMarked, AreMarkedBehind, IsModelUnit}
use Rattle.eb_declared.specs.Parts.{Space, space_model, space_parameters, space_axioms, space_invariants, at_context, in_axiom, in_invariant, in_event, at_assigned, Part, declares, uses, formula, all_declared, all_used, labelled_parts, context_clause_parts, parameter_names, guard_parts, assigned_parts, all_assigned, assignment_parts, event_parts, machine_clause_parts, setting_parts, context_parts, machine_parts, scope_parts, unit_parts, parts}
use Rattle.eb_lower.specs.Usages.{Usage, usage, part_usages}
use Rattle.eb_lower.specs.steps.Known.{IsOfModel, IsPlaced, IsPlacedPart, ArePlaced}

all_at : {A B : Type 0} (P : B → Type 0) (f : A → B) (xs : List A) (i : ℕ) (x : A) → AllByRecursion P (map f xs) → i < length xs → x ≡ get_or xs i x → P (f x)
all_at P f [] i x a l e = absurd (omega (arith, l))
all_at P f (y ∷ ys) zero x a l e = subst (λ z. P (f z)) (sym e) a.0
all_at P f (y ∷ ys) (suc i) x a l e = all_at P f ys i x a.1 (omega (arith, l)) e

all_mapped : {A B : Type 0} (P : B → Type 0) (f : A → B) (xs : List A) → ((x : A) → P (f x)) → AllByRecursion P (map f xs)
all_mapped P f [] h = tt
all_mapped P f (x ∷ xs) h = (h x, all_mapped P f xs h)

all_both : {B : Type 0} (P : B → Type 0) (xs ys : List B) → AllByRecursion P xs → AllByRecursion P ys → AllByRecursion P (xs ++ ys)
all_both P [] ys a b = b
all_both P (x ∷ xs) ys a b = (a.0, all_both P xs ys a.1 b)

all_flat : {A B : Type 0} (P : B → Type 0) (f : A → List B) (xs : List A) → ((x : A) → AllByRecursion P (f x)) → AllByRecursion P (flat_map f xs)
all_flat P f [] h = tt
all_flat P f (x ∷ xs) h = all_both P (f x) (flat_map f xs) (h x) (all_flat P f xs h)

module _ (us : List EbUnit) where
  abbrev Placed : Usage → Type 0
  Placed u = IsPlaced us u.position

  abbrev Stands : Part → Type 0
  Stands p = IsPlacedPart us p

  abbrev Stand : List Part → Type 0
  Stand ps = AllByRecursion (IsPlacedPart us) ps

  pub placed_at : {A : Type 0} (f : A → Usage) (xs : List A) (i : ℕ) (x : A) → ArePlaced us (map f xs) → i < length xs → x ≡ get_or xs i x → IsPlaced us (f x).position
  placed_at f xs i x a l e = all_at Placed f xs i x a l e

  all_names : (s : Space) (names : List (List ℕ)) → Stand (all_declared s names)
  all_names s names = all_mapped Stands (declares s) names (λ x. tt)

  seen_names : (names : List (List ℕ)) → Stand (all_used at_context names)
  seen_names names = all_mapped Stands (uses at_context) names (λ x. tt)

  context_clause : (c : Context) → IsOfModel us c.name.name → (k : ContextClause) → Stand (context_clause_parts c k)
  context_clause c h (part.Sets xs) = all_names space_model (names_of xs)
  context_clause c h (part.Constants xs) = all_names space_model (names_of xs)
  context_clause c h (part.Axioms ps) = all_flat Stands (labelled_parts (space_axioms c.name.name) (in_axiom c)) ps (λ p. (tt, (h, tt)))

  guards : (e : Event) (o : Option PredicatesClause) → Stand (guard_parts e o)
  guards e None = tt
  guards e (Some c) = all_mapped Stands (λ p. formula (in_event e []) p.predicate) c.predicates (λ p. tt)

  assigned : (e : Event) (xs : List Identifier) → Stand (all_assigned e xs)
  assigned e xs = all_flat Stands (assigned_parts e at_assigned) xs (λ x. (tt, (tt, tt)))

  assignment : (e : Event) (a : Assignment) → Stand (assignment_parts e a)
  assignment e (assign.BecomesEqual xs vs) = all_both Stands (all_assigned e xs) (map (formula (in_event e [])) vs) (assigned e xs) (all_mapped Stands (formula (in_event e [])) vs (λ v. tt))
  assignment e (assign.BecomesEqualAt f a v) = (tt, (tt, (tt, (tt, tt))))
  assignment e (assign.BecomesMember x s) = (tt, (tt, (tt, tt)))
  assignment e (assign.BecomesSuchThat xs p) = all_both Stands (all_assigned e xs) (formula (in_event e (names_of xs)) p ∷ []) (assigned e xs) (tt, tt)

  event : (e : Event) → Stand (event_parts e)
  event e =
      let acts = flat_map (λ a. assignment_parts e a.assignment) e.actions in
      let ps = all_declared (space_parameters e.name.name) (parameter_names e.parameters) in (
        tt,
        all_both Stands ps (guard_parts e e.guards ++ acts) (all_names (space_parameters e.name.name) (parameter_names e.parameters))
            (all_both Stands (guard_parts e e.guards) acts (guards e e.guards) (all_flat Stands (λ a. assignment_parts e a.assignment) e.actions (λ a. assignment e a.assignment))),
      )

  machine_clause : (k : MachineClause) → Stand (machine_clause_parts k)
  machine_clause (clause.Variables xs) = all_names space_model (names_of xs)
  machine_clause (clause.Invariants ps) = all_flat Stands (labelled_parts space_invariants in_invariant) ps (λ p. (tt, (tt, tt)))
  machine_clause (clause.Variant l e) = tt
  machine_clause (clause.Events es) = all_flat Stands event_parts es event

  set : (s : ScopeSetting) → Stand (setting_parts s)
  set (setting.Integers place lo hi) = (tt, tt)
  set (setting.Size s n) = (tt, (tt, tt))
  set (setting.Depth place n) = (tt, tt)

  context : (b : Bool) (c : Context) → (b ≡ true → IsOfModel us c.name.name) → Stand (context_parts b c)
  context true c h = (tt, all_both Stands (all_used at_context (names_of c.extends)) (flat_map (context_clause_parts c) c.clauses) (seen_names (names_of c.extends)) (all_flat Stands (context_clause_parts c) c.clauses (context_clause c (h refl))))
  context false c h = (tt, tt)

  machine : (b : Bool) (m : Machine) → Stand (machine_parts b m)
  machine true m = (tt, (tt, all_both Stands (all_used at_context (names_of m.sees)) (flat_map machine_clause_parts m.clauses) (seen_names (names_of m.sees)) (all_flat Stands machine_clause_parts m.clauses machine_clause)))
  machine false m = (tt, (tt, tt))

  scope : (s : ScopeBlock) → Stand (scope_parts s)
  scope s = (tt, all_flat Stands setting_parts s.settings set)

  unit : (before : List EbUnit) (b : Bool) (u : EbUnit) → (b ≡ true → IsModelUnit us before u) → Stand (unit_parts b u)
  unit before b (eb.Context c) h = context b c h
  unit before b (eb.Machine m) h = machine b m
  unit before b (eb.Scope s) h = scope s
  unit before b (eb.Queries qs) h = tt

  stand_behind : (before vs : List EbUnit) (bs : List Bool) → AreMarkedBehind us before vs bs → Stand (parts vs bs)
  stand_behind before [] bs m = tt
  stand_behind before (v ∷ vs) [] m = absurd m
  stand_behind before (v ∷ vs) (b ∷ bs) m = all_both Stands (unit_parts b v) (parts vs bs) (unit before b v m.0) (stand_behind (before ++ v ∷ []) vs bs m.2)

  placed_in : (p : Part) → Stands p → ArePlaced us (part_usages p)
  placed_in (declares s x) h = tt
  placed_in (uses p x) h = (h, tt)
  placed_in (formula p a) h = all_mapped Placed (usage p) (free a) (λ x. h)

-- the usages in a part of the text stand at such positions
pub placed_part : {A : Type 0} (us : List EbUnit) (bs : List Bool) (f : A → Part) (ps : List A) (i : ℕ) (x : A) → AreMarked us us bs → map f ps ≡ parts us bs → i < length ps → x ≡ get_or ps i x → ArePlaced us (part_usages (f x))
placed_part us bs f ps i x m are l e = placed_in us (f x) (all_at (IsPlacedPart us) f ps i x (subst (AllByRecursion (IsPlacedPart us)) (sym are) (stand_behind us [] us bs m)) l e)
