-- Which declaration or binder each name of a formula stands for. `resolved scope a s` reads the formula a where the names s
-- are in scope and the identifiers `scope` are declared in the model: it gives the formula with numbers in place of names, and
-- the names in scope behind it.
--
-- A name stands for what the innermost binder around it binds by this name. Where none does, it stands inside the E of `{E|P}`
-- for what that binds, and elsewhere for what the model declares.
use Rattle.std.specs.Prelude.{ℕ, ◌+◌, Bool, true, false, if◌then◌else◌, List, [], ◌∷◌, length, Option, Some, None}
use Rattle.std.specs.Option.{option_or}
use Rattle.eb_syntax.specs.declared.ast.Ast.{Ast, fold-Ast}
use Rattle.eb_syntax.specs.declared.ast.Node.{Node-F}
use Rattle.eb_syntax.specs.declared.ast.Node.TheOpen as form
use Rattle.eb_syntax.specs.declared.ast.Constant.{Constant}
use Rattle.eb_syntax.specs.declared.ast.Constant.TheVariants.{EmptySet}
use Rattle.eb_syntax.specs.declared.ast.Quantifier.{Quantifier}
use Rattle.eb_syntax.specs.declared.ast.Binder.{Binder}
use Rattle.eb_syntax.specs.declared.ast.Bound.{Bound}
use Rattle.eb_syntax.specs.declared.ast.Identifier.{Identifier}
use Rattle.numbered_names.specs.declared.entries.Entry.{Entry}
use Rattle.numbered_names.specs.Names.{Names, entry, entries, is_mark, oldest, inner_number, after_use, after_mark, bind_all, bind_bound, unbind, enter, leave}
use Rattle.eb_resolved.specs.declared.resolved.Resolved.{Resolved}
use Rattle.eb_resolved.specs.Formulas as made

abbrev pub Reader : Type 0
Reader = Names → Resolved × Names

-- the identifiers with their numbers, of which the first has this one
abbrev pub entries_from : ℕ → List Identifier → List Entry
entries_from n [] = []
entries_from n (x ∷ xs) = entry x.name n ∷ entries_from (n + 1) xs

abbrev pub meant : ℕ → List ℕ → Option ℕ → Resolved
meant place x (Some k) = made.identifier place k
meant place x None = made.unknown place x false

-- what a name stands for where it is used without a `'`: what is bound or built, or else what the model declares
abbrev pub used_as : List Entry → ℕ → List ℕ → Reader
used_as scope place x s = (meant place x (option_or (inner_number x s) (oldest x scope)), after_use x s)

-- a name with a `'` stands for what the model declares
abbrev pub primed_as : ℕ → List ℕ → Option ℕ → Resolved
primed_as place x (Some k) = made.primed place k
primed_as place x None = made.unknown place x true

-- a mark has the next number
abbrev pub constant : ℕ → Constant → Reader
constant place c s = if is_mark c then (made.mark place c s.next, after_mark s) else (made.constant place c, s)

abbrev pub one : (Resolved → Resolved) → Reader → Reader
one make f s = let r = f s in (make r.0, r.1)

abbrev pub two : (Resolved → Resolved → Resolved) → Reader → Reader → Reader
two make f g s = let l = f s in let r = g l.1 in (make l.0 r.0, r.1)

abbrev pub each : List Reader → Names → List Resolved × Names
each [] s = ([], s)
each (f ∷ fs) s = let r = f s in let q = each fs r.1 in (r.0 ∷ q.0, q.1)

abbrev pub all : (List Resolved → Resolved) → List Reader → Reader
all make fs s = let r = each fs s in (make r.0, r.1)

-- `{` and `}` apart are `{}`
abbrev pub extension : ℕ → List Reader → Reader
extension place [] s = constant place EmptySet s
extension place (f ∷ fs) s = all (made.extension place) (f ∷ fs) s

-- what stands under a binder that makes the first names from the others
abbrev pub under : Names → Reader → Reader
under inner f s = let r = f inner in (r.0, unbind (length s.bound) r.1)

abbrev pub quantified : ℕ → Quantifier → List Identifier → Reader → Reader
quantified place q xs f s = under (bind_all s xs) (one (made.quantifier place q (entries_from s.next xs)) f) s

abbrev pub bound_by : ℕ → Binder → Bound → Reader → Reader → Reader
bound_by place op b f g s = under (bind_bound s b) (two (made.binder place op b s.next) f g) s

-- {x.P|E}
abbrev pub comprehension : ℕ → List Identifier → Reader → Reader → Reader
comprehension place xs f g s = under (bind_all s xs) (two (made.comprehension place (entries_from s.next xs)) f g) s

-- {E|P}
abbrev pub built : ℕ → Reader → Reader → Reader
built place f g s = let l = f (enter s.next) in let r = g (leave s l.1) in (made.builder place (entries l.1.built) l.0 r.0, unbind (length s.bound) r.1)

abbrev pub resolve_step : List Entry → ℕ → Node-F (ℕ → Reader) Reader → Reader
resolve_step scope place (form.Number n) s = (made.number place n, s)
resolve_step scope place (form.Identifier x) s = used_as scope place x s
resolve_step scope place (form.Primed x) s = (primed_as place x (oldest x scope), s)
resolve_step scope place (form.Constant c) s = constant place c s
resolve_step scope place (form.Prefix op f) s = one (made.prefix place op) f s
resolve_step scope place (form.Call op f) s = one (made.call place op) f s
resolve_step scope place (form.Parentheses f) s = f s
resolve_step scope place (form.Inverse f) s = one (made.inverse place) f s
resolve_step scope place (form.Operator op f g) s = two (made.operator place op) f g s
resolve_step scope place (form.Quantifier q xs f) s = quantified place q xs f s
resolve_step scope place (form.Binder op b f g) s = bound_by place op b f g s
resolve_step scope place (form.Comprehension xs f g) s = comprehension place xs f g s
resolve_step scope place (form.Builder f g) s = built place f g s
resolve_step scope place (form.Extension fs) s = extension place fs s
resolve_step scope place (form.Partition fs) s = all (made.partition place) fs s

-- a formula with numbers in place of names, and the names behind it
abbrev pub resolved : List Entry → Ast → Reader
resolved scope = fold-Ast (ℕ → Reader) Reader (λ n place. resolve_step scope place n) (λ a. a.node a.place)
