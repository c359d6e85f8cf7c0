-- The equations of a formula, as the code makes them: a means of proof.
use Rattle.std.specs.Prelude.{◌≡◌, ℕ, ◌+◌, if◌then◌else◌, nat_lt, List, [], ◌∷◌, ◌++◌, Option, Some, None, fold, max}
use Rattle.eb_syntax.specs.declared.ast.Mark.{Mark}
use Rattle.eb_syntax.specs.declared.ast.Mark.TheVariants as mark
use Rattle.type_equations.specs.declared.equation.Equation.{Equation}
use Rattle.type_equations.specs.declared.equation.Equation.TheVariants as eq
use Rattle.type_table.specs.declared.pattern.Letter.{Letter}
use Rattle.type_table.specs.declared.pattern.Letter.TheVariants.{A, B, C, D}
use Rattle.type_table.specs.declared.pattern.Pattern.{Pattern}
use Rattle.type_table.specs.declared.pattern.Pattern.TheVariants as p
use Rattle.eb_typing.specs.declared.generated.Found.{Found}
use Rattle.eb_typing.specs.declared.generated.Found.TheVariants.{Predicate, Expression}
use Rattle.eb_typing.specs.declared.generated.Letters.{Letters}
use Rattle.eb_typing.specs.declared.generated.Generated.{Generated}
use Rattle.eb_typing.specs.Numbering.{Numbered, typed, unknown, tuple, made, Parts, none, also}
use Rattle.eb_resolved.specs.Patterns.{Group, ungrouped}

abbrev pub letter : Letters → Letter → ℕ
letter l A = l.a
letter l B = l.b
letter l C = l.c
letter l D = l.d

abbrev pub nothing : ℕ → Generated
nothing n = record { next = n; equations = [] }

abbrev pub put : Equation → Generated → Generated
put e g = record { next = g.next; equations = g.equations ++ e ∷ [] }

abbrev pub after_fresh : Generated → Generated
after_fresh g = record { next = g.next + 1; equations = g.equations }

-- a new number with what an equation says of it
abbrev pub new : (ℕ → Equation) → Generated → ℕ × Generated
new f g = (g.next, put (f g.next) (after_fresh g))

abbrev pub integer : Generated → ℕ × Generated
integer g = new eq.Integer g

abbrev pub boolean : Generated → ℕ × Generated
boolean g = new eq.Boolean g

abbrev pub carrier : ℕ → Generated → ℕ × Generated
carrier place g = new (λ n. eq.Carrier n place) g

abbrev pub power : ℕ → Generated → ℕ × Generated
power m g = new (λ n. eq.Power n m) g

abbrev pub product : ℕ → ℕ → Generated → ℕ × Generated
product j k g = new (λ n. eq.Product n j k) g

abbrev pub contradict : ℕ → Generated → Generated
contradict n g = put (eq.Boolean n) (put (eq.Integer n) g)

-- the type with the number k is that of the relations from one type to another
abbrev pub state_relation : ℕ → ℕ → ℕ → Generated → Generated
state_relation k i j g = let q = product i j g in put (eq.Power k q.0) q.1

-- what a pattern says of the type with the number k
abbrev pub state_relations : Letters → Pattern → ℕ → Generated → Generated
state_relations l (p.Relation x y) k g = state_relation k (letter l x) (letter l y) g
state_relations l (p.Relations x y) k g = state_relation g.next (letter l x) (letter l y) (put (eq.Power k g.next) (after_fresh g))
state_relations l p.ToPairs k g = let q = product l.b l.c g in state_relation k l.a q.0 q.1
state_relations l p.BetweenPairs k g = let q = product l.a l.b g in let r = product l.c l.d q.1 in state_relation k q.0 r.0 r.1
state_relations l p.ToFirst k g = let q = product l.a l.b g in state_relation k q.0 l.a q.1
state_relations l p.ToSecond k g = let q = product l.a l.b g in state_relation k q.0 l.b q.1
state_relations l _ k g = contradict k g

abbrev pub state_sets : Letters → Pattern → ℕ → Generated → Generated
state_sets l p.Integers k g = let q = integer g in put (eq.Power k q.0) q.1
state_sets l p.Booleans k g = let q = boolean g in put (eq.Power k q.0) q.1
state_sets l (p.Atoms s) k g = let q = carrier s g in put (eq.Power k q.0) q.1
state_sets l (p.Set x) k g = put (eq.Power k (letter l x)) g
state_sets l (p.Sets x) k g = let q = power (letter l x) g in put (eq.Power k q.0) q.1
state_sets l _ k g = contradict k g

abbrev pub state : Letters → Pattern → ℕ → Generated → Generated
state l p.Predicate k g = contradict k g
state l p.Integer k g = put (eq.Integer k) g
state l p.Boolean k g = put (eq.Boolean k) g
state l (p.Type x) k g = put (eq.Same k (letter l x)) g
state l (p.Pair x y) k g = put (eq.Product k (letter l x) (letter l y)) g
state l p.Integers k g = state_sets l p.Integers k g
state l p.Booleans k g = state_sets l p.Booleans k g
state l (p.Atoms s) k g = state_sets l (p.Atoms s) k g
state l (p.Set x) k g = state_sets l (p.Set x) k g
state l (p.Sets x) k g = state_sets l (p.Sets x) k g
state l (p.Relation x y) k g = state_relations l (p.Relation x y) k g
state l (p.Relations x y) k g = state_relations l (p.Relations x y) k g
state l p.ToPairs k g = state_relations l p.ToPairs k g
state l p.BetweenPairs k g = state_relations l p.BetweenPairs k g
state l p.ToFirst k g = state_relations l p.ToFirst k g
state l p.ToSecond k g = state_relations l p.ToSecond k g

-- a new number for what the pattern says
abbrev pub stated : Letters → Pattern → Generated → Found × Generated
stated l q g = (Expression g.next, state l q g.next (after_fresh g))

-- what is as the pattern says
abbrev pub build : Letters → Pattern → Generated → Found × Generated
build l p.Predicate g = (Predicate, g)
build l (p.Type x) g = (Expression (letter l x), g)
build l p.Integer g = stated l p.Integer g
build l p.Boolean g = stated l p.Boolean g
build l (p.Pair x y) g = stated l (p.Pair x y) g
build l p.Integers g = stated l p.Integers g
build l p.Booleans g = stated l p.Booleans g
build l (p.Atoms s) g = stated l (p.Atoms s) g
build l (p.Set x) g = stated l (p.Set x) g
build l (p.Sets x) g = stated l (p.Sets x) g
build l (p.Relation x y) g = stated l (p.Relation x y) g
build l (p.Relations x y) g = stated l (p.Relations x y) g
build l p.ToPairs g = stated l p.ToPairs g
build l p.BetweenPairs g = stated l p.BetweenPairs g
build l p.ToFirst g = stated l p.ToFirst g
build l p.ToSecond g = stated l p.ToSecond g

-- the part is as the pattern says
abbrev pub no_expression : Pattern → Generated → Generated
no_expression p.Predicate g = g
no_expression _ g = contradict 0 g

abbrev pub fit : Letters → Pattern → Found → Generated → Generated
fit l q Predicate g = no_expression q g
fit l q (Expression k) g = state l q k g

abbrev pub letters_at : ℕ → Letters
letters_at n = record { a = n; b = n + 1; c = n + 1 + 1; d = n + 1 + 1 + 1 }

abbrev pub rank : Letter → ℕ
rank A = 1
rank B = 2
rank C = 3
rank D = 4

-- how many letters there are up to the last one that a pattern has
abbrev pub width : Pattern → ℕ
width p.Predicate = 0
width p.Integer = 0
width p.Boolean = 0
width p.Integers = 0
width p.Booleans = 0
width (p.Atoms s) = 0
width (p.Type x) = rank x
width (p.Set x) = rank x
width (p.Sets x) = rank x
width (p.Pair x y) = max (rank x) (rank y)
width (p.Relation x y) = max (rank x) (rank y)
width (p.Relations x y) = max (rank x) (rank y)
width p.ToPairs = 3
width p.BetweenPairs = 4
width p.ToFirst = 2
width p.ToSecond = 2

abbrev pub widest : List Pattern → Pattern → ℕ
widest [] whole = width whole
widest (q ∷ qs) whole = max (width q) (widest qs whole)

-- that many letters have numbers
abbrev pub after_letters : ℕ → Generated → Generated
after_letters k g = record { next = g.next + k; equations = g.equations }

abbrev pub fits : Letters → List Pattern → List Found → Generated → Generated
fits l [] [] g = g
fits l (q ∷ qs) (f ∷ fs) g = fits l qs fs (fit l q f g)
fits l [] (f ∷ fs) g = contradict 0 g
fits l (q ∷ qs) [] g = contradict 0 g

-- parts and what is made of them
abbrev pub row : List Pattern → Pattern → List Found → Generated → Found × Generated
row qs whole fs g = let l = letters_at g.next in build l whole (fits l qs fs (after_letters (widest qs whole) g))

-- parts that are all as one pattern says
abbrev pub row_of_some : Pattern → Pattern → List Found → Generated → Found × Generated
row_of_some part whole fs g = let l = letters_at g.next in build l whole (fold (λ h f. fit l part f h) (after_letters (max (width part) (width whole)) g) fs)

abbrev pub row_of_all : Pattern → Pattern → List Found → Generated → Found × Generated
row_of_all part whole [] g = (Expression 0, contradict 0 g)
row_of_all part whole (f ∷ fs) g = row_of_some part whole (f ∷ fs) g

abbrev pub demand : Found → Generated → Generated
demand Predicate g = g
demand (Expression k) g = contradict k g

-- a number of the typing
abbrev pub checked : ℕ → ℕ → Generated → Generated
checked asked k g = if nat_lt k asked then g else contradict k g

abbrev pub paired_with : Option ℕ → ℕ → Generated → ℕ × Generated
paired_with None k g = (k, g)
paired_with (Some j) k g = product j k g

abbrev pub with_number : Group ℕ → ℕ × Generated → Group ℕ × Generated
with_number t q = (record { here = Some q.0; around = t.around; next = t.next + 1 }, q.1)

abbrev pub identified : ℕ → Group ℕ → Generated → Group ℕ × Generated
identified asked t g = with_number t (paired_with t.here t.next (checked asked t.next g))

abbrev pub opened : Group ℕ → Group ℕ
opened t = record { here = None; around = t.here ∷ t.around; next = t.next }

-- what a stack without its top is
abbrev pub Pops : List (Option ℕ) → List (Option ℕ) → Option (Option ℕ) → Type 0
Pops old new None = (old ≡ []) × (new ≡ [])
Pops old new (Some o) = old ≡ o ∷ new

abbrev pub closed_by : ℕ → Generated → List (Option ℕ) → Option ℕ → Group ℕ × Generated
closed_by n g (outer ∷ around) (Some k) = let q = paired_with outer k g in (record { here = Some q.0; around = around; next = n }, q.1)
closed_by n g (outer ∷ around) None = (record { here = None; around = around; next = n }, contradict 0 g)
closed_by n g [] here = (record { here = here; around = []; next = n }, contradict 0 g)

abbrev pub token : ℕ → Group ℕ × Generated → Mark → Group ℕ × Generated
token asked s (mark.Identifier x) = identified asked s.0 s.1
token asked s mark.MapsTo = s
token asked s mark.Open = (opened s.0, s.1)
token asked s mark.Close = closed_by s.0.next s.1 s.0.around s.0.here

abbrev pub tuple_end : Option ℕ → Generated → Found × Generated
tuple_end (Some k) g = (Expression k, g)
tuple_end None g = (Expression 0, contradict 0 g)

abbrev pub tuple_made : ℕ → List Mark → ℕ → Generated → Found × Generated
tuple_made asked ms n g = let s = fold (token asked) (ungrouped ℕ n, g) ms in tuple_end s.0.here s.1

-- a formula, and parts
abbrev mutual
  pub gen : ℕ → Numbered → Generated → Found × Generated
  gen asked (typed k) g = (Expression k, checked asked k g)
  gen asked unknown g = (Expression 0, contradict 0 g)
  gen asked (tuple ms n) g = tuple_made asked ms n g
  gen asked (made qs whole ts) g = let r = gens asked ts g in row qs whole r.0 r.1

  pub gens : ℕ → Parts → Generated → List Found × Generated
  gens asked none g = ([], g)
  gens asked (also t ts) g = let q = gen asked t g in let r = gens asked ts q.1 in (q.0 ∷ r.0, r.1)

-- a formula that is to be a predicate
abbrev pub demanded : ℕ → Numbered → Generated → Generated
demanded asked t g = let q = gen asked t g in demand q.0 q.1
