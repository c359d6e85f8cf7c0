-- Which tokens are units: contexts, machines, scopes and queries, after Abrial, "Modeling in Event-B" (2010).
--
--   text    = { context | machine | scope | queries }
--   context = "context" name ["extends" names] { "sets" names | "constants" names | "axioms" {labelled} } "end"
--   machine = "machine" name ["refines" name] ["sees" names]
--             { "variables" names | "invariants" {labelled} | "variant" [label] expr | "events" {event} } "end"
--   event   = ["ordinary" | "convergent" | "anticipated"] "event" name [("refines" | "extends") names]
--             ["any" names] [("where" | "when") {labelled}] ["with" {labelled}] [("then" | "begin") {action}] "end"
--   labelled = ["theorem"] label [":"] pred                action = label [":"] assignment
--   names   = name {[","] name}                            exprs  = expr {"," expr}
--   assignment = names ":=" exprs | name "(" expr ")" ":=" expr | name "::" expr | names ":|" pred
--   scope   = "scope" { "int" bound ".." bound | "size" name number | "depth" number } "end"      bound = ["-"] number
--   queries = "queries" {query} "end"
--   query   = "axioms" | "enabled" name | "invariant" name label | "deadlock" | "sequence" sequence
--           | "wd" name label | "theorem" name label | "goal" sequence ("take" name | "false" name number)
--   sequence = "[" [name {"," name}] "]"
--
-- pred and expr are formulas (eb_parser). Each relation says: this stands at the front of the first tokens, with the second
-- tokens behind it. A height is the greatest of the heights of the formulas in it, 0 where there is none.
use Rattle.std.specs.Prelude.{◌≡◌, ℕ, ℤ, pos, ◌-ℤ◌, int_le, max, Bool, true, false, List, [], ◌∷◌, length, codes, Option, Some, None}
use Rattle.eb_signs.specs.declared.sign.Sign.{Sign}
use Rattle.eb_signs.specs.declared.sign.Sign.TheVariants as s
use Rattle.eb_lexer.specs.declared.token.Token.{Token}
use Rattle.eb_lexer.specs.declared.token.TokenKind.TheVariants as kind
use Rattle.eb_syntax.specs.declared.ast.Ast.{Ast}
use Rattle.eb_syntax.specs.declared.ast.Identifier.{Identifier}
use Rattle.eb_syntax.specs.declared.query.Goal.{Goal}
use Rattle.eb_syntax.specs.declared.query.Goal.TheVariants as goals
use Rattle.eb_syntax.specs.declared.query.Query.{Query}
use Rattle.eb_syntax.specs.declared.query.Query.TheVariants as queries
use Rattle.eb_syntax.specs.declared.units.Label.{Label}
use Rattle.eb_syntax.specs.declared.units.LabelledPredicate.{LabelledPredicate}
use Rattle.eb_syntax.specs.declared.units.ContextClause.{ContextClause}
use Rattle.eb_syntax.specs.declared.units.ContextClause.TheVariants as parts
use Rattle.eb_syntax.specs.declared.units.Context.{Context}
use Rattle.eb_syntax.specs.declared.units.NamesClause.{NamesClause}
use Rattle.eb_syntax.specs.declared.units.PredicatesClause.{PredicatesClause}
use Rattle.eb_syntax.specs.declared.units.Convergence.{Convergence}
use Rattle.eb_syntax.specs.declared.units.Convergence.TheVariants as convergence
use Rattle.eb_syntax.specs.declared.units.Inheritance.{Inheritance}
use Rattle.eb_syntax.specs.declared.units.Inheritance.TheVariants as inherits
use Rattle.eb_syntax.specs.declared.units.Assignment.{Assignment}
use Rattle.eb_syntax.specs.declared.units.Assignment.TheVariants as becomes
use Rattle.eb_syntax.specs.declared.units.Action.{Action}
use Rattle.eb_syntax.specs.declared.units.Event.{Event}
use Rattle.eb_syntax.specs.declared.units.MachineClause.{MachineClause}
use Rattle.eb_syntax.specs.declared.units.MachineClause.TheVariants as clauses
use Rattle.eb_syntax.specs.declared.units.Refinement.{Refinement}
use Rattle.eb_syntax.specs.declared.units.Machine.{Machine}
use Rattle.eb_syntax.specs.declared.units.ScopeSetting.{ScopeSetting}
use Rattle.eb_syntax.specs.declared.units.ScopeSetting.TheVariants as settings
use Rattle.eb_syntax.specs.declared.units.ScopeBlock.{ScopeBlock}
use Rattle.eb_syntax.specs.declared.units.EbUnit.{EbUnit}
use Rattle.eb_syntax.specs.declared.units.EbUnit.TheVariants as unit
use Rattle.eb_parser.specs.declared.formulas.FormulaKind.TheVariants as formula
use Rattle.eb_parser.specs.Signs.{IsSign}
use Rattle.eb_parser.specs.Fronts.{Front}

-- this sign, at this place
pub data Next (sign : Sign) : List Token → ℕ → List Token → Type 0 where
  next : {ts : List Token} (t : Token) → IsSign t sign → Next sign (t ∷ ts) t.start ts

-- this sign or nothing
pub data Perhaps (sign : Sign) : List Token → List Token → Type 0 where
  present : {ts rest : List Token} {at : ℕ} → Next sign ts at rest → Perhaps sign ts rest
  absent : {ts : List Token} → Perhaps sign ts ts

-- this word, an identifier that is known by where it stands, at this place
pub data Keyword (text : List ℕ) : List Token → ℕ → List Token → Type 0 where
  keyword : {ts : List Token} (t : Token) → t.kind ≡ kind.Word text → Keyword text (t ∷ ts) t.start ts

-- a name with its place. No primed identifier is a name
pub data Named : List Token → Identifier → List Token → Type 0 where
  named : {ts : List Token} (t : Token) (x : List ℕ) → t.kind ≡ kind.Word x → Named (t ∷ ts) (record { name = x; place = t.start }) ts

pub data Labels : List Token → Label → List Token → Type 0 where
  labels : {ts : List Token} (t : Token) (x : List ℕ) → t.kind ≡ kind.Label x → Labels (t ∷ ts) (record { name = x; place = t.start }) ts

-- a number that is not negative. The lexer gives no other
pub data Numbered : List Token → ℤ → List Token → Type 0 where
  numbered : {ts : List Token} (t : Token) (n : ℤ) → t.kind ≡ kind.Number n → int_le (pos 0) n ≡ true → Numbered (t ∷ ts) n ts

-- any number of these, one behind the other
pub data Each {A : Type 0} (One : List Token → A → ℕ → List Token → Type 0) : List Token → List A → ℕ → List Token → Type 0 where
  none : {ts : List Token} → Each One ts [] 0 ts
  more : {ts us rest : List Token} {x : A} {xs : List A} {h k : ℕ} → One ts x h us → Each One us xs k rest → Each One ts (x ∷ xs) (max h k) rest

-- [","] name
pub data NextName : List Token → Identifier → ℕ → List Token → Type 0 where
  next_name : {ts us rest : List Token} {x : Identifier} → Perhaps s.Comma ts us → Named us x rest → NextName ts x 0 rest

-- names = name {[","] name}
pub data Names : List Token → List Identifier → List Token → Type 0 where
  names : {ts us rest : List Token} {x : Identifier} {xs : List Identifier} {h : ℕ} → Named ts x us → Each NextName us xs h rest → Names ts (x ∷ xs) rest

-- [sign names]
pub data NamesBehind (sign : Sign) : List Token → List Identifier → List Token → Type 0 where
  names_behind : {ts us rest : List Token} {at : ℕ} {xs : List Identifier} → Next sign ts at us → Names us xs rest → NamesBehind sign ts xs rest
  no_names : {ts : List Token} → NamesBehind sign ts [] ts

-- whether "theorem" stands here
pub data Marked : List Token → Bool → List Token → Type 0 where
  marked : {ts rest : List Token} {at : ℕ} → Next s.Theorem ts at rest → Marked ts true rest
  unmarked : {ts : List Token} → Marked ts false ts

-- labelled = ["theorem"] label [":"] pred
pub data Labelled : List Token → LabelledPredicate → ℕ → List Token → Type 0 where
  labelled : {ts us vs ws rest : List Token} {b : Bool} {l : Label} {a : Ast} {h : ℕ} → Marked ts b us → Labels us l vs → Perhaps s.MemberOf vs ws → Front formula.Pred ws a h rest
      → Labelled ts (record { is_theorem = b; label = l; predicate = a }) h rest

-- "," expr
pub data NextExpr : List Token → Ast → ℕ → List Token → Type 0 where
  next_expr : {ts us rest : List Token} {at : ℕ} {a : Ast} {h : ℕ} → Next s.Comma ts at us → Front formula.Expr us a h rest → NextExpr ts a h rest

-- exprs = expr {"," expr}
pub data Exprs : List Token → List Ast → ℕ → List Token → Type 0 where
  exprs : {ts us rest : List Token} {a : Ast} {es : List Ast} {h k : ℕ} → Front formula.Expr ts a h us → Each NextExpr us es k rest → Exprs ts (a ∷ es) (max h k) rest

-- The assignments. As many expressions as names stand behind ":=".
pub data Assigns : List Token → Assignment → ℕ → List Token → Type 0 where
  becomes_equal : {ts us vs rest : List Token} {at : ℕ} {xs : List Identifier} {es : List Ast} {h : ℕ} → Names ts xs us → Next s.Becomes us at vs → Exprs vs es h rest → length xs ≡ length es
      → Assigns ts (becomes.BecomesEqual xs es) h rest
  becomes_equal_at : {ts us vs ws xs ys rest : List Token} {at to of : ℕ} {x : Identifier} {e v : Ast} {h k : ℕ} → Named ts x us → Next s.LeftParenthesis us at vs → Front formula.Expr vs e h ws
      → Next s.RightParenthesis ws to xs → Next s.Becomes xs of ys → Front formula.Expr ys v k rest → Assigns ts (becomes.BecomesEqualAt x e v) (max h k) rest
  becomes_member : {ts us vs rest : List Token} {at : ℕ} {x : Identifier} {e : Ast} {h : ℕ} → Named ts x us → Next s.BecomesMember us at vs → Front formula.Expr vs e h rest
      → Assigns ts (becomes.BecomesMember x e) h rest
  becomes_such : {ts us vs rest : List Token} {at : ℕ} {xs : List Identifier} {a : Ast} {h : ℕ} → Names ts xs us → Next s.BecomesSuchThat us at vs → Front formula.Pred vs a h rest
      → Assigns ts (becomes.BecomesSuchThat xs a) h rest

-- action = label [":"] assignment
pub data Acts : List Token → Action → ℕ → List Token → Type 0 where
  acts : {ts us vs rest : List Token} {l : Label} {a : Assignment} {h : ℕ} → Labels ts l us → Perhaps s.MemberOf us vs → Assigns vs a h rest → Acts ts (record { label = l; assignment = a }) h rest

-- ---- contexts

pub data ContextPart : List Token → ContextClause → ℕ → List Token → Type 0 where
  sets : {ts us rest : List Token} {at : ℕ} {xs : List Identifier} → Next s.Sets ts at us → Names us xs rest → ContextPart ts (parts.Sets xs) 0 rest
  constants : {ts us rest : List Token} {at : ℕ} {xs : List Identifier} → Next s.Constants ts at us → Names us xs rest → ContextPart ts (parts.Constants xs) 0 rest
  axioms : {ts us rest : List Token} {at : ℕ} {ps : List LabelledPredicate} {h : ℕ} → Next s.Axioms ts at us → Each Labelled us ps h rest → ContextPart ts (parts.Axioms ps) h rest

pub data IsContext : List Token → Context → ℕ → List Token → Type 0 where
  context : {ts us vs ws xs rest : List Token} {at to : ℕ} {x : Identifier} {es : List Identifier} {cs : List ContextClause} {h : ℕ} → Next s.Context ts at us → Named us x vs → NamesBehind s.Extends vs es ws
      → Each ContextPart ws cs h xs → Next s.End xs to rest → IsContext ts (record { name = x; extends = es; clauses = cs }) h rest

-- ---- events

-- ["ordinary" | "convergent" | "anticipated"]
pub data Converges : List Token → Option Convergence → List Token → Type 0 where
  ordinary : {ts rest : List Token} {at : ℕ} → Next s.Ordinary ts at rest → Converges ts (Some convergence.Ordinary) rest
  convergent : {ts rest : List Token} {at : ℕ} → Next s.Convergent ts at rest → Converges ts (Some convergence.Convergent) rest
  anticipated : {ts rest : List Token} {at : ℕ} → Next s.Anticipated ts at rest → Converges ts (Some convergence.Anticipated) rest
  unsaid : {ts : List Token} → Converges ts None ts

-- sign names
pub data NamesPart (sign : Sign) : List Token → NamesClause → List Token → Type 0 where
  names_part : {ts us rest : List Token} {at : ℕ} {xs : List Identifier} → Next sign ts at us → Names us xs rest → NamesPart sign ts (record { place = at; names = xs }) rest

-- sign {labelled}
pub data PredicatesPart (sign : Sign) : List Token → PredicatesClause → ℕ → List Token → Type 0 where
  predicates_part : {ts us rest : List Token} {at : ℕ} {ps : List LabelledPredicate} {h : ℕ} → Next sign ts at us → Each Labelled us ps h rest
      → PredicatesPart sign ts (record { place = at; predicates = ps }) h rest

-- [("refines" | "extends") names]
pub data Inherits : List Token → Option Inheritance → List Token → Type 0 where
  refines : {ts rest : List Token} {c : NamesClause} → NamesPart s.Refines ts c rest → Inherits ts (Some (inherits.Refines c)) rest
  extends : {ts rest : List Token} {c : NamesClause} → NamesPart s.Extends ts c rest → Inherits ts (Some (inherits.Extends c)) rest
  inherits_nothing : {ts : List Token} → Inherits ts None ts

-- ["any" names]
pub data Parameters : List Token → Option NamesClause → List Token → Type 0 where
  any : {ts rest : List Token} {c : NamesClause} → NamesPart s.Any ts c rest → Parameters ts (Some c) rest
  no_parameters : {ts : List Token} → Parameters ts None ts

-- [("where" | "when") {labelled}]
pub data Guards : List Token → Option PredicatesClause → ℕ → List Token → Type 0 where
  where_part : {ts rest : List Token} {c : PredicatesClause} {h : ℕ} → PredicatesPart s.Where ts c h rest → Guards ts (Some c) h rest
  when_part : {ts rest : List Token} {c : PredicatesClause} {h : ℕ} → PredicatesPart s.When ts c h rest → Guards ts (Some c) h rest
  no_guards : {ts : List Token} → Guards ts None 0 ts

-- ["with" {labelled}]
pub data Witnesses : List Token → Option PredicatesClause → ℕ → List Token → Type 0 where
  with_part : {ts rest : List Token} {c : PredicatesClause} {h : ℕ} → PredicatesPart s.With ts c h rest → Witnesses ts (Some c) h rest
  no_witnesses : {ts : List Token} → Witnesses ts None 0 ts

-- [("then" | "begin") {action}]
pub data Does : List Token → List Action → ℕ → List Token → Type 0 where
  then_part : {ts us rest : List Token} {at : ℕ} {bs : List Action} {h : ℕ} → Next s.Then ts at us → Each Acts us bs h rest → Does ts bs h rest
  begin_part : {ts us rest : List Token} {at : ℕ} {bs : List Action} {h : ℕ} → Next s.Begin ts at us → Each Acts us bs h rest → Does ts bs h rest
  does_nothing : {ts : List Token} → Does ts [] 0 ts

pub data IsEvent : List Token → Event → ℕ → List Token → Type 0 where
  event : {ts us vs ws xs ys zs os cs rest : List Token} {at to : ℕ} {c : Option Convergence} {x : Identifier} {i : Option Inheritance} {p : Option NamesClause}
      {g w : Option PredicatesClause} {bs : List Action} {h k l : ℕ}
      → Converges ts c us → Next s.Event us at vs → Named vs x ws → Inherits ws i xs → Parameters xs p ys → Guards ys g h zs → Witnesses zs w k os → Does os bs l cs → Next s.End cs to rest
      → IsEvent ts (record { convergence = c; name = x; inheritance = i; parameters = p; guards = g; witnesses = w; actions = bs }) (max h (max k l)) rest

-- ---- machines

-- expr behind a label or none
pub data Variant : List Token → Option Label → Ast → ℕ → List Token → Type 0 where
  labelled_variant : {ts us rest : List Token} {l : Label} {a : Ast} {h : ℕ} → Labels ts l us → Front formula.Expr us a h rest → Variant ts (Some l) a h rest
  bare_variant : {ts rest : List Token} {a : Ast} {h : ℕ} → Front formula.Expr ts a h rest → Variant ts None a h rest

pub data MachinePart : List Token → MachineClause → ℕ → List Token → Type 0 where
  variables : {ts us rest : List Token} {at : ℕ} {xs : List Identifier} → Next s.Variables ts at us → Names us xs rest → MachinePart ts (clauses.Variables xs) 0 rest
  invariants : {ts us rest : List Token} {at : ℕ} {ps : List LabelledPredicate} {h : ℕ} → Next s.Invariants ts at us → Each Labelled us ps h rest → MachinePart ts (clauses.Invariants ps) h rest
  variant : {ts us rest : List Token} {at : ℕ} {l : Option Label} {a : Ast} {h : ℕ} → Next s.Variant ts at us → Variant us l a h rest → MachinePart ts (clauses.Variant l a) h rest
  events : {ts us rest : List Token} {at : ℕ} {es : List Event} {h : ℕ} → Next s.Events ts at us → Each IsEvent us es h rest → MachinePart ts (clauses.Events es) h rest

-- ["refines" name]
pub data Refines : List Token → Option Refinement → List Token → Type 0 where
  refined : {ts us rest : List Token} {at : ℕ} {x : Identifier} → Next s.Refines ts at us → Named us x rest → Refines ts (Some (record { place = at; machine = x })) rest
  unrefined : {ts : List Token} → Refines ts None ts

pub data IsMachine : List Token → Machine → ℕ → List Token → Type 0 where
  machine : {ts us vs ws xs ys rest : List Token} {at to : ℕ} {x : Identifier} {r : Option Refinement} {es : List Identifier} {cs : List MachineClause} {h : ℕ}
      → Next s.Machine ts at us → Named us x vs → Refines vs r ws → NamesBehind s.Sees ws es xs → Each MachinePart xs cs h ys → Next s.End ys to rest
      → IsMachine ts (record { place = at; name = x; refines = r; sees = es; clauses = cs }) h rest

-- ---- scopes

-- bound = ["-"] number
pub data Bounds : List Token → ℤ → List Token → Type 0 where
  positive : {ts rest : List Token} {n : ℤ} → Numbered ts n rest → Bounds ts n rest
  negative : {ts us rest : List Token} {at : ℕ} {n : ℤ} → Next s.Minus ts at us → Numbered us n rest → Bounds ts (pos 0 -ℤ n) rest

pub data Sets : List Token → ScopeSetting → ℕ → List Token → Type 0 where
  integers : {ts us vs ws rest : List Token} {at to : ℕ} {m n : ℤ} → Keyword (codes "int") ts at us → Bounds us m vs → Next s.UpTo vs to ws → Bounds ws n rest → Sets ts (settings.Integers at m n) 0 rest
  size : {ts us vs rest : List Token} {at : ℕ} {x : Identifier} {n : ℤ} → Keyword (codes "size") ts at us → Named us x vs → Numbered vs n rest → Sets ts (settings.Size x n) 0 rest
  depth : {ts us rest : List Token} {at : ℕ} {n : ℤ} → Keyword (codes "depth") ts at us → Numbered us n rest → Sets ts (settings.Depth at n) 0 rest

pub data IsScope : List Token → ScopeBlock → List Token → Type 0 where
  scope : {ts us vs rest : List Token} {at to h : ℕ} {ss : List ScopeSetting} → Keyword (codes "scope") ts at us → Each Sets us ss h vs → Next s.End vs to rest
      → IsScope ts (record { place = at; settings = ss }) rest

-- ---- queries

-- "," name
pub data NextEvent : List Token → List ℕ → ℕ → List Token → Type 0 where
  next_event : {ts us rest : List Token} {at : ℕ} {x : Identifier} → Next s.Comma ts at us → Named us x rest → NextEvent ts x.name 0 rest

-- sequence = "[" [name {"," name}] "]"
pub data Sequence : List Token → List (List ℕ) → List Token → Type 0 where
  empty : {ts us rest : List Token} {at to : ℕ} → Next s.LeftBracket ts at us → Next s.RightBracket us to rest → Sequence ts [] rest
  sequence : {ts us vs ws rest : List Token} {at to h : ℕ} {x : Identifier} {xs : List (List ℕ)} → Next s.LeftBracket ts at us → Named us x vs → Each NextEvent vs xs h ws → Next s.RightBracket ws to rest
      → Sequence ts (x.name ∷ xs) rest

pub data IsGoal : List Token → Goal → List Token → Type 0 where
  take_event : {ts us rest : List Token} {at : ℕ} {x : Identifier} → Keyword (codes "take") ts at us → Named us x rest → IsGoal ts (goals.Take x.name) rest
  false_guard : {ts us vs rest : List Token} {at : ℕ} {x : Identifier} {n : ℤ} → Next s.Falsity ts at us → Named us x vs → Numbered vs n rest → IsGoal ts (goals.False x.name n) rest

pub data IsQuery : List Token → Query → ℕ → List Token → Type 0 where
  ask_axioms : {ts rest : List Token} {at : ℕ} → Next s.Axioms ts at rest → IsQuery ts queries.Axioms 0 rest
  ask_enabled : {ts us rest : List Token} {at : ℕ} {x : Identifier} → Keyword (codes "enabled") ts at us → Named us x rest → IsQuery ts (queries.Enabled x.name) 0 rest
  ask_invariant : {ts us vs rest : List Token} {at : ℕ} {x : Identifier} {l : Label} → Keyword (codes "invariant") ts at us → Named us x vs → Labels vs l rest → IsQuery ts (queries.Invariant x.name l.name) 0 rest
  ask_deadlock : {ts rest : List Token} {at : ℕ} → Keyword (codes "deadlock") ts at rest → IsQuery ts queries.Deadlock 0 rest
  ask_sequence : {ts us rest : List Token} {at : ℕ} {xs : List (List ℕ)} → Keyword (codes "sequence") ts at us → Sequence us xs rest → IsQuery ts (queries.Sequence xs) 0 rest
  ask_wd : {ts us vs rest : List Token} {at : ℕ} {x : Identifier} {l : Label} → Keyword (codes "wd") ts at us → Named us x vs → Labels vs l rest → IsQuery ts (queries.WellDefined x.name l.name) 0 rest
  ask_theorem : {ts us vs rest : List Token} {at : ℕ} {x : Identifier} {l : Label} → Next s.Theorem ts at us → Named us x vs → Labels vs l rest → IsQuery ts (queries.Theorem x.name l.name) 0 rest
  ask_goal : {ts us vs rest : List Token} {at : ℕ} {xs : List (List ℕ)} {g : Goal} → Keyword (codes "goal") ts at us → Sequence us xs vs → IsGoal vs g rest → IsQuery ts (queries.Goal xs g) 0 rest

pub data IsQueries : List Token → List Query → List Token → Type 0 where
  block : {ts us vs rest : List Token} {at to h : ℕ} {qs : List Query} → Keyword (codes "queries") ts at us → Each IsQuery us qs h vs → Next s.End vs to rest → IsQueries ts qs rest

-- ---- texts

pub data IsUnit : List Token → EbUnit → ℕ → List Token → Type 0 where
  unit_context : {ts rest : List Token} {c : Context} {h : ℕ} → IsContext ts c h rest → IsUnit ts (unit.Context c) h rest
  unit_machine : {ts rest : List Token} {m : Machine} {h : ℕ} → IsMachine ts m h rest → IsUnit ts (unit.Machine m) h rest
  unit_scope : {ts rest : List Token} {b : ScopeBlock} → IsScope ts b rest → IsUnit ts (unit.Scope b) 0 rest
  unit_queries : {ts rest : List Token} {qs : List Query} → IsQueries ts qs rest → IsUnit ts (unit.Queries qs) 0 rest

-- the tokens of a text, all of them, are these units, and this is the greatest of the heights of their formulas
abbrev pub Reads : List Token → List EbUnit → ℕ → Type 0
Reads ts us h = Each IsUnit ts us h []
