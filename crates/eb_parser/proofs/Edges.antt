-- What may be taken on the right edge of a formula: an operator that may follow a formula is not taken inside it.
use Rattle.std.proofs.Common.{◌≡◌, ◌∙◌, ◌≤◌, ◌<◌, ℕ, min, Bool, true, false, List, ◌∷◌, refl, sym, ap, subst, arith, IsTrue}
use Rattle.std.specs.Prelude.{Option, Some, None, nat_le, ◌||◌, not}
use Rattle.std.proofs.lemmas.Bool.Decides.{nat_tests}
use Rattle.eb_signs.specs.declared.sign.Sign.{Sign}
use Rattle.eb_lexer.specs.declared.token.Token.{Token}
use Rattle.eb_syntax.specs.declared.ast.Prefix.{Prefix}
use Rattle.eb_syntax.specs.declared.ast.Prefix.TheVariants as prefix
use Rattle.eb_parser.specs.declared.part.Part.{Part}
use Rattle.eb_signs.specs.declared.levels.Group.{Group}
use Rattle.eb_signs.specs.declared.levels.Group.TheVariants as g
use Rattle.eb_parser.specs.declared.table.Follow.{Follow}
use Rattle.eb_signs.specs.Levels as level
use Rattle.eb_signs.specs.Levels.{is_pred, is_expr, group_of, level_of, admits, right_of, takes, prefix_level, prefix_takes}
use Rattle.eb_parser.specs.Signs.{IsSign}
use Rattle.eb_parser.specs.Grammar.{Derives, d_number, d_identifier, d_primed, d_constant, d_prefix, d_quantifier, d_call, d_partition, d_parentheses, d_binder, d_empty, d_extension, d_comprehension, d_builder, d_inverse, d_operator}
use Rattle.eb_parser.specs.steps.Tables.{follow_of, follow_kind, head_follow, row_of}
use Rattle.eb_parser.proofs.SignLaws.{follow_sign, follows_sign}

-- behind a bracket nothing is taken
abbrev pub edge_after : Group → ℕ → ℕ
edge_after g.Post e = 15
edge_after op e = min (right_of op) e

-- The least level at which an operand on the right edge was read.
unfoldable pub edge : {ts : List Token} {p : Part} → Derives ts p → ℕ
edge (d_number t n e) = 15
edge (d_identifier t x e) = 15
edge (d_primed t x e) = 15
edge (d_constant t c e) = 15
edge (d_prefix t op i d h) = min (prefix_level op) (edge d)
edge (d_quantifier t dot q i n j d h) = 0
edge (d_call t o c op i j d h l) = 15
edge (d_partition t o c i j r l) = 15
edge (d_parentheses o c i d j) = 15
edge (d_binder t dot bar op i b j d h l e m) = min level.expr (edge e)
edge (d_empty o c i j) = 15
edge (d_extension o c i r j) = 15
edge (d_comprehension o dot bar c i n j d h l e m q) = 15
edge (d_builder o bar c i d h j e l m) = 15
edge (d_inverse t d h l i) = 15
edge (d_operator t op cs d a c i e h l) = edge_after (group_of op) (edge e)

-- the next token is no operator of that level or above
abbrev pub Stops : ℕ → List Token → Type 0
Stops e rest = (f : Follow) → head_follow rest ≡ Some f → level_of (row_of f) < e

-- the least edge of a formula of a level
pub record Firm (level e : ℕ) : Type 0 where
  pub any : 1 ≤ e
  pub one : 1 ≤ level → 3 ≤ e
  pub four : 4 ≤ level → 4 ≤ e
  pub five : 5 ≤ level → 6 ≤ e
  pub six : 6 ≤ level → 7 ≤ e
  pub seven : 7 ≤ level → 8 ≤ e
  pub nine : 9 ≤ level → 10 ≤ e
  pub ten : 10 ≤ level → 11 ≤ e
  pub thirteen : 13 ≤ level → 15 ≤ e

step_test : ℕ → ℕ → ℕ → ℕ → Bool
step_test level e a c = not (nat_le a level) || nat_le c e

step_means : (level e a c : ℕ) → step_test level e a c ≡ true → a ≤ level → c ≤ e
unfolding step_test
step_means level e a c h i = grind (arith, nat_tests)

firm_top : (l : ℕ) → Firm l 15
firm_top l = record { any = omega arith; one = λ z. omega arith; four = λ z. omega arith; five = λ z. omega arith; six = λ z. omega arith; seven = λ z. omega arith; nine = λ z. omega arith; ten = λ z. omega arith; thirteen = λ z. omega arith }

-- by numbers alone
firm_at : (l e : ℕ) → nat_le 1 e ≡ true → step_test l e 1 3 ≡ true → step_test l e 4 4 ≡ true → step_test l e 5 6 ≡ true → step_test l e 6 7 ≡ true → step_test l e 7 8 ≡ true → step_test l e 9 10 ≡ true → step_test l e 10 11 ≡ true → step_test l e 13 15 ≡ true → Firm l e
firm_at l e z a b c d f h i j = record {
  any = grind (arith, nat_tests);
  one = step_means l e 1 3 a;
  four = step_means l e 4 4 b;
  five = step_means l e 5 6 c;
  six = step_means l e 6 7 d;
  seven = step_means l e 7 8 f;
  nine = step_means l e 9 10 h;
  ten = step_means l e 10 11 i;
  thirteen = step_means l e 13 15 j;
}

-- an operand at a level or above on the right edge
firm_from : (m level l e : ℕ) → m ≤ l → Firm level m → Firm l e → Firm level (min m e)
firm_from m level l e h f g = record {
  any = omega (arith, f.any, g.any);
  one = λ z. let a = f.one z in omega (arith, a, g.one (omega arith));
  four = λ z. let a = f.four z in omega (arith, a, g.four (omega arith));
  five = λ z. let a = f.five z in omega (arith, a, g.five (omega arith));
  six = λ z. let a = f.six z in omega (arith, a, g.six (omega arith));
  seven = λ z. let a = f.seven z in omega (arith, a, g.seven (omega arith));
  nine = λ z. let a = f.nine z in omega (arith, a, g.nine (omega arith));
  ten = λ z. let a = f.ten z in omega (arith, a, g.ten (omega arith));
  thirteen = λ z. let a = f.thirteen z in omega (arith, a, g.thirteen (omega arith));
}

pub takes_high : (op : Group) (l : ℕ) → IsTrue (takes op l) → right_of op ≤ l
takes_high op l h = grind (arith, nat_tests)

firm_joined : (op : Group) (l e : ℕ) → right_of op ≤ l → Firm l e → Firm (level_of op) (edge_after op e)
unfolding step_test
firm_joined g.Implication l e h f = firm_from 1 0 l e h (firm_at 0 1 refl refl refl refl refl refl refl refl refl) f
firm_joined g.Disjunction l e h f = firm_from 3 1 l e h (firm_at 1 3 refl refl refl refl refl refl refl refl refl) f
firm_joined g.Conjunction l e h f = firm_from 3 2 l e h (firm_at 2 3 refl refl refl refl refl refl refl refl refl) f
firm_joined g.Comparison l e h f = firm_from 4 3 l e h (firm_at 3 4 refl refl refl refl refl refl refl refl refl) f
firm_joined g.Maplet l e h f = firm_from 6 5 l e h (firm_at 5 6 refl refl refl refl refl refl refl refl refl) f
firm_joined g.Arrow l e h f = firm_from 7 6 l e h (firm_at 6 7 refl refl refl refl refl refl refl refl refl) f
firm_joined g.Set l e h f = firm_from 8 7 l e h (firm_at 7 8 refl refl refl refl refl refl refl refl refl) f
firm_joined g.Interval l e h f = firm_from 9 8 l e h (firm_at 8 9 refl refl refl refl refl refl refl refl refl) f
firm_joined g.Sum l e h f = firm_from 10 9 l e h (firm_at 9 10 refl refl refl refl refl refl refl refl refl) f
firm_joined g.Multiplication l e h f = firm_from 11 10 l e h (firm_at 10 11 refl refl refl refl refl refl refl refl refl) f
firm_joined g.Exponentiation l e h f = firm_from 11 12 l e h (firm_at 12 11 refl refl refl refl refl refl refl refl refl) f
firm_joined g.Post l e h f = firm_top 13

pub prefix_high : (op : Prefix) (l : ℕ) → IsTrue (prefix_takes op l) → prefix_level op ≤ l
prefix_high prefix.Not l h = grind (arith, nat_tests)
prefix_high prefix.Minus l h = grind (arith, nat_tests)

firm_prefix : (op : Prefix) (l e : ℕ) → prefix_level op ≤ l → Firm l e → Firm (prefix_level op) (min (prefix_level op) e)
unfolding step_test
firm_prefix prefix.Not l e h f = firm_from 3 3 l e h (firm_at 3 3 refl refl refl refl refl refl refl refl refl) f
firm_prefix prefix.Minus l e h f = firm_from 11 11 l e h (firm_at 11 11 refl refl refl refl refl refl refl refl refl) f

pub expr_high : (l : ℕ) → IsTrue (is_expr l) → level.expr ≤ l
expr_high l h = grind (arith, nat_tests)

firm_binder : (l e : ℕ) → IsTrue (is_expr l) → Firm l e → Firm 4 (min 4 e)
unfolding step_test
firm_binder l e h f = firm_from 4 4 l e (expr_high l h) (firm_at 4 4 refl refl refl refl refl refl refl refl refl) f

pub firm : {ts : List Token} {p : Part} (d : Derives ts p) → p.loose ≡ false → Firm p.level (edge d)
unfolding edge
firm (d_number t n e) z = firm_top _
firm (d_identifier t x e) z = firm_top _
firm (d_primed t x e) z = firm_top _
firm (d_constant t c e) z = firm_top _
firm (d_prefix t op i d h) z = firm_prefix op _ _ (prefix_high op _ h) (firm d z)
firm (d_quantifier t dot q i n j d h) z = absurd cc
firm (d_call t o c op i j d h l) z = firm_top _
firm (d_partition t o c i j r l) z = firm_top _
firm (d_parentheses o c i d j) z = firm_top _
firm (d_binder t dot bar op i b j d h l e m) z = firm_binder _ _ m (firm e z)
firm (d_empty o c i j) z = firm_top _
firm (d_extension o c i r j) z = firm_top _
firm (d_comprehension o dot bar c i n j d h l e m q) z = firm_top _
firm (d_builder o bar c i d h j e l m) z = firm_top _
firm (d_inverse t d h l i) z = firm_top _
firm (d_operator t op cs d a c i e h l) z = firm_joined (group_of op) _ _ (takes_high (group_of op) _ h) (firm e z)

-- An operator that may follow a formula is not taken inside it.
pub admitted : (op : Group) (l e : ℕ) → IsTrue (admits op l) → Firm l e → (level_of op < e) × (level_of op ≤ l)
admitted g.Implication l e h f = (omega (arith, f.any), omega arith)
admitted g.Disjunction l e h f = let a : 1 ≤ l = grind (arith, nat_tests) in (omega (arith, f.one a), a)
admitted g.Conjunction l e h f = let a : 2 ≤ l = grind (arith, nat_tests) in (omega (arith, f.one (omega arith)), a)
admitted g.Comparison l e h f = let a : 4 ≤ l = grind (arith, nat_tests) in (omega (arith, f.four a), omega arith)
admitted g.Maplet l e h f = let a : 5 ≤ l = grind (arith, nat_tests) in (omega (arith, f.five a), a)
admitted g.Arrow l e h f = let a : 6 ≤ l = grind (arith, nat_tests) in (omega (arith, f.six a), a)
admitted g.Set l e h f = let a : 7 ≤ l = grind (arith, nat_tests) in (omega (arith, f.seven a), a)
admitted g.Interval l e h f = let a : 9 ≤ l = grind (arith, nat_tests) in (omega (arith, f.nine a), omega arith)
admitted g.Sum l e h f = let a : 9 ≤ l = grind (arith, nat_tests) in (omega (arith, f.nine a), a)
admitted g.Multiplication l e h f = let a : 10 ≤ l = grind (arith, nat_tests) in (omega (arith, f.ten a), a)
admitted g.Exponentiation l e h f = let a : 13 ≤ l = grind (arith, nat_tests) in (omega (arith, f.thirteen a), omega arith)
admitted g.Post l e h f = let a : 13 ≤ l = grind (arith, nat_tests) in (omega (arith, f.thirteen a), a)

pub stops_less : (a c : ℕ) (rest : List Token) → a ≤ c → Stops a rest → Stops c rest
stops_less a c rest h s f e = omega (arith, s f e)

abbrev some : Follow → Option Follow
some x = Some x

-- a sign that stands between two formulas stops what is below its level
pub follow_stops : (f : Follow) (t : Token) (e : ℕ) (rest : List Token) → IsSign t (follow_sign f) → level_of (row_of f) < e → Stops e (t ∷ rest)
follow_stops f t e rest i h o w = subst (λ z. level_of (row_of z) < e) (same f o (sym (ap follow_kind i ∙ follows_sign f) ∙ w)) h
  where
    same : (x y : Follow) → some x ≡ Some y → x ≡ y
    same x y e = cc

-- a sign that goes on with no formula stops everything
pub sign_stops : (sg : Sign) (t : Token) (e : ℕ) (rest : List Token) → IsSign t sg → follow_of sg ≡ None → Stops e (t ∷ rest)
sign_stops sg t e rest i h o w = absurd (none_some o (sym (ap follow_kind i ∙ h) ∙ w))
  where
    none_some : (x : Follow) → None ≡ some x → ⊥
    none_some x e = cc
