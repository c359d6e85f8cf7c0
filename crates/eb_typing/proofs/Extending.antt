-- Types for new numbers, which solve new equations.
use Rattle.std.proofs.Common.{◌≡◌, ◌∙◌, ℕ, zero, suc, ◌+◌, List, [], ◌∷◌, ◌++◌, length, refl, sym, ap, subst, arith, length-append}
use Rattle.std.specs.Prelude.{⊤, Some, slice_get}
use Rattle.eb_value.specs.declared.types.EbType.{EbType}
use Rattle.eb_value.specs.Types as type
use Rattle.type_equations.specs.declared.equation.Equation.{Equation}
use Rattle.type_equations.specs.declared.equation.Equation.TheVariants as eq
use Rattle.type_equations.specs.Equations.{Holds}
use Rattle.eb_typing.specs.declared.generated.Generated.{Generated}
use Rattle.eb_typing.specs.steps.Generating as g
use Rattle.eb_typing.proofs.Solving.{Fit, put_fits}

-- from the number n on these are the types
abbrev pub Has : (ℕ → EbType) → ℕ → List EbType → Type 0
Has σ n [] = ⊤
Has σ n (t ∷ ts) = (σ n ≡ t) × Has σ (n + 1) ts

pub has_front : (σ : ℕ → EbType) (n : ℕ) (xs ys : List EbType) → Has σ n (xs ++ ys) → Has σ n xs
has_front σ n [] ys h = tt
has_front σ n (x ∷ xs) ys h = (h.0, has_front σ (n + 1) xs ys h.1)

pub has_back : (σ : ℕ → EbType) (n : ℕ) (xs ys : List EbType) → Has σ n (xs ++ ys) → Has σ (n + length xs) ys
has_back σ n [] ys h = let e : n ≡ n + 0 = omega arith in subst (λ m. Has σ m ys) e h
has_back σ n (x ∷ xs) ys h =
    let e : n + 1 + length xs ≡ n + suc (length xs) = omega arith in
    subst (λ m. Has σ m ys) e (has_back σ (n + 1) xs ys h.1)

pub has_get : (σ : ℕ → EbType) (n k : ℕ) (ts : List EbType) (t : EbType) → Has σ n ts → slice_get ts k ≡ Some t → σ (n + k) ≡ t
has_get σ n k [] t h e = absurd cc
has_get σ n zero (x ∷ xs) t h e = let f : n + 0 ≡ n = omega arith in let i : x ≡ t = cc in rw f (h.0 ∙ i)
has_get σ n (suc k) (x ∷ xs) t h e =
    let f : n + suc k ≡ n + 1 + k = omega arith in rw f (has_get σ (n + 1) k xs t h.1 e)

-- There are types for the new numbers such that whatever has them, the types of the typing and what is given, and solves the
-- equations of before, solves the new ones too, and the fact is so.
pub record Grows (types : List EbType) (before after : Generated) (Given Fact : (ℕ → EbType) → Type 0) : Type 0 where
  pub more : List EbType
  pub next : after.next ≡ before.next + length more
  pub solves : (σ : ℕ → EbType) → Has σ 0 types → Has σ before.next more → Given σ → Fit σ before → Fit σ after × Fact σ

pub stays : {types : List EbType} (h : Generated) (G F : (ℕ → EbType) → Type 0) → ((σ : ℕ → EbType) → Has σ 0 types → G σ → F σ) → Grows types h h G F
stays h G F f = record { more = []; next = omega arith; solves = λ σ has more given fit. (fit, f σ has given) }

pub never : {types : List EbType} (h k : Generated) (G F : (ℕ → EbType) → Type 0) → k.next ≡ h.next → ((σ : ℕ → EbType) → G σ → ⊥) → Grows types h k G F
never h k G F e f = record { more = []; next = omega (arith, e); solves = λ σ has more given fit. absurd (f σ given) }

pub puts : {types : List EbType} (e : Equation) (h : Generated) (G : (ℕ → EbType) → Type 0) → ((σ : ℕ → EbType) → G σ → Holds σ e) → Grows types h (g.put e h) G G
puts e h G f = record { more = []; next = omega arith; solves = λ σ has more given fit. (put_fits σ e h fit (f σ given), given) }

pub then : {types : List EbType} (h k m : Generated) (G F E : (ℕ → EbType) → Type 0) → Grows types h k G F → Grows types k m F E → Grows types h m G E
then {types} h k m G F E a b = record {
  more = a.more ++ b.more;
  next = omega (arith, a.next, b.next, length-append a.more b.more);
  solves = λ σ has more given fit.
      let u = a.solves σ has (has_front σ h.next a.more b.more more) given fit in
      b.solves σ has (subst (λ n. Has σ n b.more) (sym a.next) (has_back σ h.next a.more b.more more)) u.1 u.0;
}

pub given : {types : List EbType} (h k : Generated) (G G' F : (ℕ → EbType) → Type 0) → ((σ : ℕ → EbType) → G' σ → G σ) → Grows types h k G F → Grows types h k G' (λ σ. G' σ × F σ)
given h k G G' F f a = record { more = a.more; next = a.next; solves = λ σ has more given fit. let u = a.solves σ has more (f σ given) fit in (u.0, (given, u.1)) }

pub weaker : {types : List EbType} (h k : Generated) (G F F' : (ℕ → EbType) → Type 0) → ((σ : ℕ → EbType) → F σ → F' σ) → Grows types h k G F → Grows types h k G F'
weaker h k G F F' f a = record { more = a.more; next = a.next; solves = λ σ has more given fit. let u = a.solves σ has more given fit in (u.0, f σ u.1) }

-- a new number of this type
pub news : {types : List EbType} (f : ℕ → Equation) (t : EbType) (h : Generated) (G : (ℕ → EbType) → Type 0) → ((σ : ℕ → EbType) → G σ → σ h.next ≡ t → Holds σ (f h.next)) → Grows types h (g.new f h).1 G (λ σ. G σ × (σ h.next ≡ t))
news f t h G holds = record {
  more = t ∷ [];
  next = refl;
  solves = λ σ has more given fit. (put_fits σ (f h.next) (g.after_fresh h) fit (holds σ given more.0), (given, more.0));
}

pub fresh : {types : List EbType} (t : EbType) (h : Generated) (G : (ℕ → EbType) → Type 0) → Grows types h (g.after_fresh h) G (λ σ. G σ × (σ h.next ≡ t))
fresh t h G = record { more = t ∷ []; next = refl; solves = λ σ has more given fit. (fit, (given, more.0)) }

pub new_power : {types : List EbType} (m : ℕ) (t : EbType) (h : Generated) (G : (ℕ → EbType) → Type 0) → ((σ : ℕ → EbType) → G σ → σ m ≡ t) → Grows types h (g.power m h).1 G (λ σ. G σ × (σ (g.power m h).0 ≡ type.power t))
new_power m t h G f = news (λ n. eq.Power n m) (type.power t) h G (λ σ given e. e ∙ ap type.power (sym (f σ given)))

pub new_product : {types : List EbType} (j k : ℕ) (s t : EbType) (h : Generated) (G : (ℕ → EbType) → Type 0) → ((σ : ℕ → EbType) → G σ → σ j ≡ s) → ((σ : ℕ → EbType) → G σ → σ k ≡ t)
    → Grows types h (g.product j k h).1 G (λ σ. G σ × (σ (g.product j k h).0 ≡ type.product s t))
new_product j k s t h G a b = news (λ n. eq.Product n j k) (type.product s t) h G (λ σ given e. e ∙ (ap (λ x. type.product x t) (sym (a σ given)) ∙ ap (type.product (σ j)) (sym (b σ given))))

-- a new number by one that is new as well, where nothing of them is kept
pub inner : {types : List EbType} (h k m : Generated) (G E : (ℕ → EbType) → Type 0) → Grows types h k G (λ σ. G σ × E σ) → Grows types k m (λ σ. G σ × E σ) (λ σ. G σ × E σ) → Grows types h m G G
inner h k m G E a b =
    let F : (ℕ → EbType) → Type 0 = λ σ. G σ × E σ in
    weaker h m G F G (λ σ e. e.0) (then h k m G F F a b)

pub power_put : {types : List EbType} (k m : ℕ) (t : EbType) (h : Generated) (G : (ℕ → EbType) → Type 0) → ((σ : ℕ → EbType) → G σ → σ k ≡ type.power t) → ((σ : ℕ → EbType) → G σ → σ m ≡ t) → Grows types h (g.put (eq.Power k m) h) G G
power_put k m t h G a b = puts (eq.Power k m) h G (λ σ e. a σ e ∙ ap type.power (sym (b σ e)))

pub relation_put : {types : List EbType} (k i j : ℕ) (s t : EbType) (h : Generated) (G : (ℕ → EbType) → Type 0) → ((σ : ℕ → EbType) → G σ → σ k ≡ type.power (type.product s t)) → ((σ : ℕ → EbType) → G σ → σ i ≡ s) → ((σ : ℕ → EbType) → G σ → σ j ≡ t)
    → Grows types h (g.state_relation k i j h) G G
relation_put k i j s t h G is a b =
    let q = g.product i j h in
    let E : (ℕ → EbType) → Type 0 = λ σ. σ q.0 ≡ type.product s t in
    let F : (ℕ → EbType) → Type 0 = λ σ. G σ × E σ in
    inner h q.1 (g.state_relation k i j h) G E (new_product i j s t h G a b) (power_put k q.0 (type.product s t) q.1 F (λ σ e. is σ e.0) (λ σ e. e.1))
