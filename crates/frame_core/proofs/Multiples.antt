-- Greatest common divisors and least common multiples.
use Rattle.std.proofs.Common.{◌≡◌, inl, inr, ap, refl, sym, subst, ◌∙◌, arith, ℕ, zero, suc, ◌+◌, ◌*◌, ◌/◌, ◌%◌, ◌<◌, ◌≤◌, ◌==◌, true, false, ◌&&◌, cond}
use Rattle.std.proofs.Math.Nat.{dvd-mul_left, dvd-mul_right, dvd_of_mul-dvd-mul_left, dvd_of_mul-dvd-mul_right, eq-zero_of_zero-dvd, le-mul_of_pos_right, mul-div_cancel', mul-div_cancel_left, mul-dvd-mul_left, mul-dvd-mul_right, mul_comm, mul_assoc}
use Rattle.std.proofs.lemmas.Bool.{and_parts, and_from, both_ways, cases_eq, cases_order, eq-eqb, eqb-true}
use Rattle.std.proofs.lemmas.Nat.Gcd.{IsGcd-from_mod, IsGcd-from_zero, dvd_of_mod-eq-zero, dvd_trans, le_from_IsGcd, le_of_dvd, mod-eq-zero_of_dvd, same_from_IsGcd}
use Rattle.std.specs.Int.{IsGcd, ◌∣◌}
use Rattle.frame_core.specs.Periods.{IsLeastCommon, greatest_common, greatest_up_to, in_width, least_common, period_of_rule}
use Rattle.moment_core.specs.declared.line.TheConstants.{G}

-- two numbers have a greatest common divisor, by Euclid's steps
some_gcd : (steps a b : ℕ) → b ≤ steps → (g : ℕ) × IsGcd a b g
some_gcd zero a b h = (a, IsGcd-from_zero a b (omega arith))
some_gcd (suc n) a b h = elim (cases_eq b 0) [
  | inl none ↦ (a, IsGcd-from_zero a b none)
  | inr some ↦
      let positive : 0 < b = omega arith in
      let r = some_gcd n b (a % b) (omega arith) in
      (r.0, IsGcd-from_mod a b r.0 r.1)
]

divides_both : (a b g n : ℕ) → IsGcd a b g → g ≡ n → (a % n == 0 && b % n == 0) ≡ true
divides_both a b g n h e =
    let P : ℕ → Type 0 = λ m. (a % m == 0 && b % m == 0) ≡ true in
    subst P e (and_from (a % g == 0) (b % g == 0)
    (eq-eqb (a % g) 0 (mod-eq-zero_of_dvd g h.0)) (eq-eqb (b % g) 0 (mod-eq-zero_of_dvd g h.1)))

-- the search from n down finds it, where it is at most n
greatest_up_to-finds : (n a b g : ℕ) → IsGcd a b g → 0 < g → g ≤ n → greatest_up_to n a b ≡ g
unfolding greatest_up_to
greatest_up_to-finds zero a b g h positive le = absurd (omega arith)
greatest_up_to-finds (suc n) a b g h positive le =
    elim (a % suc n == 0 && b % suc n == 0) as (λ t. (a % suc n == 0 && b % suc n == 0) ≡ t
    → cond t (suc n) (greatest_up_to n a b) ≡ g) [
      | true ↦ λ e.
          let parts = and_parts (a % suc n == 0) (b % suc n == 0) e in
          let most : suc n ≤ g = le_from_IsGcd a b g (suc n) h positive
          (dvd_of_mod-eq-zero (suc n) (eqb-true (a % suc n) 0 parts.0))
          (dvd_of_mod-eq-zero (suc n) (eqb-true (b % suc n) 0 parts.1)) in
          omega arith
      | false ↦ λ e. elim (cases_order g (suc n)) [
        | inl here ↦ absurd (both_ways (a % suc n == 0 && b % suc n == 0) e
            (divides_both a b g (suc n) h here))
        | inr other ↦ elim other [
          | inl below ↦ greatest_up_to-finds n a b g h positive (omega arith)
          | inr above ↦ absurd (omega arith)
        ]
      ]
    ] refl

gcd_positive : (a b g : ℕ) → IsGcd a b g → 0 < a + b → 0 < g
gcd_positive a b g h some = elim (cases_eq g 0) [
  | inl none ↦
      let P : ℕ → Type 0 = λ d. d ∣ a in
      let Q : ℕ → Type 0 = λ d. d ∣ b in
      let x : a ≡ 0 = eq-zero_of_zero-dvd (subst P none h.0) in
      let y : b ≡ 0 = eq-zero_of_zero-dvd (subst Q none h.1) in
      absurd (omega arith)
  | inr there ↦ omega arith
]

gcd_at_most : (a b g : ℕ) → IsGcd a b g → 0 < a + b → g ≤ a + b
gcd_at_most a b g h some = elim (cases_eq a 0) [
  | inl none ↦ let le : g ≤ b = le_of_dvd (omega arith) h.1 in omega arith
  | inr there ↦ let le : g ≤ a = le_of_dvd (omega arith) h.0 in omega arith
]

pub greatest_common-IsGcd : (a b : ℕ) → IsGcd a b (greatest_common a b)
unfolding greatest_common greatest_up_to
greatest_common-IsGcd a b =
    let P : ℕ → Type 0 = λ g. IsGcd a b g in
    elim (cases_eq (a + b) 0) [
      | inl none ↦
          let x : a ≡ 0 = omega arith in
          let y : b ≡ 0 = omega arith in
          let e : a ≡ greatest_up_to (a + b) a b = x ∙ sym (ap (λ n. greatest_up_to n a b) none) in
          subst P e (IsGcd-from_zero a b y)
      | inr there ↦
          let r = some_gcd b a b (omega arith) in
          let g : ℕ = r.0 in
          let h : IsGcd a b g = r.1 in
          subst P (sym (greatest_up_to-finds (a + b) a b g h (gcd_positive a b g h (omega arith))
          (gcd_at_most a b g h (omega arith)))) h
    ]

pub greatest_common-is : (a b g : ℕ) → IsGcd a b g → g ≡ greatest_common a b
greatest_common-is a b g h = same_from_IsGcd a b g (greatest_common a b) h
    (greatest_common-IsGcd a b)

pub greatest_common-positive : (a b : ℕ) → 0 < a + b → 0 < greatest_common a b
greatest_common-positive a b some = gcd_positive a b (greatest_common a b)
    (greatest_common-IsGcd a b) some

-- a product divided by a divisor of one factor
pub div-of_left : (a b g : ℕ) → 0 < g → g ∣ a → a * b / g ≡ a / g * b
div-of_left a b g positive h =
    let whole : g * (a / g) ≡ a = mul-div_cancel' g h in
    let e : a * b ≡ g * (a / g * b) = ap (λ x. x * b) (sym whole) ∙ mul_assoc g (a / g) b in
    ap (λ x. x / g) e ∙ mul-div_cancel_left (a / g * b) positive

pub div-of_right : (a b g : ℕ) → 0 < g → g ∣ b → a * b / g ≡ a * (b / g)
div-of_right a b g positive h =
    ap (λ x. x / g) (mul_comm a b) ∙ div-of_left b a g positive h ∙ mul_comm (b / g) a

-- the least common multiple, as a multiple of either
pub least_common-left : (a b : ℕ) → 0 < a → least_common a b ≡ a / greatest_common a b * b
unfolding least_common
least_common-left a b some =
    div-of_left a b (greatest_common a b) (greatest_common-positive a b (omega arith))
    (greatest_common-IsGcd a b).0

pub least_common-right : (a b : ℕ) → 0 < a → least_common a b ≡ a * (b / greatest_common a b)
unfolding least_common
least_common-right a b some =
    div-of_right a b (greatest_common a b) (greatest_common-positive a b (omega arith))
    (greatest_common-IsGcd a b).1

divisor_positive : (d a : ℕ) → d ∣ a → 0 < a → 0 < d
divisor_positive d a h some = elim (cases_eq d 0) [
  | inl none ↦
      let P : ℕ → Type 0 = λ z. z ∣ a in
      let x : a ≡ 0 = eq-zero_of_zero-dvd (subst P none h) in
      absurd (omega arith)
  | inr there ↦ omega arith
]

pub least_common-positive : (a b : ℕ) → 0 < a → 0 < b → 0 < least_common a b
least_common-positive a b some other =
    let g = greatest_common a b in
    let P : ℕ → Type 0 = λ z. b / g ∣ z in
    let divides : b / g ∣ b = subst P (mul-div_cancel' g (greatest_common-IsGcd a b).1)
    (dvd-mul_left (b / g) g) in
    let part : 0 < b / g = divisor_positive (b / g) b divides other in
    rw (least_common-right a b some) (omega (arith, le-mul_of_pos_right a part))

-- it divides each common multiple n: with m the greatest common divisor of n and a * b, which a and
-- b divide, a * b is m * d for a common divisor d of a and b
least_common-divides : (a b n : ℕ) → 0 < a → 0 < b → a ∣ n → b ∣ n → least_common a b ∣ n
unfolding least_common
least_common-divides a b n some other x y =
    let g = greatest_common a b in
    let is = greatest_common-IsGcd a b in
    let m = greatest_common n (a * b) in
    let common = greatest_common-IsGcd n (a * b) in
    let d = a * b / m in
    let whole : m * d ≡ a * b = mul-div_cancel' m common.1 in
    let a_divides : a ∣ m = common.2 a x (dvd-mul_right a b) in
    let b_divides : b ∣ m = common.2 b y (dvd-mul_left b a) in
    let P : ℕ → Type 0 = λ z. b * d ∣ z in
    let Q : ℕ → Type 0 = λ z. a * d ∣ z in
    let left : d ∣ a = dvd_of_mul-dvd-mul_left d other
    (subst P (whole ∙ mul_comm a b) (mul-dvd-mul_right b b_divides d)) in
    let right : d ∣ b = dvd_of_mul-dvd-mul_left d some
    (subst Q whole (mul-dvd-mul_right a a_divides d)) in
    let divides : d ∣ g = is.2 d left right in
    let l = a * b / g in
    let product : g * l ≡ a * b = mul-div_cancel' g (dvd_trans g is.0 (dvd-mul_right a b)) in
    let R : ℕ → Type 0 = λ z. l * d ∣ z in
    let multiple : l * d ∣ m * d = subst R (mul_comm l g ∙ product ∙ sym whole)
    (mul-dvd-mul_left d l divides) in
    dvd_trans l (dvd_of_mul-dvd-mul_right l (divisor_positive d a left some) multiple) common.0

pub least_common-IsLeastCommon : (a b : ℕ) → 1 ≤ a → 1 ≤ b → IsLeastCommon a b (least_common a b)
least_common-IsLeastCommon a b some other = record {
  positive = least_common-positive a b some other;
  of_left = rw (least_common-right a b some) (dvd-mul_right a (b / greatest_common a b));
  of_right = rw (least_common-left a b some) (dvd-mul_left b (a / greatest_common a b));
  least = λ n positive x y. le_of_dvd positive (least_common-divides a b n some other x y);
}

-- what the code computes: one factor divided first
pub in_width-least_common : (a b g : ℕ) → 1 ≤ a → g ≡ greatest_common a b → in_width (a / g * b)
    ≡ in_width (least_common a b)
in_width-least_common a b g some e =
    ap in_width (ap (λ d. a / d * b) e ∙ sym (least_common-left a b some))

pub in_width-period_of_rule : (units interval g : ℕ) → 1 ≤ interval → g ≡ greatest_common interval
    units → in_width (G * (interval / g)) ≡ in_width (period_of_rule units interval)
unfolding period_of_rule
in_width-period_of_rule units interval g some e =
    ap in_width (ap (λ d. G * (interval / d)) e
    ∙ sym (div-of_right G interval (greatest_common interval units)
    (greatest_common-positive interval units (omega arith))
    (greatest_common-IsGcd interval units).0))

pub gcd_some : (a b g : ℕ) → 1 ≤ a → g ≡ greatest_common a b → 0 < g
gcd_some a b g some e =
    let positive = greatest_common-positive a b (omega arith) in
    omega arith

-- the period of a rule is m times 400 years, after which the interval has come round j times
pub period_of_rule-round : (units interval : ℕ) → 1 ≤ interval → (1 ≤ period_of_rule units interval)
    × ((m : ℕ) × (j : ℕ) × (period_of_rule units interval ≡ m * G) × (m * units ≡ j * interval))
unfolding period_of_rule
period_of_rule-round units interval some =
    let g = greatest_common interval units in
    let gcd = greatest_common-IsGcd interval units in
    let positive : 0 < g = greatest_common-positive interval units (omega arith) in
    let m = interval / g in
    let j = units / g in
    let of_interval : g * m ≡ interval = mul-div_cancel' g gcd.0 in
    let of_units : g * j ≡ units = mul-div_cancel' g gcd.1 in
    let period : G * interval / g ≡ m * G = div-of_right G interval g positive gcd.0
    ∙ mul_comm G m in
    let round : m * units ≡ j * interval = sym (ap (λ x. m * x) of_units) ∙ grind arith
    ∙ ap (λ x. j * x) of_interval in
    let more : 0 < m = elim (cases_eq m 0) [
      | inl none ↦ absurd (let zero : g * m ≡ 0 = rw none (omega arith) in omega arith)
      | inr there ↦ omega arith
    ] in
    (omega arith, (m, j, period, round))
