-- Counting the numbers below an end that pass a test.
use Rattle.std.proofs.Common.{◌≡◌, ℕ, ◌+◌, ◌-◌, ◌*◌, ◌/◌, ◌%◌, ◌<◌, ◌≤◌, suc, zero, Bool, true, false, ◌&&◌, refl, sym, ap, ◌∙◌, arith, if◌then◌else◌, zero-mul}
use Rattle.moment_core.specs.Ranks.{count_below}
use Rattle.moment_core.proofs.Counting.{count-same}
use Rattle.sieve_core.specs.Times.{both}

pub count-zero : (f : ℕ → Bool) → count_below f 0 ≡ 0
unfolding count_below
count-zero f = refl

pub count-suc : (f : ℕ → Bool) (n : ℕ) → count_below f (suc n)
    ≡ count_below f n + (if f n then 1 else 0)
unfolding count_below
count-suc f n = refl

pub count-split : (f : ℕ → Bool) (a b : ℕ) → count_below f (a + b) ≡ count_below f a + count_below
    (λ k. f (a + k)) b
unfolding count_below
count-split f a zero = let e : a + 0 ≡ a = omega arith in rw e (omega arith)
count-split f a (suc b) = let e : a + suc b ≡ suc (a + b) = omega arith in rw (e, count-split f a b)
    (omega arith)

pub count-none : (f : ℕ → Bool) (n : ℕ) → ((k : ℕ) → k < n → f k ≡ false) → count_below f n ≡ 0
unfolding count_below
count-none f zero none = refl
count-none f (suc n) none =
    rw (count-none f n (λ k below. none k (omega arith)), none n (omega arith)) refl

pub count-stays : (f : ℕ → Bool) (a b : ℕ) → a ≤ b → ((k : ℕ) → a ≤ k → f k ≡ false)
    → count_below f b ≡ count_below f a
count-stays f a b le none =
    let whole : a + (b - a) ≡ b = omega arith in
    let rest = count-none (λ k. f (a + k)) (b - a) (λ k below. none (a + k) (omega arith)) in
    ap (count_below f) (sym whole) ∙ count-split f a (b - a) ∙ omega (arith, rest)

pub count_mono : (f : ℕ → Bool) (a b : ℕ) → a ≤ b → count_below f a ≤ count_below f b
count_mono f a b le =
    let whole : a + (b - a) ≡ b = omega arith in
    omega (arith, count-split f a (b - a), ap (count_below f) whole)

pub count_le : (f : ℕ → Bool) (n : ℕ) → count_below f n ≤ n
unfolding count_below
count_le f zero = omega arith
count_le f (suc n) = step (f n) (count_below f n) n (count_le f n)
  where
    step : (b : Bool) (c n : ℕ) → c ≤ n → c + (if b then 1 else 0) ≤ suc n
    step true c n le = omega arith
    step false c n le = omega arith

-- with a fixed condition
pub count-fixed : (b : Bool) (q : ℕ → Bool) (n : ℕ) → count_below (λ k. b && q k) n
    ≡ (if b then count_below q n else 0)
count-fixed true q n = refl
count-fixed false q n = count-none (λ k. false) n (λ k below. refl)

-- numbers of two digits
both-low : (p q : ℕ → Bool) (h k : ℕ) → k < 60 → both p q (h * 60 + k) ≡ (p h && q k)
unfolding both
both-low p q h k below =
    let high : (h * 60 + k) / 60 ≡ h = omega arith in
    let low : (h * 60 + k) % 60 ≡ k = omega arith in
    rw (high, low) refl

both-block : (p q : ℕ → Bool) (h l : ℕ) → l ≤ 60 → count_below (both p q) (h * 60 + l)
    ≡ count_below (both p q) (h * 60) + (if p h then count_below q l else 0)
both-block p q h l le =
    count-split (both p q) (h * 60) l
    ∙ ap (λ n. count_below (both p q) (h * 60) + n) (count-same (λ k. both p q (h * 60 + k))
    (λ k. p h && q k) l (λ k below. both-low p q h k (omega arith)) ∙ count-fixed (p h) q l)

times-more : (b : Bool) (c q : ℕ) → c * q + (if b then q else 0) ≡ (c + (if b then 1 else 0)) * q
times-more true c q = omega arith
times-more false c q = omega arith

both-blocks : (p q : ℕ → Bool) (h : ℕ) → count_below (both p q) (h * 60)
    ≡ count_below p h * count_below q 60
both-blocks p q zero = ap (count_below (both p q)) (zero-mul 60) ∙ count-zero (both p q)
    ∙ rw (count-zero p) (sym (zero-mul (count_below q 60)))
both-blocks p q (suc h) =
    let more : suc h * 60 ≡ h * 60 + 60 = omega arith in
    ap (count_below (both p q)) more ∙ both-block p q h 60 (omega arith)
    ∙ ap (λ n. n + (if p h then count_below q 60 else 0)) (both-blocks p q h)
    ∙ times-more (p h) (count_below p h) (count_below q 60) ∙ ap (λ n. n * count_below q 60)
    (sym (count-suc p h))

pub count-both : (p q : ℕ → Bool) (n : ℕ) → count_below (both p q) n ≡ count_below p (n / 60) *
    count_below q 60 + (if p (n / 60) then count_below q (n % 60) else 0)
count-both p q n =
    let whole : n / 60 * 60 + n % 60 ≡ n = omega arith in
    ap (count_below (both p q)) (sym whole) ∙ both-block p q (n / 60) (n % 60) (omega arith)
    ∙ ap (λ m. m + (if p (n / 60) then count_below q (n % 60) else 0)) (both-blocks p q (n / 60))

-- the same by cases
pub count-both-end : (p q : ℕ → Bool) (n : ℕ) → n % 60 ≡ 0 → count_below (both p q) n
    ≡ count_below p (n / 60) * count_below q 60
count-both-end p q n e =
    let whole : n / 60 * 60 ≡ n = omega arith in
    ap (count_below (both p q)) (sym whole) ∙ both-blocks p q (n / 60)

pub count-both-met : (p q : ℕ → Bool) (n : ℕ) → p (n / 60) ≡ true → count_below (both p q) n
    ≡ count_below p (n / 60) * count_below q 60 + count_below q (n % 60)
count-both-met p q n e = count-both p q n ∙ rw e refl

pub count-both-unmet : (p q : ℕ → Bool) (n : ℕ) → p (n / 60) ≡ false → count_below (both p q) n
    ≡ count_below p (n / 60) * count_below q 60
count-both-unmet p q n e = count-both p q n ∙ rw e (omega arith)

-- one number more
pub count-met : (f : ℕ → Bool) (n : ℕ) → f n ≡ true → count_below f (n + 1) ≡ count_below f n + 1
count-met f n e = let next : n + 1 ≡ suc n = omega arith in ap (count_below f) next ∙ count-suc f n
    ∙ rw e refl

pub count-unmet : (f : ℕ → Bool) (n : ℕ) → f n ≡ false → count_below f (n + 1) ≡ count_below f n
count-unmet f n e = let next : n + 1 ≡ suc n = omega arith in ap (count_below f) next
    ∙ count-suc f n ∙ rw e (omega arith)
