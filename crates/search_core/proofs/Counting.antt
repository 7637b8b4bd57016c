-- What is counted over a stretch, its parts, and a stretch round it.
use Rattle.std.proofs.Common.{◌≡◌, ◌⊎◌, refl, ap, sym, ◌∙◌, int_lt, inl, inr, arith, ℕ, zero, suc, ◌+◌, ◌≤◌, ℤ, pos, negsuc, ◌+ℤ◌, ◌-ℤ◌, ◌≤ℤ◌, ◌<ℤ◌, unsigned_abs, Bool, true, false, ◌||◌, cond}
use Rattle.std.proofs.lemmas.Int.{ints}
use Rattle.std.specs.Int.{int_gap}
use Rattle.moment_core.proofs.Gaps.{gap-none}
use Rattle.search_core.specs.Candidates.{count_between, count_from}
use Rattle.search_core.specs.Unary.{counted_earlier, counted_round}

pub count_from-zero : (test : ℤ → Bool) (p : ℤ) → count_from test p 0 ≡ 0
unfolding count_from
count_from-zero test p = refl

pub count_from-suc : (test : ℤ → Bool) (p : ℤ) (n : ℕ) → count_from test p (suc n) ≡ cond (test p) 1
    0 + count_from test (p +ℤ pos 1) n
unfolding count_from
count_from-suc test p n = refl

pub count_from-append : (test : ℤ → Bool) (p : ℤ) (m n : ℕ) → count_from test p (m + n) ≡ count_from
    test p m + count_from test (p +ℤ pos m) n
count_from-append test p zero n =
    let none : count_from test p 0 ≡ 0 = count_from-zero test p in
    let whole : count_from test p (0 + n) ≡ count_from test p n =
    ap (count_from test p) (omega arith) in
    let rest : count_from test (p +ℤ pos 0) n ≡ count_from test p n =
    ap (λ z. count_from test z n) (omega (arith, ints)) in
    omega arith
count_from-append test p (suc m) n =
    let whole : count_from test p (suc m + n) ≡ count_from test p (suc (m + n)) =
    ap (count_from test p) (omega arith) in
    let one = count_from-suc test p (m + n) in
    let other = count_from-suc test p m in
    let further = count_from-append test (p +ℤ pos 1) m n in
    let place : p +ℤ pos 1 +ℤ pos m ≡ p +ℤ pos (suc m) = omega (arith, ints) in
    let rest : count_from test (p +ℤ pos 1 +ℤ pos m) n ≡ count_from test (p +ℤ pos (suc m)) n =
    ap (λ z. count_from test z n) place in
    omega arith

cases_sign : (z : ℤ) → (pos 0 ≤ℤ z) ⊎ (z <ℤ pos 0)
cases_sign (pos n) = inl (omega (arith, ints))
cases_sign (negsuc n) = inr (omega (arith, ints))

int_gap-steps : (a z : ℤ) (n : ℕ) → z ≡ a +ℤ pos n → int_gap a z ≡ n
int_gap-steps (pos a) (pos b) n e = omega (arith, ints)
int_gap-steps (pos a) (negsuc b) n e = omega (arith, ints)
int_gap-steps (negsuc a) (pos b) n e = omega (arith, ints)
int_gap-steps (negsuc a) (negsuc b) n e = omega (arith, ints)

pub count_between-is : (test : ℤ → Bool) (a b : ℤ) (n : ℕ) → b +ℤ pos 1 ≡ a +ℤ pos n
    → count_between test a b ≡ count_from test a n
unfolding count_between
count_between-is test a b n e = ap (count_from test a) (int_gap-steps a (b +ℤ pos 1) n e)

-- two stretches, one after the other; one that ends before it begins; and one within another
pub count_between-split : (test : ℤ → Bool) (a m b : ℤ) → a ≤ℤ (m +ℤ pos 1) → m ≤ℤ b
    → count_between test a b ≡ count_between test a m + count_between test (m +ℤ pos 1) b
count_between-split test a m b am mb =
    let x = unsigned_abs (m +ℤ pos 1 -ℤ a) in
    let y = unsigned_abs (b -ℤ m) in
    let whole : count_between test a b ≡ count_from test a (x + y) =
    count_between-is test a b (x + y) (omega (arith, ints)) in
    let first : count_between test a m ≡ count_from test a x =
    count_between-is test a m x (omega (arith, ints)) in
    let last : count_between test (m +ℤ pos 1) b ≡ count_from test (m +ℤ pos 1) y =
    count_between-is test (m +ℤ pos 1) b y (omega (arith, ints)) in
    let cut = count_from-append test a x y in
    let place : a +ℤ pos x ≡ m +ℤ pos 1 = omega (arith, ints) in
    let there : count_from test (a +ℤ pos x) y ≡ count_from test (m +ℤ pos 1) y =
    ap (λ p. count_from test p y) place in
    omega arith

pub count_between-none : (test : ℤ → Bool) (a b : ℤ) → b <ℤ a → count_between test a b ≡ 0
unfolding count_between
count_between-none test a b h =
    ap (count_from test a) (gap-none a (b +ℤ pos 1) (omega (arith, ints)))
    ∙ count_from-zero test a

pub count_between-within : (test : ℤ → Bool) (a b low high : ℤ) → low ≤ℤ a → b ≤ℤ high
    → count_between test a b ≤ count_between test low high
count_between-within test a b low high la bh = elim (cases_sign (b -ℤ a)) [
  | inl forwards ↦
      let before =
      count_between-split test low (a -ℤ pos 1) high (omega (arith, ints)) (omega (arith, ints)) in
      let place : a -ℤ pos 1 +ℤ pos 1 ≡ a = omega (arith, ints) in
      let there : count_between test (a -ℤ pos 1 +ℤ pos 1) high ≡ count_between test a high =
      ap (λ p. count_between test p high) place in
      let after = count_between-split test a b high (omega (arith, ints)) bh in
      omega arith
  | inr backwards ↦
      let none = count_between-none test a b (omega (arith, ints)) in
      omega arith
]

pub count_between-one : (test : ℤ → Bool) (c : ℤ) → test c ≡ true → 1 ≤ count_between test c c
count_between-one test c e =
    let one : count_between test c c ≡ count_from test c 1 =
    count_between-is test c c 1 (omega (arith, ints)) in
    let whole : count_from test c (suc 0) ≡ cond (test c) 1 0 + count_from test (c +ℤ pos 1) 0 =
    count_from-suc test c 0 in
    let here : cond {A = ℕ} (test c) 1 0 ≡ 1 = ap (λ b. cond {A = ℕ} b 1 0) e in
    omega arith

count_from-never : (p : ℤ) (n : ℕ) → count_from (λ q. false) p n ≡ 0
count_from-never p zero = count_from-zero (λ q. false) p
count_from-never p (suc n) =
    let one = count_from-suc (λ q. false) p n in
    let rest = count_from-never (p +ℤ pos 1) n in
    omega arith

either_one : (x y : Bool) → cond {A = ℕ} (x || y) 1 0 ≤ cond {A = ℕ} x 1 0 + cond {A = ℕ} y 1 0
either_one true true = omega arith
either_one true false = omega arith
either_one false true = omega arith
either_one false false = omega arith

-- what passes one of two tests is counted by one of them
count_from-either : (f g : ℤ → Bool) (p : ℤ) (n : ℕ) → count_from (λ q. f q || g q) p n ≤ count_from
    f p n + count_from g p n
count_from-either f g p zero =
    let none = count_from-zero (λ q. f q || g q) p in
    omega arith
count_from-either f g p (suc n) =
    let both = count_from-suc (λ q. f q || g q) p n in
    let one = count_from-suc f p n in
    let other = count_from-suc g p n in
    let here = either_one (f p) (g p) in
    let rest = count_from-either f g (p +ℤ pos 1) n in
    omega arith

count_between-either : (f g : ℤ → Bool) (a b : ℤ) → count_between (λ q. f q || g q) a
    b ≤ count_between f a b + count_between g a b
unfolding count_between
count_between-either f g a b = count_from-either f g a (int_gap a (b +ℤ pos 1))

pub count_between-never : (a b : ℤ) → count_between (λ q. false) a b ≡ 0
unfolding count_between
count_between-never a b = count_from-never a (int_gap a (b +ℤ pos 1))

pub count_between-parts : (test : ℤ → Bool) (a m b : ℤ) → count_between test a b ≤ count_between
    test a
    m + count_between test (m +ℤ pos 1) b
count_between-parts test a m b = elim (cases_sign (m +ℤ pos 1 -ℤ a)) [
  | inl past ↦ elim (cases_sign (b -ℤ m)) [
    | inl before ↦
        let cut = count_between-split test a m b (omega (arith, ints)) (omega (arith, ints)) in
        omega arith
    | inr behind ↦
        let first = count_between-within test a b a m (omega (arith, ints)) (omega (arith, ints)) in
        omega arith
  ]
  | inr ahead ↦
      let last =
      count_between-within test a b (m +ℤ pos 1) b (omega (arith, ints)) (omega (arith, ints)) in
      omega arith
]

pub both_parts : (one other : ℤ → ℤ → ℕ) (a m b : ℤ) → one a b ≤ one a m + one (m +ℤ pos 1) b
    → other a b ≤ other a m + other (m +ℤ pos 1) b → one a b + other a b ≤ one a m + other a
    m + (one (m +ℤ pos 1) b + other (m +ℤ pos 1) b)
both_parts one other a m b h k = omega arith

-- what is counted so many positions earlier, in parts
pub earlier_parts : (count : ℤ → ℤ → ℕ) (s a m b : ℤ) → ((x y z : ℤ) → count x z ≤ count x y + count
    (y +ℤ pos 1) z) → counted_earlier count s a b ≤ counted_earlier count s a m + counted_earlier
    count s (m +ℤ pos 1) b
earlier_parts count s a m b parts =
    let cut = parts (a -ℤ s) (m -ℤ s) (b -ℤ s) in
    let place : m -ℤ s +ℤ pos 1 ≡ m +ℤ pos 1 -ℤ s = omega (arith, ints) in
    let rest : count (m -ℤ s +ℤ pos 1) (b -ℤ s) ≡ count (m +ℤ pos 1 -ℤ s) (b -ℤ s) =
    ap (λ z. count z (b -ℤ s)) place in
    omega arith

-- what is counted from one position before a stretch to one position after it
pub round-some : (count : ℤ → ℤ → ℕ) (a b : ℤ) → a ≤ℤ b → counted_round count a b ≡ count
    (a -ℤ pos 1) (b +ℤ pos 1)
round-some count a b h =
    let no : int_lt b a ≡ false = grind (arith, ints) in
    ap (λ t. cond t 0 (count (a -ℤ pos 1) (b +ℤ pos 1))) no

pub round-none : (count : ℤ → ℤ → ℕ) (a b : ℤ) → b <ℤ a → counted_round count a b ≡ 0
round-none count a b h =
    let yes : int_lt b a ≡ true = grind (arith, ints) in
    ap (λ t. cond t 0 (count (a -ℤ pos 1) (b +ℤ pos 1))) yes

-- a stretch counts no more than one round it, and no more than its two parts together
abbrev pub GrowsWider : (ℤ → ℤ → ℕ) → Type 0
GrowsWider count = (a b low high : ℤ) → low ≤ℤ a → b ≤ℤ high → count a b ≤ count low high

abbrev pub HasParts : (ℤ → ℤ → ℕ) → Type 0
HasParts count = (a m b : ℤ) → count a b ≤ count a m + count (m +ℤ pos 1) b

pub round_within : (count : ℤ → ℤ → ℕ) → GrowsWider count → GrowsWider (counted_round count)
round_within count grows a b low high la bh = elim (cases_sign (b -ℤ a)) [
  | inl forwards ↦
      let one = round-some count a b (omega (arith, ints)) in
      let other = round-some count low high (omega (arith, ints)) in
      let more =
      grows (a -ℤ pos 1) (b +ℤ pos 1) (low -ℤ pos 1) (high +ℤ pos 1) (omega (arith, ints))
      (omega (arith, ints)) in
      omega arith
  | inr backwards ↦
      let none = round-none count a b (omega (arith, ints)) in
      omega arith
]

pub round_parts : (count : ℤ → ℤ → ℕ) (a m b : ℤ) → GrowsWider count
    → ((x y z : ℤ) → count x z ≤ count x y + count (y +ℤ pos 1) z)
    → counted_round count a b ≤ counted_round count a m + counted_round count (m +ℤ pos 1) b
round_parts count a m b grows parts = elim (cases_sign (b -ℤ a)) [
  | inr backwards ↦ let none = round-none count a b (omega (arith, ints)) in omega arith
  | inl forwards ↦ elim (cases_sign (m -ℤ a)) [
    | inr before ↦
        let wider =
        round_within count grows a b (m +ℤ pos 1) b (omega (arith, ints)) (omega (arith, ints)) in
        omega arith
    | inl past ↦ elim (cases_sign (b -ℤ (m +ℤ pos 1))) [
      | inr behind ↦
          let wider =
          round_within count grows a b a m (omega (arith, ints)) (omega (arith, ints)) in
          omega arith
      | inl within ↦
          let whole = round-some count a b (omega (arith, ints)) in
          let first = round-some count a m (omega (arith, ints)) in
          let last = round-some count (m +ℤ pos 1) b (omega (arith, ints)) in
          let cut = parts (a -ℤ pos 1) (m +ℤ pos 1) (b +ℤ pos 1) in
          let more =
          grows (m +ℤ pos 1 +ℤ pos 1) (b +ℤ pos 1) (m +ℤ pos 1 -ℤ pos 1) (b +ℤ pos 1)
          (omega (arith, ints)) (omega (arith, ints)) in
          omega arith
    ]
  ]
]

-- what passes a test so many positions earlier
count_from-moved : (test : ℤ → Bool) (s p : ℤ) (n : ℕ) → count_from (λ q. test (q -ℤ s)) p
    n ≡ count_from test (p -ℤ s) n
count_from-moved test s p zero =
    let one = count_from-zero (λ q. test (q -ℤ s)) p in
    let other = count_from-zero test (p -ℤ s) in
    omega arith
count_from-moved test s p (suc n) =
    let one = count_from-suc (λ q. test (q -ℤ s)) p n in
    let other = count_from-suc test (p -ℤ s) n in
    let rest = count_from-moved test s (p +ℤ pos 1) n in
    let place : p +ℤ pos 1 -ℤ s ≡ p -ℤ s +ℤ pos 1 = omega (arith, ints) in
    let there : count_from test (p +ℤ pos 1 -ℤ s) n ≡ count_from test (p -ℤ s +ℤ pos 1) n =
    ap (λ w. count_from test w n) place in
    omega arith

count_between-moved : (test : ℤ → Bool) (s a b : ℤ) → count_between (λ q. test (q -ℤ s)) a
    b ≡ count_between test (a -ℤ s) (b -ℤ s)
count_between-moved test s a b = elim (cases_sign (b -ℤ a)) [
  | inr none ↦
      count_between-none (λ q. test (q -ℤ s)) a b (omega (arith, ints))
      ∙ sym (count_between-none test (a -ℤ s) (b -ℤ s) (omega (arith, ints)))
  | inl some ↦
      let n = unsigned_abs (b +ℤ pos 1 -ℤ a) in
      count_between-is (λ q. test (q -ℤ s)) a b n (omega (arith, ints)) ∙ count_from-moved test s a
      n
      ∙ sym (count_between-is test (a -ℤ s) (b -ℤ s) n (omega (arith, ints)))
]

pub both_covered : (f g : ℤ → Bool) (m n : ℕ) (a b : ℤ) → count_between f a b ≤ m
    → count_between g a b ≤ n → count_between (λ q. f q || g q) a b ≤ m + n
both_covered f g m n a b h k =
    let either = count_between-either f g a b in
    omega arith

pub earlier_covered : (test : ℤ → Bool) (count : ℤ → ℤ → ℕ) (s a b : ℤ)
    → count_between test (a -ℤ s)
    (b -ℤ s) ≤ count (a -ℤ s) (b -ℤ s) → count_between (λ q. test (q -ℤ s)) a b ≤ counted_earlier
    count s a b
earlier_covered test count s a b h =
    let e = count_between-moved test s a b in
    omega arith

pub round_covered : (test : ℤ → Bool) (count : ℤ → ℤ → ℕ) (a b : ℤ) → GrowsWider count
    → count_between test a b ≤ count a b → count_between test a b ≤ counted_round count a b
round_covered test count a b grows h = elim (cases_sign (b -ℤ a)) [
  | inl forwards ↦
      let whole = round-some count a b (omega (arith, ints)) in
      let wider =
      grows a b (a -ℤ pos 1) (b +ℤ pos 1) (omega (arith, ints)) (omega (arith, ints)) in
      omega arith
  | inr backwards ↦
      let none = count_between-none test a b (omega (arith, ints)) in
      omega arith
]
