-- The number that digits write, one digit after the other.
use Rattle.std.proofs.Common.{◌≡◌, ℕ, zero, suc, ◌+◌, ◌-◌, ◌*◌, ◌≤◌, ◌<◌, ◌^◌, List, ◌∷◌, length, drop, get_or, refl, arith, add-one, zero-add, suc-add, drop-cons}
use Rattle.std.proofs.lemmas.List.{drop_all}
use Rattle.expr_tokens.specs.Reading.{value_from}

-- how large the number of so many bytes may be
unfoldable pub most : ℕ → ℕ
most zero = 0
most (suc n) = 10 * most n + 207

most_twelve : most 12 ≡ 22999999999977
unfolding most
most_twelve = refl

most_grows : (n k : ℕ) → most n ≤ most (k + n)
unfolding most
most_grows n zero = rw zero-add (omega arith)
most_grows n (suc k) = rw suc-add (omega (arith, most_grows n k))

pub most_fits : (n : ℕ) → n < 13 → 10 * most n + 207 < 2 ^ 60
most_fits n lt =
    let e : (12 - n) + n ≡ 12 = omega arith in
    let grows : most n ≤ most 12 = rw e at (most_grows n (12 - n)) in
    let top : most 12 ≡ 22999999999977 = most_twelve in
    omega (arith, grows, top)

pub most_step : (n : ℕ) → most (n + 1) ≡ 10 * most n + 207
unfolding most
most_step n = rw add-one refl

pub value_end : (n : ℕ) (s : List ℕ) (i : ℕ) → length s ≤ i → value_from n (drop i s) ≡ n
unfolding value_from
value_end n s i le = rw (drop_all i s le) refl

pub most_bound : (n i : ℕ) → n ≤ most i → i ≤ 13 → n < 2 ^ 60
most_bound n i le fits =
    let e : (13 - i) + i ≡ 13 = omega arith in
    let grows : most i ≤ most 13 = rw e at (most_grows i (13 - i)) in
    omega (arith, grows, most_step 12, most_twelve)

pub value_step : (n : ℕ) (s : List ℕ) (i : ℕ) → i < length s → value_from n (drop i s)
    ≡ value_from (10 * n + (get_or s i 0 - 48)) (drop (i + 1) s)
unfolding value_from
value_step n s i lt =
    let one : drop i s ≡ get_or s i 0 ∷ drop (i + 1) s = rw add-one (drop-cons s i 0 lt) in
    rw one refl
