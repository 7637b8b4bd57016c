-- Tables of bits, in words of 64.
use Rattle.std.specs.Prelude.{ℕ, ◌+◌, ◌*◌, ◌/◌, ◌%◌, ◌^◌, Bool, ◌&&◌, ◌||◌, ◌==◌, nat_lt, List, length, slice_index, slice_set, bit_or}
use Rattle.std.specs.Int.{bit_at}
use Rattle.std.specs.List.{list_all}
use Rattle.moment_core.specs.Units.{from_end}

-- whether bit i is set; past the end none is
unfoldable pub has_bit : List ℕ → ℕ → Bool
has_bit words i = bit_at (slice_index words (i / 64)) (i % 64) == 1

-- the table with bit i set too
abbrev pub with_bit : List ℕ → ℕ → List ℕ
with_bit words i =
    slice_set words (i / 64) (bit_or (slice_index words (i / 64)) (1 * 2 ^ (i % 64) % 2 ^ 64))

-- no bit is set
abbrev pub is_zero : List ℕ → Bool
is_zero words = list_all (λ word. word == 0) words

-- a signed table has v at bit v and -w at bit half + w, with half of its bits; what is looked up is
-- both v and -w
unfoldable pub is_in_signed : List ℕ → ℕ → ℕ → Bool
is_in_signed words v w =
    let half = 32 * length words in
    (nat_lt v half && has_bit words v) || (nat_lt w half && has_bit words (half + w))

-- the test of v of 1 to n by a signed table; an all-zero one tests nothing
unfoldable pub meets_signed : List ℕ → ℕ → ℕ → Bool
meets_signed words n v = is_zero words || is_in_signed words v (from_end n v)
