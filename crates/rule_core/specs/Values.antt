-- Listed values: their ranges, and what they mean.
use Rattle.std.specs.Prelude.{ℕ, ℤ, pos, neg_ℤ, ◌+ℤ◌, Bool, true, false, ◌&&◌, ◌||◌, int_le, int_lt, List, [], ◌∷◌, if◌then◌else◌}
use Rattle.std.specs.List.{list_any}
use Rattle.std.specs.Ordering.{int_eq}

-- no value means that a field isn't given
abbrev pub is_given : {X : Type 0} → List X → Bool
is_given [] = false
is_given (v ∷ values) = true

abbrev pub is_within : ℤ → ℤ → ℤ → Bool
is_within low high v = int_le low v && int_le v high

-- 1 to n, or -1 to -n
abbrev pub is_signed : ℕ → ℤ → Bool
is_signed n v = is_within (pos 1) (pos n) v || is_within (neg_ℤ (pos n)) (neg_ℤ (pos 1)) v

-- what a listed value means: one below 0 is counted back from the base
abbrev pub meant : ℕ → ℤ → ℤ
meant base v = if int_lt v (pos 0) then v +ℤ pos base else v

-- one of the values means the own one
unfoldable pub is_listed : List ℤ → ℕ → ℕ → Bool
is_listed values base own = list_any (λ v. int_eq (meant base v) (pos own)) values
