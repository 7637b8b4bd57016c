-- Numbers and weekdays that a part lists.
use Rattle.std.specs.Prelude.{ℕ, ℤ, int_lt, Bool, List, [], is_some}
use Rattle.std.specs.List.{filter_map, list_all}
use Rattle.rule_core.specs.declared.lists.DayItem.{DayItem}
use Rattle.rule_core.specs.WrittenForm.{is_before}
use Rattle.rrule_values.specs.Numbers.{item_at, number_at}
use Rattle.rrule_values.specs.Ordering.{put_all}
use Rattle.rrule_values.specs.Splitting.{split_at}

-- one or more numbers, with signs where they are allowed, and one or more weekdays
abbrev pub are_numbers : Bool → List ℕ → Bool
are_numbers signed value = list_all (λ text. is_some (number_at signed text)) (split_at 44 value)

abbrev pub are_items : List ℕ → Bool
are_items value = list_all (λ text. is_some (item_at text)) (split_at 44 value)

-- the weekdays that a value lists, as they stand there and in their order
unfoldable pub written_items : List ℕ → List DayItem
written_items value = filter_map item_at (split_at 44 value)

unfoldable pub items_in : List ℕ → List DayItem
items_in value = put_all is_before [] (written_items value)

-- the numbers that a value lists, with signs where they are allowed
unfoldable pub written_numbers : Bool → List ℕ → List ℤ
written_numbers signed value = filter_map (number_at signed) (split_at 44 value)

unfoldable pub numbers_in : Bool → List ℕ → List ℤ
numbers_in signed value = put_all int_lt [] (written_numbers signed value)
