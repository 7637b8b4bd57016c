-- The written form of values.
use Rattle.std.specs.Prelude.{ℕ, pos, List, [], ◌∷◌, ◌++◌, flat_map, if◌then◌else◌}
use Rattle.std.specs.Fmt.{signed_decimal}
use Rattle.std.specs.Ordering.{int_eq}
use Rattle.rule_core.specs.declared.lists.DayItem.{DayItem}
use Rattle.rrule_values.specs.Names.{day_name}
use Rattle.rrule_values.specs.Splitting.{behind}

-- the weekday's name, behind its ordinal where it has one
abbrev pub item_text : DayItem → List ℕ
item_text item =
    (if int_eq item.nth (pos 0) then [] else signed_decimal item.nth) ++ day_name item.day

-- what is listed, with a comma between each two
abbrev pub next_text : {X : Type 0} → (X → List ℕ) → X → List ℕ
next_text text x = behind 44 (text x)

abbrev pub list_text : {X : Type 0} → (X → List ℕ) → List X → List ℕ
list_text text [] = []
list_text text (x ∷ xs) = text x ++ flat_map (next_text text) xs
