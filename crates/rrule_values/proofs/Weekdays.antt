-- Lists of weekdays.
use Rattle.std.proofs.Common.{ℕ, zero, suc, ◌+◌, ◌<◌, List, [], ◌∷◌, length, take, get_or, arith}
use Rattle.std.specs.Int.{IsInRange}
use Rattle.std.proofs.lemmas.List.Elements.{All-more}
use Rattle.rule_core.specs.declared.lists.DayItem.{DayItem}
use Rattle.rule_core.specs.WrittenForm.{AreWeekdays}

pub weekdays_none : AreWeekdays []
weekdays_none = λ k d lt. absurd (omega arith)

pub weekdays_first : (item : DayItem) (items : List DayItem) → IsInRange 1 7 item.day
    → AreWeekdays items → AreWeekdays (item ∷ items)
weekdays_first item items first others = λ k d lt. at k d lt
  where
    at : (k : ℕ) (d : DayItem) → k < length (item ∷ items)
        → IsInRange 1 7 (get_or (item ∷ items) k d).day
    at zero d lt = first
    at (suc k) d lt = others k d (omega arith)

pub weekdays_more : (items : List DayItem) (i : ℕ) (d : DayItem) → i < length items
    → AreWeekdays (take i items) → IsInRange 1 7 (get_or items i d).day
    → AreWeekdays (take (i + 1) items)
weekdays_more items i d lt those next = All-more (λ (item : DayItem). IsInRange 1 7 item.day) items
    i d lt those next
