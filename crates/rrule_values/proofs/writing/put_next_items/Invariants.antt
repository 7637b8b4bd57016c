use Rattle.std.proofs.Common.{◌≡◌, ◌++◌, take}
use Rattle.std.specs.List.{flat_map}
use Rattle.rule_core.specs.WrittenForm.{AreWeekdays}
use Rattle.rrule_values.specs.Writing.{item_text, next_text}
use Rattle.rrule_values.proofs.writing.put_next_items.Given as goal

abbrev pub invariant-loop-item : goal.invariant-loop-item
invariant-loop-item l =
    (l.out.items ≡ l.fn.out.items ++ flat_map (next_text item_text) (take l.item-index l.items))
    × AreWeekdays (take l.item-index l.items)
