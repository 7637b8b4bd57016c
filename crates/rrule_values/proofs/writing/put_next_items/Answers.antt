use Rattle.std.proofs.Common.{◌≡◌, rules, get_or, arith}
use Rattle.std.specs.Int.{IsInRange}
use Rattle.rrule_values.specs.Writing.{item_text}
use Rattle.rrule_values.proofs.Listed.{put_next}
use Rattle.rrule_values.proofs.Weekdays.{weekdays_more}
use Rattle.rrule_values.proofs.writing.put_next_items.Goals as goal

pub loop-item-preserved : goal.loop-item-preserved
loop-item-preserved c =
    let day : IsInRange 1 7 (get_or c.args.items.now c.loop-item.item-index
    c.item-item.result).day = search rules in
    let at : c.item-item.result ≡ get_or c.args.items.now c.loop-item.item-index
    c.item-item.result = search rules in (
      put_next item_text c.args.items.now c.loop-item.item-index c.item-item.result
          c.args.out.now.items c.loop-item.out.items c.put_next_item.new.out.items
          at (omega (arith, c.loop-item-test.true)) c.loop-item.invariant.0
          c.in_ok-put_next_item.ensures.text,
      weekdays_more c.args.items.now c.loop-item.item-index c.item-item.result
          (omega (arith, c.loop-item-test.true)) c.loop-item.invariant.1 day,
    )
