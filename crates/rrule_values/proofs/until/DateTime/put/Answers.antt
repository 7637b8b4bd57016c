use Rattle.std.proofs.Common.{List, ℕ, ◌++◌, ◌/◌, ◌%◌, ap, false, ◌∙◌, append_assoc}
use Rattle.std.specs.Prelude.{codes}
use Rattle.rrule_values.specs.Until.{fields_text, two_digits}
use Rattle.rrule_values.proofs.UntilText.{eight_put}
use Rattle.rrule_values.proofs.until.DateTime.put.Goals as goal

pub returns-in_ok-push-2 : goal.returns-in_ok-push-2
returns-in_ok-push-2 c =
    let d = c.args.self.now in
    let front = eight_put c.args.out.now.items c.put_two_digits.new.out.items
    c.put_two_digits-2.new.out.items c.put_two_digits-3.new.out.items
    c.put_two_digits-4.new.out.items
    c.push.new.self.items c.put_two_digits-5.new.out.items c.put_two_digits-6.new.out.items
    c.put_two_digits-7.new.out.items
    (two_digits (d.year / 100)) (two_digits (d.year % 100)) (two_digits d.month) (two_digits d.day)
    (codes "T") (two_digits d.hour) (two_digits d.minute) (two_digits d.second)
    c.in_ok-put_two_digits.ensures c.in_ok-put_two_digits-2.ensures c.in_ok-put_two_digits-3.ensures
    c.in_ok-put_two_digits-4.ensures c.in_ok-push.ensures.items
    c.in_ok-put_two_digits-5.ensures c.in_ok-put_two_digits-6.ensures
    c.in_ok-put_two_digits-7.ensures in
    rw c.if-with_z.true
    (c.in_ok-push-2.ensures.items ∙ ap (λ (x : List ℕ). x ++ codes "Z") front
    ∙ append_assoc c.args.out.now.items (fields_text false d.year d.month d.day d.hour d.minute
    d.second) (codes "Z"))

pub returns-else-with_z : goal.returns-else-with_z
returns-else-with_z c =
    let d = c.args.self.now in
    rw c.if-with_z.false
    (eight_put c.args.out.now.items c.put_two_digits.new.out.items c.put_two_digits-2.new.out.items
    c.put_two_digits-3.new.out.items c.put_two_digits-4.new.out.items
    c.push.new.self.items c.put_two_digits-5.new.out.items c.put_two_digits-6.new.out.items
    c.put_two_digits-7.new.out.items
    (two_digits (d.year / 100)) (two_digits (d.year % 100)) (two_digits d.month) (two_digits d.day)
    (codes "T") (two_digits d.hour) (two_digits d.minute) (two_digits d.second)
    c.in_ok-put_two_digits.ensures c.in_ok-put_two_digits-2.ensures c.in_ok-put_two_digits-3.ensures
    c.in_ok-put_two_digits-4.ensures c.in_ok-push.ensures.items
    c.in_ok-put_two_digits-5.ensures c.in_ok-put_two_digits-6.ensures
    c.in_ok-put_two_digits-7.ensures)
