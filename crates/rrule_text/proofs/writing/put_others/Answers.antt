use Rattle.std.proofs.Common.{◌≡◌, ℕ, List, ◌++◌, ap, sym, ◌∙◌, append_assoc}
use Rattle.std.specs.List.{flat_map}
use Rattle.std.proofs.lemmas.List.Concat.{flat_map-append}
use Rattle.rrule_text.specs.Writing.{days_of, limits_of, part_text, times_of}
use Rattle.rrule_text.proofs.Entries.{Entry}
use Rattle.rrule_text.proofs.writing.put_others.Goals as goal

joined : (out : List ℕ) (ls ds ts : List Entry)
    → ((out ++ flat_map part_text ls) ++ flat_map part_text ds) ++ flat_map part_text ts ≡ out
    ++ flat_map part_text (ls ++ (ds ++ ts))
joined out ls ds ts =
    append_assoc (out ++ flat_map part_text ls) (flat_map part_text ds) (flat_map part_text ts)
    ∙ append_assoc out (flat_map part_text ls) (flat_map part_text ds ++ flat_map part_text ts)
    ∙ ap (λ (x : List ℕ). out ++ x)
    (sym (flat_map-append part_text ls (ds ++ ts) ∙ ap (λ (x : List ℕ). flat_map part_text ls ++ x)
    (flat_map-append part_text ds ts)))

chained : (r0 r1 r2 r3 : List ℕ) (ls ds ts : List Entry) → r1 ≡ r0 ++ flat_map part_text ls → r2
    ≡ r1 ++ flat_map part_text ds → r3 ≡ r2 ++ flat_map part_text ts
    → r3 ≡ r0 ++ flat_map part_text (ls ++ (ds ++ ts))
chained r0 r1 r2 r3 ls ds ts one two three =
    three ∙ ap (λ (x : List ℕ). x ++ flat_map part_text ts)
    (two ∙ ap (λ (x : List ℕ). x ++ flat_map part_text ds) one)
    ∙ joined r0 ls ds ts

pub returns-clause-text : goal.returns-clause-text
returns-clause-text c =
    chained _ _ _ _ (limits_of c.args.rule.now) (days_of c.args.rule.now) (times_of c.args.rule.now)
    c.in_ok-put_limits.ensures c.in_ok-put_days.ensures.text c.in_ok-put_times.ensures.text

pub returns-clause-weekdays : goal.returns-clause-weekdays
returns-clause-weekdays c = record {
  by_day = c.in_ok-put_days.ensures.weekdays;
  week_start =
      c.in_ok-put_times.ensures.weekday;
}
