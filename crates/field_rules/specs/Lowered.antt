-- What a rule made ready means, and the sieve of a rule.
use Rattle.std.specs.Prelude.{◌≡◌, ℤ, true, unsigned_abs}
use Rattle.moment_core.specs.TimeOfDay.{hour_of, minute_of, second_of}
use Rattle.moment_core.specs.Units.{unit_of}
use Rattle.rule_core.specs.FieldChecks.{counted}
use Rattle.rule_core.specs.FieldMembers.{field_unit, meets_day, meets_time, start_of}
use Rattle.rule_core.specs.declared.field.FieldRule.{FieldRule}
use Rattle.sieve_core.specs.Bits.{is_zero}
use Rattle.sieve_core.specs.Days.{meets_days}
use Rattle.sieve_core.specs.Members.{is_candidate, meets_masks, meets_rule}
use Rattle.sieve_core.specs.declared.tables.Sieve.{Sieve}
use Rattle.stored_pair.specs.Meanings.{Meaning}
use Rattle.stored_pair.specs.declared.guarded.Guarded.{Guarded}
use Rattle.field_rules.specs.Leaves.{frame_of_rule}
use Rattle.field_rules.specs.declared.leaf.FieldLeaf.{FieldLeaf}

abbrev pub meaning_of_leaf : Guarded FieldLeaf → Meaning
meaning_of_leaf leaf = record {
  member = meets_rule leaf.inner.sieve;
  candidate = is_candidate leaf.inner.sieve;
  frame = frame_of_rule leaf.inner.sieve;
}

-- the sieve tests what the rule does, in the rule's units, counted from the rule's start, and no
-- rank
pub record IsSieveOfRule (r : FieldRule) (s : Sieve) : Type 0 where
  pub unit : s.unit ≡ field_unit r
  pub interval : s.interval ≡ unsigned_abs r.interval
  pub phase : s.phase ≡ unit_of (field_unit r) (start_of r.start)
  pub days : (day : ℤ) → meets_days s.days day ≡ meets_day (counted r) r day
  pub times : (t : ℤ) → meets_masks s (hour_of t) (minute_of t) (second_of t) ≡ meets_time r t
  pub rank : is_zero s.rank.0 ≡ true
