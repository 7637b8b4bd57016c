-- A lowered rule means what the rule means.
use Rattle.std.proofs.Common.{◌≡◌, Bool, refl, ap, ◌∙◌, ℤ, Option}
use Rattle.std.proofs.Math.Path.{fun_ext}
use Rattle.frame_core.specs.Periods.{in_width, period_of_rule}
use Rattle.frame_core.specs.declared.frames.Frame.{Frame}
use Rattle.moment_core.specs.TimeOfDay.{day_of}
use Rattle.moment_core.specs.Units.{units_of}
use Rattle.rule_core.specs.FieldMembers.{field_unit, has_field, is_field_candidate, meets_fields}
use Rattle.rule_core.specs.declared.field.FieldRule.{FieldRule}
use Rattle.sieve_core.specs.Members.{is_between, is_candidate, is_mark, meets_interval, meets_rank, meets_rule, meets_tests}
use Rattle.sieve_core.specs.declared.tables.Sieve.{Sieve}
use Rattle.stored_pair.specs.Meanings.{Meaning}
use Rattle.stored_pair.specs.declared.guarded.Guarded.{Guarded}
use Rattle.field_rules.specs.Leaves.{IsWholeSieve, frame_of_rule, framed_everywhere}
use Rattle.field_rules.specs.Lowered.{IsSieveOfRule, meaning_of_leaf}
use Rattle.field_rules.specs.Rules.{frame_of_field, meaning_of_field}
use Rattle.field_rules.specs.declared.leaf.FieldLeaf.{FieldLeaf}
use Rattle.std.proofs.Math.Bool.{and-true}

module _ (r : FieldRule) (s : Sieve) (is : IsSieveOfRule r s) where
  tests_same : (t : ℤ) → meets_tests s t ≡ meets_fields r t
  unfolding meets_tests
  tests_same t = rw (is.days (day_of t), is.times t) refl

  members_same : (t : ℤ) → meets_rule s t ≡ has_field r t
  unfolding meets_rule meets_interval meets_rank has_field
  members_same t =
      rw (tests_same t, is.rank, is.interval, is.unit, is.phase, and-true _) refl

  candidates_same : IsWholeSieve s → (t : ℤ) → is_candidate s t ≡ is_field_candidate r t
  unfolding is_candidate is_between is_mark is_field_candidate
  candidates_same whole t = rw (tests_same t, whole.first, whole.last) refl

  frames_same : frame_of_rule s ≡ frame_of_field r
  frames_same =
      ap (λ u. framed_everywhere (in_width (period_of_rule (units_of u) s.interval))) is.unit
      ∙ ap (λ k. framed_everywhere (in_width (period_of_rule (units_of (field_unit r)) k)))
      is.interval

abbrev meant : (ℤ → Bool) → (ℤ → Bool) → Option Frame → Meaning
meant f g o = record { member = f; candidate = g; frame = o }

pub means_same : (r : FieldRule) (leaf : Guarded FieldLeaf) → IsSieveOfRule r leaf.inner.sieve
    → IsWholeSieve leaf.inner.sieve → meaning_of_leaf leaf ≡ meaning_of_field r
means_same r leaf is whole =
    let s = leaf.inner.sieve in
    let members : meets_rule s ≡ has_field r = fun_ext (members_same r s is) in
    let candidates : is_candidate s ≡ is_field_candidate r =
    fun_ext (candidates_same r s is whole) in
    ap (λ f. meant f (is_candidate s) (frame_of_rule s)) members
    ∙ ap (λ g. meant (has_field r) g (frame_of_rule s)) candidates
    ∙ ap (meant (has_field r) (is_field_candidate r)) (frames_same r s is)
