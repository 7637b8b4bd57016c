-- The written form of a rule is read back as the rule.
use Rattle.std.proofs.Common.{◌≡◌, ℕ, suc, ◌+◌, ◌-◌, ◌<◌, ℤ, Bool, true, false, ◌&&◌, ◌==◌, nat_lt, List, [], ◌∷◌, ◌++◌, length, take, drop, map, Option, Some, None, Ok, Err, refl, ap, ◌∙◌, arith, append_assoc, length-append}
use Rattle.std.specs.Prelude.{IfOk, Result, codes, option_map}
use Rattle.std.specs.Char.{to_ascii_uppercase}
use Rattle.std.specs.Fmt.{signed_decimal}
use Rattle.std.specs.List.{list_all, flat_map}
use Rattle.std.specs.Option.{ForSome}
use Rattle.std.specs.Result.{OnOk}
use Rattle.std.specs.Str.{bytes_eq}
use Rattle.std.proofs.lemmas.Bool.{and_from, and_parts}
use Rattle.std.proofs.lemmas.Bool.Decides.{nat_tests}
use Rattle.std.proofs.lemmas.List.{append-nil, map-append}
use Rattle.std.proofs.lemmas.List.Folds.{list_all-append}
use Rattle.std.proofs.Math.Seq.{drop-append-add}
use Rattle.moment_core.specs.declared.line.Moment.{Moment}
use Rattle.rule_core.specs.declared.ical.IcalRule.{IcalRule}
use Rattle.rule_core.specs.declared.lists.DayItem.{DayItem}
use Rattle.rule_core.specs.declared.part.Freq.{Freq}
use Rattle.rule_core.specs.declared.part.Part.{Part}
use Rattle.rule_core.specs.declared.part.Part.TheVariants as parts
use Rattle.rule_core.specs.FieldChecks.{is_interval}
use Rattle.rule_core.specs.IcalChecks.{check_ical, is_bad_part, is_until}
use Rattle.rule_core.specs.Laws.{IcalIntervalFits, IcalValuesFit}
use Rattle.rule_core.specs.WrittenForm.{HasWeekdays, IsWritable}
use Rattle.rrule_values.specs.Laws.{JoinedAreCut, ValuesAreBack, has_form}
use Rattle.rrule_values.specs.Names.{freq_name}
use Rattle.rrule_values.specs.Splitting.{behind, is_other, split_at}
use Rattle.rrule_values.specs.Until.{until_text}
use Rattle.rrule_values.specs.Writing.{item_text}
use Rattle.rrule_text.specs.Laws.{WrittenIsPlain, WrittenIsRead, is_plain}
use Rattle.rrule_text.specs.Pieces.{is_value, are_pieces}
use Rattle.rrule_text.specs.Reading.{body_of, by_day_in, checked, count_in, until_in, until_z_in, first_repeated, freq_in, interval_in, list_in, rule_in, rule_of, sketch_of, week_start_in, without_end, without_prefix}
use Rattle.rrule_text.specs.Writing.{interval_text, listed_text, others_of, piece_text, text_of, week_start_text}
use Rattle.rrule_text.proofs.Bytes.{spoken, spoken_lacks, spoken_plain, spoken_upper}
use Rattle.rrule_text.proofs.Entries.{AllFit, Entry, Fits, nothing_repeated, pieces_fit, pieces_of, piece_spoken, pieces_some, pieces_spoken, text_joined, value_is}
use Rattle.rrule_text.proofs.Values.{count_again, count_fits, interval_again, interval_fits, is_short, items_again, items_fit, naturals_fine, numbers_again, numbers_fit, ordinals_fine, signeds_fine, until_again, until_fine, until_fits, until_z_again, week_start_again, week_start_fits}

abbrev each_spoken : List (List ℕ) → Bool
each_spoken ps = list_all (λ p. list_all spoken p) ps

upper_joined : (x : List ℕ) (ps : List (List ℕ)) → list_all spoken x ≡ true → each_spoken ps ≡ true
    → map to_ascii_uppercase (x ++ flat_map (behind 59) ps) ≡ x ++ flat_map (behind 59) ps
upper_joined x [] first each = rw (append-nil x) (spoken_upper x first)
upper_joined x (p ∷ ps) first each =
    let parts = and_parts (list_all spoken p) (each_spoken ps) each in
    map-append to_ascii_uppercase x (59 ∷ p ++ flat_map (behind 59) ps)
    ∙ rw (spoken_upper x first, upper_joined p ps parts.0 parts.1) refl

last_other : (x : List ℕ) → 0 < length x → list_all (is_other 59) x ≡ true
    → bytes_eq (drop (length x - 1) x) (codes ";") ≡ false
last_other [] some each = absurd (omega arith)
last_other (b ∷ []) some each = rw (not_59 b each) refl
  where
    not_59 : (b : ℕ) → (is_other 59 b && true) ≡ true → (b == 59) ≡ false
    not_59 b h = grind (arith, nat_tests)
last_other (b ∷ c ∷ x) some each =
    let e : length (b ∷ c ∷ x) - 1 ≡ suc (length (c ∷ x) - 1) = omega arith in
    rw e (last_other (c ∷ x) (omega arith)
    (and_parts (is_other 59 b) (list_all (is_other 59) (c ∷ x)) each).1)

ends_other : (front x : List ℕ) → 0 < length x → list_all (is_other 59) x ≡ true
    → without_end (front ++ x) ≡ front ++ x
unfolding without_end
ends_other front x some each =
    let e : length (front ++ x) - 1 ≡ length front + (length x - 1) =
    omega (arith, length-append front x) in
    rw (e, drop-append-add front x (length x - 1), last_other x some each) refl

abbrev each_lacks : List (List ℕ) → Bool
each_lacks ps = list_all (λ p. list_all (is_other 59) p) ps

abbrev are_some : List (List ℕ) → Bool
are_some ps = list_all (λ p. nat_lt 0 (length p)) ps

ends_joined : (front x : List ℕ) (ps : List (List ℕ)) → nat_lt 0 (length x) ≡ true
    → list_all (is_other 59) x ≡ true → are_some ps ≡ true → each_lacks ps ≡ true
    → without_end (front ++ x ++ flat_map (behind 59) ps) ≡ front ++ x ++ flat_map (behind 59) ps
ends_joined front x [] some lacks others each = rw (append-nil (front ++ x))
    (ends_other front x (grind (arith, nat_tests)) lacks)
ends_joined front x (p ∷ ps) some lacks others each =
    let parts = and_parts (list_all (is_other 59) p) (each_lacks ps) each in
    let fill = and_parts (nat_lt 0 (length p)) (are_some ps) others in
    let e : front ++ x ++ flat_map (behind 59) (p ∷ ps) ≡ (front ++ x ++ 59 ∷ []) ++ p
    ++ flat_map (behind 59) ps = simp append_assoc in
    rw e (ends_joined (front ++ x ++ 59 ∷ []) p ps fill.0 parts.0 fill.1 parts.1)

starts_other : (name rest : List ℕ) → without_prefix (piece_text parts.Freq name ++ rest)
    ≡ piece_text parts.Freq name ++ rest
unfolding without_prefix
starts_other name rest = refl

each_spoken_lacks : (ps : List (List ℕ)) → each_spoken ps ≡ true → each_lacks ps ≡ true
each_spoken_lacks [] each = refl
each_spoken_lacks (p ∷ ps) each =
    let parts = and_parts (list_all spoken p) (each_spoken ps) each in
    and_from (list_all (is_other 59) p) (each_lacks ps) (spoken_lacks p parts.0)
    (each_spoken_lacks ps parts.1)

some_freq : (name : List ℕ) → nat_lt 0 (length (piece_text parts.Freq name)) ≡ true
some_freq name = grind (arith, nat_tests)

pub body_is : (name : List ℕ) (ps : List (List ℕ)) → list_all spoken (piece_text parts.Freq name)
    ≡ true → are_some ps ≡ true → each_spoken ps ≡ true
    → body_of (piece_text parts.Freq name ++ flat_map (behind 59) ps) ≡ piece_text parts.Freq name
    ++ flat_map (behind 59) ps
unfolding body_of
body_is name ps first some each =
    rw (
      upper_joined (piece_text parts.Freq name) ps first each,
      starts_other name
          (flat_map (behind 59) ps),
    )
    (ends_joined [] (piece_text parts.Freq name) ps (some_freq name)
    (spoken_lacks (piece_text parts.Freq name) first) some (each_spoken_lacks ps each))

pub pieces_are : JoinedAreCut → (name : List ℕ) (ps : List (List ℕ))
    → list_all spoken (piece_text parts.Freq name) ≡ true → each_spoken ps ≡ true
    → split_at 59 (piece_text parts.Freq name ++ flat_map (behind 59) ps) ≡ piece_text parts.Freq
    name ∷ ps
pieces_are cut name ps first each =
    cut 59 (piece_text parts.Freq name) ps
    (and_from (list_all (is_other 59) (piece_text parts.Freq name)) (each_lacks ps)
    (spoken_lacks (piece_text parts.Freq name) first) (each_spoken_lacks ps each))

-- what a checked rule's values keep to
record Good (r : IcalRule) : Type 0 where
  month : list_all (has_form false) r.by_month ≡ true
  week : list_all (has_form true) r.by_week ≡ true
  year_day : list_all (has_form true) r.by_year_day ≡ true
  month_day : list_all (has_form true) r.by_month_day ≡ true
  day : list_all is_short r.by_day ≡ true
  hour : list_all (has_form false) r.by_hour ≡ true
  minute : list_all (has_form false) r.by_minute ≡ true
  second : list_all (has_form false) r.by_second ≡ true
  set_pos : list_all (has_form true) r.by_set_pos ≡ true
  until : ForSome r.until (λ m. is_until m ≡ true)

good : (r : IcalRule) → ((part : Part) → is_bad_part r part ≡ false) → Good r
unfolding is_bad_part
good r fit = record {
  month = naturals_fine 1 12 r.by_month (omega arith) (fit parts.ByMonth);
  week = signeds_fine 53 r.by_week (omega arith) (fit parts.ByWeekNo);
  year_day = signeds_fine 366 r.by_year_day (omega arith) (fit parts.ByYearDay);
  month_day = signeds_fine 31 r.by_month_day (omega arith) (fit parts.ByMonthDay);
  day = ordinals_fine r.by_day (fit parts.ByDay);
  hour = naturals_fine 0 23 r.by_hour (omega arith) (fit parts.ByHour);
  minute = naturals_fine 0 59 r.by_minute (omega arith) (fit parts.ByMinute);
  second = naturals_fine 0 60 r.by_second (omega arith) (fit parts.BySecond);
  set_pos = signeds_fine 366 r.by_set_pos (omega arith) (fit parts.BySetPos);
  until = until_fine r.until (fit parts.Until);
}

-- the parts of a rule, FREQ first
abbrev entries : IcalRule → List Entry
entries r = (parts.Freq, Some (freq_name r.freq)) ∷ others_of r

module _ (values : ValuesAreBack) where
  freq_fits : (f : Freq) → Fits parts.Freq (freq_name f)
  unfolding is_value
  freq_fits f = record {
    form = rw (values.frequency f).back refl;
    plain =
        (values.frequency f).plain;
  }

  freq_spoken : (f : Freq) → list_all spoken (piece_text parts.Freq (freq_name f)) ≡ true
  freq_spoken f = piece_spoken parts.Freq (freq_name f) (values.frequency f).plain

  all_fit : (r : IcalRule) → ((part : Part) → is_bad_part r part ≡ false) → is_interval r.interval
      ≡ true → HasWeekdays r → AllFit (others_of r)
  unfolding is_value is_bad_part
  all_fit r fit within d =
      let g = good r fit in (
        until_fits values r.until_z r.until g.until,
        (
          count_fits values r.count (fit parts.Count),
          (
            interval_fits values r.interval within,
            (
              numbers_fit values parts.ByMonth false r.by_month (λ v. refl) g.month,
              (
                numbers_fit values parts.ByWeekNo true r.by_week (λ v. refl) g.week,
                (
                  numbers_fit values parts.ByYearDay true r.by_year_day (λ v. refl) g.year_day,
                  (
                    numbers_fit values parts.ByMonthDay true r.by_month_day (λ v. refl) g.month_day,
                    (
                      items_fit values r.by_day d.by_day g.day,
                      (
                        numbers_fit values parts.ByHour false r.by_hour (λ v. refl) g.hour,
                        (
                          numbers_fit values parts.ByMinute false r.by_minute (λ v. refl) g.minute,
                          (
                            numbers_fit values parts.BySecond false r.by_second (λ v. refl)
                                g.second,
                            (
                              numbers_fit values parts.BySetPos true r.by_set_pos (λ v. refl)
                                  g.set_pos,
                              (week_start_fits values r.week_start d.week_start, tt),
                            ),
                          ),
                        ),
                      ),
                    ),
                  ),
                ),
              ),
            ),
          ),
        ),
      )

  -- what a body says of each part
  module _ (r : IcalRule) (body : List ℕ) (split : split_at 59 body ≡ pieces_of (entries r)) where
    freq_said : freq_in body ≡ Some r.freq
    unfolding freq_in
    freq_said = rw (value_is parts.Freq [] (others_of r) (Some (freq_name r.freq)) body split refl
        refl) (values.frequency r.freq).back

    module _ (fit : (part : Part) → is_bad_part r part ≡ false) (within : is_interval r.interval
        ≡ true) (w : IsWritable r) (d : HasWeekdays r) where
      until_said : until_in body ≡ r.until
      unfolding until_in
      until_said = rw (value_is parts.Until (take 1 (entries r)) (drop 2 (entries r))
          (option_map (λ (m : Moment). until_text r.until_z m.0) r.until) body split refl refl)
          (until_again values r.until_z r.until (good r fit).until)

      until_z_said : until_z_in body ≡ r.until_z
      unfolding until_z_in
      until_z_said = rw (value_is parts.Until (take 1 (entries r)) (drop 2 (entries r))
          (option_map (λ (m : Moment). until_text r.until_z m.0) r.until) body split refl refl)
          (until_z_again values r.until_z r.until (good r fit).until w.until_z)

      count_said : count_in body ≡ r.count
      unfolding count_in is_bad_part
      count_said = rw (value_is parts.Count (take 2 (entries r)) (drop 3 (entries r))
          (option_map signed_decimal r.count) body split refl refl)
          (count_again values r.count (fit parts.Count))

      interval_said : interval_in body ≡ r.interval
      unfolding interval_in
      interval_said = rw (value_is parts.Interval (take 3 (entries r)) (drop 4 (entries r))
          (interval_text r.interval) body split refl refl) (interval_again values r.interval within)

      by_month_said : list_in parts.ByMonth body ≡ r.by_month
      unfolding list_in
      by_month_said = rw (value_is parts.ByMonth (take 4 (entries r)) (drop 5 (entries r))
          (listed_text signed_decimal r.by_month) body split refl refl)
          (numbers_again values false r.by_month (good r fit).month w.ordered.by_month)

      by_week_said : list_in parts.ByWeekNo body ≡ r.by_week
      unfolding list_in
      by_week_said = rw (value_is parts.ByWeekNo (take 5 (entries r)) (drop 6 (entries r))
          (listed_text signed_decimal r.by_week) body split refl refl)
          (numbers_again values true r.by_week (good r fit).week w.ordered.by_week)

      by_year_day_said : list_in parts.ByYearDay body ≡ r.by_year_day
      unfolding list_in
      by_year_day_said = rw (value_is parts.ByYearDay (take 6 (entries r)) (drop 7 (entries r))
          (listed_text signed_decimal r.by_year_day) body split refl refl)
          (numbers_again values true r.by_year_day (good r fit).year_day w.ordered.by_year_day)

      by_month_day_said : list_in parts.ByMonthDay body ≡ r.by_month_day
      unfolding list_in
      by_month_day_said = rw (value_is parts.ByMonthDay (take 7 (entries r)) (drop 8 (entries r))
          (listed_text signed_decimal r.by_month_day) body split refl refl)
          (numbers_again values true r.by_month_day (good r fit).month_day w.ordered.by_month_day)

      by_day_said : by_day_in body ≡ r.by_day
      unfolding by_day_in
      by_day_said = rw (value_is parts.ByDay (take 8 (entries r)) (drop 9 (entries r))
          (listed_text item_text r.by_day) body split refl refl)
          (items_again values r.by_day d.by_day (good r fit).day w.ordered.by_day)

      by_hour_said : list_in parts.ByHour body ≡ r.by_hour
      unfolding list_in
      by_hour_said = rw (value_is parts.ByHour (take 9 (entries r)) (drop 10 (entries r))
          (listed_text signed_decimal r.by_hour) body split refl refl)
          (numbers_again values false r.by_hour (good r fit).hour w.ordered.by_hour)

      by_minute_said : list_in parts.ByMinute body ≡ r.by_minute
      unfolding list_in
      by_minute_said = rw (value_is parts.ByMinute (take 10 (entries r)) (drop 11 (entries r))
          (listed_text signed_decimal r.by_minute) body split refl refl)
          (numbers_again values false r.by_minute (good r fit).minute w.ordered.by_minute)

      by_second_said : list_in parts.BySecond body ≡ r.by_second
      unfolding list_in
      by_second_said = rw (value_is parts.BySecond (take 11 (entries r)) (drop 12 (entries r))
          (listed_text signed_decimal r.by_second) body split refl refl)
          (numbers_again values false r.by_second (good r fit).second w.ordered.by_second)

      by_set_pos_said : list_in parts.BySetPos body ≡ r.by_set_pos
      unfolding list_in
      by_set_pos_said = rw (value_is parts.BySetPos (take 12 (entries r)) (drop 13 (entries r))
          (listed_text signed_decimal r.by_set_pos) body split refl refl)
          (numbers_again values true r.by_set_pos (good r fit).set_pos w.ordered.by_set_pos)

      week_start_said : week_start_in body ≡ r.week_start
      unfolding week_start_in
      week_start_said = rw (value_is parts.Wkst (take 13 (entries r)) (drop 14 (entries r))
          (week_start_text r.week_start) body split refl refl)
          (week_start_again values r.week_start d.week_start)

sketch_same : (r : IcalRule) (until : Option Moment) (until_z : Bool) (interval : ℤ)
    (count : Option ℤ) (by_month : List ℤ) (by_week : List ℤ) (by_year_day : List ℤ)
    (by_month_day : List ℤ) (by_day : List DayItem) (by_hour : List ℤ) (by_minute : List ℤ)
    (by_second : List ℤ) (by_set_pos : List ℤ) (week_start : ℕ)
    → until ≡ r.until → until_z ≡ r.until_z → interval ≡ r.interval → count ≡ r.count → by_month
    ≡ r.by_month → by_week ≡ r.by_week → by_year_day ≡ r.by_year_day → by_month_day ≡ r.by_month_day
    → by_day ≡ r.by_day → by_hour ≡ r.by_hour → by_minute ≡ r.by_minute → by_second ≡ r.by_second
    → by_set_pos ≡ r.by_set_pos → week_start ≡ r.week_start
    → record r {
      until = until;
      until_z = until_z;
      interval = interval;
      count = count;
      by_month =
          by_month;
      by_week = by_week;
      by_year_day = by_year_day;
      by_month_day = by_month_day;
      by_day =
          by_day;
      by_hour = by_hour;
      by_minute = by_minute;
      by_second = by_second;
      by_set_pos =
          by_set_pos;
      week_start = week_start;
    } ≡ r
sketch_same r until until_z interval count by_month by_week by_year_day by_month_day by_day by_hour
    by_minute by_second by_set_pos week_start u0 u1 e0 e1 e2 e3 e4 e5 e6 e7 e8 e9 e10 e11 =
    rw (u0, u1, e0, e1, e2, e3, e4, e5, e6, e7, e8, e9, e10, e11) refl

judge : (sketch r : IcalRule) → sketch ≡ r → check_ical r ≡ Ok tt
    → checked sketch (check_ical sketch) ≡ Ok r
judge sketch r same is_rule = ap (λ (x : IcalRule). checked x (check_ical x)) same
    ∙ ap (checked r) is_rule

pieces_said : (r : IcalRule) (body : List ℕ) → split_at 59 body ≡ pieces_of (entries r)
    → AllFit (entries r) → are_pieces body ≡ true
unfolding are_pieces
pieces_said r body split each = rw split (pieces_fit (entries r) refl each)

said : ValuesAreBack → (r : IcalRule) (body : List ℕ) → split_at 59 body ≡ pieces_of (entries r)
    → ((part : Part) → is_bad_part r part ≡ false) → is_interval r.interval ≡ true → IsWritable r
    → HasWeekdays r → rule_in body r.start ≡ Ok r
said values r body split fit within w d =
    let pieces : are_pieces body ≡ true = pieces_said r body split
    (freq_fits values r.freq, all_fit values r fit within d) in
    let once : first_repeated body ≡ None = nothing_repeated (entries r) body split refl refl
    refl in
    let same : sketch_of body r.start r.freq ≡ r =
    sketch_same r (until_in body) (until_z_in body) (interval_in body) (count_in body)
    (list_in parts.ByMonth body) (list_in parts.ByWeekNo body) (list_in parts.ByYearDay body)
    (list_in parts.ByMonthDay body) (by_day_in body) (list_in parts.ByHour body)
    (list_in parts.ByMinute body) (list_in parts.BySecond body) (list_in parts.BySetPos body)
    (week_start_in body)
    (until_said values r body split fit within w d) (until_z_said values r body split fit within w
    d) (interval_said values r body split fit within w d) (count_said values r body split fit within
    w d) (by_month_said values r body split fit within w d)
    (by_week_said values r body split fit within w d) (by_year_day_said values r body split fit
    within w d) (by_month_day_said values r body split fit within w d)
    (by_day_said values r body split fit within w d) (by_hour_said values r body split fit within w
    d) (by_minute_said values r body split fit within w d)
    (by_second_said values r body split fit within w d) (by_set_pos_said values r body split fit
    within w d) (week_start_said values r body split fit within w d) in
    rw (pieces, freq_said values r body split, once) (judge (sketch_of body r.start r.freq) r same
    w.checked)

text_is : (r : IcalRule) → text_of r ≡ piece_text parts.Freq (freq_name r.freq)
    ++ flat_map (behind 59) (pieces_of (others_of r))
unfolding text_of
text_is r = ap (λ (x : List ℕ). piece_text parts.Freq (freq_name r.freq) ++ x)
    (text_joined (others_of r))

-- a checked rule
record IsGood (r : IcalRule) : Type 0 where
  fit : (part : Part) → is_bad_part r part ≡ false
  within : is_interval r.interval ≡ true

is_good : IcalValuesFit → IcalIntervalFits → (r : IcalRule) → IsWritable r → IsGood r
is_good values_fit interval_fit r w =
    record { fit = λ part. values_fit r part w.checked; within = interval_fit r w.checked }

pub read_back : ValuesAreBack → JoinedAreCut → IcalValuesFit → IcalIntervalFits → WrittenIsRead
read_back values cut values_fit interval_fit r w d =
    let g = is_good values_fit interval_fit r w in
    let each = all_fit values r g.fit g.within d in
    let ps = pieces_of (others_of r) in
    let freq = freq_spoken values r.freq in
    let clean = pieces_spoken (others_of r) each in
    let some = pieces_some (others_of r) refl in
    let body = piece_text parts.Freq (freq_name r.freq) ++ flat_map (behind 59) ps in
    let split : split_at 59 body ≡ pieces_of (entries r) = pieces_are cut (freq_name r.freq) ps freq
    clean in
    rw (text_is r, body_is (freq_name r.freq) ps freq some clean)
    (said values r body split g.fit g.within w d)

joined_plain : (x : List ℕ) (ps : List (List ℕ)) → list_all spoken x ≡ true → each_spoken ps ≡ true
    → list_all is_plain (x ++ flat_map (behind 59) ps) ≡ true
joined_plain x [] first each = rw (append-nil x) (spoken_plain x first)
joined_plain x (p ∷ ps) first each =
    let parts = and_parts (list_all spoken p) (each_spoken ps) each in
    list_all-append is_plain x (59 ∷ p ++ flat_map (behind 59) ps)
    ∙ rw (spoken_plain x first, joined_plain p ps parts.0 parts.1) refl

pub written_plain : ValuesAreBack → IcalValuesFit → IcalIntervalFits → WrittenIsPlain
written_plain values values_fit interval_fit r w d =
    let g = is_good values_fit interval_fit r w in
    let clean = pieces_spoken (others_of r) (all_fit values r g.fit g.within d) in
    rw (text_is r) (joined_plain (piece_text parts.Freq (freq_name r.freq))
    (pieces_of (others_of r)) (freq_spoken values r.freq) clean)

-- what a writer gives is read back
pub back_if_written : WrittenIsRead → (r : IcalRule) → IsWritable r
    → {T E : Type 0} (items : T → List ℕ) (result : Result T E)
    → IfOk result (λ t. items t ≡ text_of r) → OnOk result (HasWeekdays r)
    → IfOk result (λ t. rule_of (items t) r.start ≡ Ok r)
back_if_written law r w items (Ok t) form weekdays = rw form (law r w weekdays)
back_if_written law r w items (Err e) form weekdays = tt
