-- A search for moments, day by day, and among them for members.
use Rattle.std.proofs.Common.{inl, inr, ◌≡◌, ℕ, ◌+◌, ◌-◌, ◌*◌, ◌/◌, ◌%◌, ◌<◌, ◌≤◌, Bool, true, false, ◌&&◌, Option, None, Some, refl, sym, ap, ◌∙◌, arith, ℤ, ◌-ℤ◌}
use Rattle.std.proofs.lemmas.Bool.{and_from, and_left, and_parts, and_right, cases_lt, cases_Bool, true≢false}
use Rattle.std.specs.Prelude.{IfNone}
use Rattle.moment_core.proofs.FloorLemmas.{floor_arith}
use Rattle.moment_core.proofs.LineLaws.{ahead-ahead, ahead-zero, same-steps, working-between}
use Rattle.moment_core.specs.Calendar.{divides, month_number, month_of, year_of}
use Rattle.moment_core.specs.Line.{IsWorkingMoment}
use Rattle.moment_core.specs.Sets.{ahead, seen}
use Rattle.moment_core.specs.Steps.{IsNextCandidate, NoCandidateLeft}
use Rattle.moment_core.specs.TimeOfDay.{day_of, second_of_day}
use Rattle.moment_core.specs.Units.{unit_of}
use Rattle.moment_core.specs.declared.line.Dir.{Dir}
use Rattle.moment_core.specs.declared.line.Dir.TheVariants.{Fore, Back}
use Rattle.moment_core.specs.declared.units.Unit.{Unit as TimeUnit}
use Rattle.moment_core.specs.declared.units.Unit.TheVariants.{Year, WeekYear, Month, Week, Day, Hour, Minute, Second}
use Rattle.sieve_core.proofs.CandidateLemmas.{closed-past, near-later}
use Rattle.sieve_core.proofs.SeekLemmas.{sought-parts, working_day-of, working_day-parts, working_day-past}
use Rattle.sieve_core.proofs.TimeLemmas.{meets_second-is, meets_tests-is}
use Rattle.sieve_core.specs.Days.{meets_days}
use Rattle.sieve_core.specs.Members.{has, is_between, meets_interval, meets_rank, meets_rule, meets_tests}
use Rattle.sieve_core.specs.Seek.{IsReached, NoMomentSought, NoDaySought, day_turn, is_sought_moment, is_sought_day, is_working_day, moments_left, month_turn}
use Rattle.sieve_core.specs.Nearest.{IsNearest, IsStart}
use Rattle.sieve_core.specs.Times.{IsLeast, IsLeastIn, meets_second, meets_time, turn}
use Rattle.sieve_core.specs.declared.tables.Sieve.{Sieve}

-- where a step leads, by days and by the time of day
ahead-by_days : (dir : Dir) (t : ℤ) (k q r : ℕ) → turn dir 86_400 (second_of_day t) + k
    ≡ 86_400 * q + r → r < 86_400 → (day_of (ahead dir t k) ≡ ahead dir (day_of t) q)
    × (second_of_day (ahead dir t k) ≡ turn dir 86_400 r)
ahead-by_days Fore t k q r e below = (omega (arith, floor_arith), omega (arith, floor_arith))
ahead-by_days Back t k q r e below = (omega (arith, floor_arith), omega (arith, floor_arith))

pub turned_day-below : (dir : Dir) (t : ℤ) → turn dir 86_400 (second_of_day t) < 86_400
turned_day-below Fore t = omega (arith, floor_arith)
turned_day-below Back t = omega arith

place-by_days : (dir : Dir) (t u : ℤ) (q m : ℕ) → day_of u ≡ ahead dir (day_of t) q
    → second_of_day u
    ≡ turn dir 86_400 m → m < 86_400 → turn dir 86_400 (second_of_day t) ≤ 86_400 * q + m → u
    ≡ ahead dir t (86_400 * q + m - turn dir 86_400 (second_of_day t))
place-by_days Fore t u q m day second below low = omega (arith, floor_arith)
place-by_days Back t u q m day second below low = omega (arith, floor_arith)

-- a moment is met where its day is sought and its time is met
met-by_days : (s : Sieve) (dir : Dir) (t : ℤ) (k q r : ℕ) → turn dir 86_400 (second_of_day t) + k
    ≡ 86_400 * q + r → r < 86_400 → seen (is_sought_moment s) dir t k
    ≡ (seen (is_sought_day s) dir (day_of t) q && meets_second s dir r)
unfolding is_sought_moment
met-by_days s dir t k q r e below =
    let place = ahead-by_days dir t k q r e below in
    rw (place.0, place.1, meets_second-is s dir r below) refl

met-parts : (s : Sieve) (u : ℤ) → is_sought_moment s u ≡ true → (is_sought_day s (day_of u) ≡ true)
    × (meets_time s (second_of_day u) ≡ true)
unfolding is_sought_moment
met-parts s u e = and_parts (is_sought_day s (day_of u)) (meets_time s (second_of_day u)) e

working-by_day : (u : ℤ) → is_working_day (day_of u) ≡ true → IsWorkingMoment u
working-by_day u e =
    let parts = working_day-parts (day_of u) e in
    (omega (arith, floor_arith, parts), omega (arith, floor_arith, parts))

pub met-working : (s : Sieve) (u : ℤ) → is_sought_moment s u ≡ true → IsWorkingMoment u
met-working s u e = working-by_day u (sought-parts s (day_of u) (met-parts s u e).0).0

pub none-met : (s : Sieve) (dir : Dir) (t : ℤ) → NoDaySought s dir (day_of t)
    → NoMomentSought s dir t
none-met s dir t none k =
    let n = turn dir 86_400 (second_of_day t) + k in
    met-by_days s dir t k (n / 86_400) (n % 86_400) (omega arith) (omega arith)
    ∙ and_left _ _ (none (n / 86_400))

-- the nearest day, and on it the first time that isn't before t
nearest-met : (s : Sieve) (dir : Dir) (t d u : ℤ) (m : ℕ) (days : IsNearest (is_sought_day s) dir
    (day_of t) d) → day_of u ≡ d → second_of_day u ≡ turn dir 86_400 m → m < 86_400
    → turn dir 86_400 (second_of_day t) ≤ 86_400 * days.steps + m → meets_second s dir m ≡ true
    → ((r : ℕ) → turn dir 86_400 (second_of_day t) ≤ 86_400 * days.steps + r → r < m
    → meets_second s dir r ≡ false) → IsNearest (is_sought_moment s) dir t u
unfolding is_sought_moment
nearest-met s dir t d u m days day second below low met none =
    let from = turn dir 86_400 (second_of_day t) in
    let q = days.steps in
    let sought : is_sought_day s (day_of u) ≡ true = rw day days.meets in
    let time : meets_time s (second_of_day u) ≡ true = rw second (sym
    (meets_second-is s dir m below) ∙ met) in
    record {
      steps = 86_400 * q + m - from;
      place = place-by_days dir t u q m (day ∙ days.place) second below low;
      meets = and_from (is_sought_day s (day_of u)) (meets_time s (second_of_day u)) sought time;
      none_before = λ k early.
          met-by_days s dir t k ((from + k) / 86_400) ((from + k) % 86_400) (omega arith)
          (omega arith)
          ∙ elim (cases_lt ((from + k) / 86_400) q) [
            | inl before ↦ and_left _ _ (days.none_before ((from + k) / 86_400) before)
            | inr late ↦ and_right _ _ (none ((from + k) % 86_400) (omega
                (arith, early, late, below))
                (omega (arith, early, late, below)))
          ];
    }

-- on the day of t itself
pub nearest-same_day : (s : Sieve) (dir : Dir) (t d u : ℤ) (n : ℕ) → IsNearest (is_sought_day s) dir
    (day_of t) d → d ≡ day_of t → day_of u ≡ d → second_of_day u ≡ turn dir 86_400 n
    → IsLeast (meets_second s dir) (turn dir 86_400 (second_of_day t)) 86_400 n
    → IsNearest (is_sought_moment s) dir t u
nearest-same_day s dir t d u n days same day second least =
    let none : days.steps ≡ 0 = same-steps dir (day_of t) d days.steps 0 days.place
    (same ∙ sym (ahead-zero dir (day_of t))) in
    nearest-met s dir t d u n days day second least.high (omega
    (arith, none, least.low)) least.meets
    (λ r from early. least.none_before r (omega (arith, none, from)) early)

-- on a later day
pub nearest-later_day : (s : Sieve) (dir : Dir) (t d u : ℤ) (n : ℕ) → IsNearest
    (is_sought_day s) dir
    (day_of t) d → (d ≡ day_of t → ⊥) → day_of u ≡ d → second_of_day u ≡ turn dir 86_400 n
    → IsLeast (meets_second s dir) 0 86_400 n → turn dir 86_400 (second_of_day t) < 86_400
    → IsNearest (is_sought_moment s) dir t u
nearest-later_day s dir t d u n days other day second least within =
    elim (cases_lt 0 days.steps) [
      | inl some ↦ nearest-met s dir t d u n days day second least.high (omega
          (arith, some, within)) least.meets
          (λ r from early. least.none_before r (omega arith) early)
      | inr none ↦ (let zero_steps : days.steps ≡ 0 = omega (arith, none) in
          absurd (other (days.place ∙ ap (ahead dir (day_of t)) zero_steps ∙ ahead-zero dir
          (day_of t))))
    ]

pub least-not_none : (f : ℕ → Bool) (from end n : ℕ) → IsLeast f from end n
    → IsLeastIn f 0 end None → ⊥
least-not_none f from end n least none =
    true≢false (sym least.meets ∙ none n (omega arith) least.high)

-- the same from a later place on
ahead-from : (dir : Dir) (t w : ℤ) (m k : ℕ) → w ≡ ahead dir t m → m ≤ k → ahead dir t k
    ≡ ahead dir w (k - m)
ahead-from dir t w m k place h =
    let whole : m + (k - m) ≡ k = omega (arith, h) in
    sym (rw place (ahead-ahead dir t m (k - m)) ∙ ap (ahead dir t) whole)

seen-from : (test : ℤ → Bool) (dir : Dir) (t w : ℤ) (m k : ℕ) → w ≡ ahead dir t m → m ≤ k
    → seen test dir t k ≡ seen test dir w (k - m)
seen-from test dir t w m k place h = ap test (ahead-from dir t w m k place h)

pub nearest-from : (test : ℤ → Bool) (dir : Dir) (t w u : ℤ) (m : ℕ) → w ≡ ahead dir t m
    → ((k : ℕ) → k < m → seen test dir t k ≡ false) → IsNearest test dir w u
    → IsNearest test dir t u
nearest-from test dir t w u m place none near = record {
  steps = m + near.steps;
  place = near.place ∙ rw place (ahead-ahead dir t m near.steps);
  meets = near.meets;
  none_before = λ k below. elim (cases_lt k m) [
    | inl early ↦ none k early
    | inr late ↦ seen-from test dir t w m k place late ∙ near.none_before (k - m) (omega
        (arith, below, late))
  ];
}

pub none-from : (test : ℤ → Bool) (dir : Dir) (t w : ℤ) (m : ℕ) → w ≡ ahead dir t m
    → ((k : ℕ) → k < m → seen test dir t k ≡ false) → ((k : ℕ) → seen test dir w k ≡ false)
    → (k : ℕ) → seen test dir t k ≡ false
none-from test dir t w m place none later k =
    elim (cases_lt k m) [
      | inl early ↦ none k early
      | inr late ↦ seen-from test dir t w m k place late ∙ later (k - m)
    ]

pub if-none_then : {A : Type 0} {P Q : Type 0} (r : Option A) → IfNone r P → (P → Q) → IfNone r Q
if-none_then None h f = f h
if-none_then (Some x) h f = tt

-- where no time is met
pub none-times : (s : Sieve) (dir : Dir) (t : ℤ) → IsLeastIn (meets_second s dir) 0 86_400 None
    → NoMomentSought s dir t
none-times s dir t none k =
    let n = turn dir 86_400 (second_of_day t) + k in
    met-by_days s dir t k (n / 86_400) (n % 86_400) (omega arith) (omega arith)
    ∙ and_right _ _ (none (n % 86_400) (omega arith) (omega arith))

-- where no time of t's day is left
pub none-same_day : (s : Sieve) (dir : Dir) (t : ℤ) (from : ℕ) → from
    ≡ turn dir 86_400 (second_of_day t)
    → ((k : ℕ) → from ≤ k → k < 86_400 → meets_second s dir k ≡ false) → (k : ℕ) → k < 86_400 - from
    → seen (is_sought_moment s) dir t k ≡ false
none-same_day s dir t from e none k below =
    met-by_days s dir t k 0 (from + k) (omega (arith, e)) (omega (arith, below))
    ∙ and_right _ _ (none (from + k) (omega arith) (omega (arith, below)))

next-day : (dir : Dir) (t w : ℤ) (from : ℕ) → from ≡ turn dir 86_400 (second_of_day t)
    → from < 86_400 → w ≡ ahead dir t (86_400 - from) → day_of w ≡ ahead dir (day_of t) 1
next-day dir t w from e below place =
    ap day_of place ∙ (ahead-by_days dir t (86_400 - from) 1 0 (omega (arith, e, below))
    (omega arith)).0

unsought-past : (s : Sieve) (dir : Dir) (d : ℤ) (k : ℕ) → is_working_day d ≡ true
    → is_working_day (ahead dir d 1) ≡ false → 1 ≤ k → seen (is_sought_day s) dir d k ≡ false
unfolding is_sought_day
unsought-past s dir d k here past h = and_left _ _ (and_left _ _ (and_left _ _
    (working_day-past dir d 1 k here past h)))

-- and the working range ends with it
pub none-past : (s : Sieve) (dir : Dir) (t w : ℤ) (from : ℕ) → IsWorkingMoment t → from
    ≡ turn dir 86_400 (second_of_day t) → from < 86_400
    → ((k : ℕ) → from ≤ k → k < 86_400 → meets_second s dir k ≡ false) → w
    ≡ ahead dir t (86_400 - from) → (IsWorkingMoment w → ⊥) → NoMomentSought s dir t
none-past s dir t w from working e below none place closed k =
    let day = next-day dir t w from e below place in
    let past : is_working_day (ahead dir (day_of t) 1) ≡ false =
    elim (cases_Bool (is_working_day (ahead dir (day_of t) 1))) [
      | inl inside ↦ absurd (closed (working-by_day w (rw day inside)))
      | inr outside ↦ outside
    ] in
    elim (cases_lt k (86_400 - from)) [
      | inl early ↦ none-same_day s dir t from e none k early
      | inr late ↦ met-by_days s dir t k ((from + k) / 86_400) ((from + k) % 86_400) (omega
          (arith, e)) (omega arith)
          ∙ and_left _ _ (unsought-past s dir (day_of t) ((from + k) / 86_400)
          (working_day-of t working)
          past (omega (arith, late, below)))
    ]

-- the interval by months and by days
turns : (u : TimeUnit) (n : ℕ) (phase t : ℤ) → divides n (unit_of u t -ℤ phase) ≡ true
    → (month_turn u n phase (year_of (day_of t)) (month_of (day_of t)) ≡ true)
    × (day_turn u n phase (day_of t) ≡ true)
unfolding unit_of month_number
turns Year n phase t e = (e, refl)
turns (WeekYear first) n phase t e = (refl, e)
turns Month n phase t e = (e, refl)
turns (Week first) n phase t e = (refl, e)
turns Day n phase t e = (refl, e)
turns Hour n phase t e = (refl, refl)
turns Minute n phase t e = (refl, refl)
turns Second n phase t e = (refl, refl)

interval-turns : (s : Sieve) (t : ℤ) → meets_interval s t ≡ true
    → (month_turn s.unit s.interval s.phase (year_of (day_of t)) (month_of (day_of t)) ≡ true)
    × (day_turn s.unit s.interval s.phase (day_of t) ≡ true)
unfolding meets_interval
interval-turns s t e = turns s.unit s.interval s.phase t e

sought-from : (s : Sieve) (d : ℤ) → is_working_day d ≡ true → meets_days s.days d ≡ true
    → month_turn s.unit s.interval s.phase (year_of d) (month_of d) ≡ true
    → day_turn s.unit s.interval s.phase d ≡ true → is_sought_day s d ≡ true
unfolding is_sought_day
sought-from s d working days month day = and_from _ _ (and_from _ _
    (and_from _ _ working days) month) day

-- a member is met
member-parts : (s : Sieve) (u : ℤ) → has s u ≡ true → (meets_tests s u ≡ true)
    × (meets_interval s u ≡ true)
unfolding has meets_rule
member-parts s u e =
    let rule = and_parts (is_between s u) (meets_tests s u && meets_interval s u
    && meets_rank s u) e in
    let turn = and_parts (meets_tests s u && meets_interval s u) (meets_rank s u) rule.1 in
    and_parts (meets_tests s u) (meets_interval s u) turn.0

member-met : (s : Sieve) (u : ℤ) → IsWorkingMoment u → has s u ≡ true → is_sought_moment s u ≡ true
unfolding is_sought_moment
member-met s u working e =
    let parts = member-parts s u e in
    let tests = and_parts (meets_days s.days (day_of u)) (meets_time s (second_of_day u))
    (sym (meets_tests-is s u) ∙ parts.0) in
    let turn = interval-turns s u parts.1 in
    and_from _ _ (sought-from s (day_of u) (working_day-of u working) tests.0 turn.0 turn.1) tests.1

no-member : (s : Sieve) (u : ℤ) → IsWorkingMoment u → is_sought_moment s u ≡ false → has s u ≡ false
no-member s u working unmet =
    elim (cases_Bool (has s u)) [
      | inl member ↦ absurd (true≢false (sym (member-met s u working member) ∙ unmet))
      | inr other ↦ other
    ]

-- and what is met is a member between the ends, if it has its turn
met-member : (s : Sieve) (u : ℤ) → is_sought_moment s u ≡ true → is_between s u ≡ true
    → (meets_interval s u && meets_rank s u) ≡ true → has s u ≡ true
unfolding has meets_rule
met-member s u met between e =
    let time = met-parts s u met in
    let turn = and_parts (meets_interval s u) (meets_rank s u) e in
    let days = (sought-parts s (day_of u) time.0).1 in
    let tests : meets_tests s u ≡ true = meets_tests-is s u ∙ and_from _ _ days time.1 in
    and_from _ _ between (and_from _ _ (and_from _ _ tests turn.0) turn.1)

out-of-turn : (s : Sieve) (u : ℤ) → (meets_interval s u && meets_rank s u) ≡ false → has s u ≡ false
unfolding has meets_rule
out-of-turn s u e = elim (cases_Bool (meets_interval s u)) [
  | inl met ↦ and_right _ _ (and_right _ _ (rw met at e))
  | inr unmet ↦ and_right _ _ (and_left _ _ (and_right _ _ unmet))
]

not-between : (s : Sieve) (u : ℤ) → is_between s u ≡ false → has s u ≡ false
unfolding has
not-between s u e = and_left _ _ e

-- where a search for members begins
pub reached-start : (s : Sieve) (dir : Dir) (t w : ℤ) → IsWorkingMoment t → IsStart s dir t w
    → IsReached s dir t w
reached-start s dir t w working begins = record {
  gap = begins.gap;
  place = begins.place;
  none_before = λ k some high within. not-between s (ahead dir t k)
      (begins.none_before k some high);
  near = begins.near;
  working = working;
}

-- nothing lies past a place that isn't open
pub none-left-closed : (s : Sieve) (dir : Dir) (t w : ℤ) → IsReached s dir t w
    → (IsWorkingMoment w × (is_between s w ≡ true) → ⊥) → NoCandidateLeft (has s) dir t
none-left-closed s dir t w at closed = λ k some within.
    elim (cases_lt at.gap k) [
      | inl late ↦ (let place : ahead dir t k ≡ ahead dir w (k - (at.gap + 1)) =
          ahead-from dir t w (at.gap + 1) k at.place (omega (arith, late)) in
          not-between s (ahead dir t k) (closed-past s dir t w (ahead dir t k) (at.gap + 1)
          (k - (at.gap + 1)) at.working at.place at.near closed place within))
      | inr early ↦ at.none_before k some early within
    ]

-- nor where nothing is met
pub none-left-unmet : (s : Sieve) (dir : Dir) (t w : ℤ) → IsReached s dir t w
    → NoMomentSought s dir w
    → NoCandidateLeft (has s) dir t
none-left-unmet s dir t w at none = λ k some within.
    elim (cases_lt at.gap k) [
      | inl late ↦ no-member s (ahead dir t k) within (seen-from (is_sought_moment s) dir t w
          (at.gap + 1) k
          at.place (omega (arith, late)) ∙ none (k - (at.gap + 1)))
      | inr early ↦ at.none_before k some early within
    ]

-- from a place that is met on
clear-to_met : (s : Sieve) (dir : Dir) (t w u : ℤ) (at : IsReached s dir t w)
    (near : IsNearest (is_sought_moment s) dir w u) (k : ℕ) → 0 < k → k < at.gap + 1 + near.steps
    → IsWorkingMoment (ahead dir t k) → seen (has s) dir t k ≡ false
clear-to_met s dir t w u at near k some below within =
    elim (cases_lt at.gap k) [
      | inl late ↦ no-member s (ahead dir t k) within (seen-from (is_sought_moment s) dir t w
          (at.gap + 1) k
          at.place (omega (arith, late)) ∙ near.none_before (k - (at.gap + 1)) (omega
          (arith, late, below)))
      | inr early ↦ at.none_before k some early within
    ]

met-place : (s : Sieve) (dir : Dir) (t w u : ℤ) (at : IsReached s dir t w)
    (near : IsNearest (is_sought_moment s) dir w u) → u ≡ ahead dir t (at.gap + 1 + near.steps)
met-place s dir t w u at near = near.place ∙ rw at.place (ahead-ahead dir t (at.gap + 1) near.steps)

-- nothing lies past one that isn't between the ends
pub none-left-met : (s : Sieve) (dir : Dir) (t w u : ℤ) → IsReached s dir t w
    → IsNearest (is_sought_moment s) dir w u → is_between s u ≡ false → NoCandidateLeft
    (has s) dir t
none-left-met s dir t w u at near outside = λ k some within.
    let n = at.gap + 1 + near.steps in
    let place = met-place s dir t w u at near in
    elim (cases_lt k n) [
      | inl early ↦ clear-to_met s dir t w u at near k some early within
      | inr late ↦ not-between s (ahead dir t k) (closed-past s dir t u (ahead dir t k) n
          (k - n) at.working place
          (near-later s dir w u near.steps near.place at.near)
          (λ inside. true≢false (sym inside.1 ∙ outside))
          (ahead-from dir t u n k place late) within)
    ]

-- one between the ends that has its turn is the nearest member
pub next-member : (s : Sieve) (dir : Dir) (t w u : ℤ) → IsReached s dir t w
    → IsNearest (is_sought_moment s) dir w u → is_between s u ≡ true
    → (meets_interval s u && meets_rank s u) ≡ true → IsNextCandidate (has s) dir t u
next-member s dir t w u at near between turn =
    let place = met-place s dir t w u at near in
    let working = met-working s u near.meets in (
      working,
      (
        at.gap + 1 + near.steps,
        place,
        record {
          later = omega arith;
          meets = rw (← place) (met-member s u near.meets between turn);
          none_before = λ k some below. clear-to_met s dir t w u at near k some below
              (working-between dir t k (at.gap + 1 + near.steps) at.working (rw (← place) working)
              (omega (arith, below)));
        },
      ),
    )

-- and after another the search goes on
pub reached-past : (s : Sieve) (dir : Dir) (t w u v : ℤ) → IsReached s dir t w
    → IsNearest (is_sought_moment s) dir w u → (meets_interval s u && meets_rank s u) ≡ false → v
    ≡ ahead dir u 1 → IsReached s dir t v
reached-past s dir t w u v at near turn on =
    let place = met-place s dir t w u at near in
    record {
      gap = at.gap + 1 + near.steps;
      place = on ∙ rw place (ahead-ahead dir t (at.gap + 1 + near.steps) 1);
      none_before = λ k some high within. elim (cases_lt k (at.gap + 1 + near.steps)) [
        | inl early ↦ clear-to_met s dir t w u at near k some early within
        | inr late ↦ (let here : k ≡ at.gap + 1 + near.steps = omega (arith, high, late) in
            rw (here, ← place) (out-of-turn s u turn))
      ];
      near = near-later s dir u v 1 on (near-later s dir w u near.steps near.place at.near);
      working = at.working;
    }

pub moments-fewer : (s : Sieve) (dir : Dir) (w u v : ℤ) → IsWorkingMoment w → IsWorkingMoment u
    → IsNearest (is_sought_moment s) dir w u → v ≡ ahead dir u 1
    → moments_left dir v < moments_left dir w
moments-fewer s Fore w u v here there near on = omega
    (arith, floor_arith, here, there, near.place, on)
moments-fewer s Back w u v here there near on = omega
    (arith, floor_arith, here, there, near.place, on)
