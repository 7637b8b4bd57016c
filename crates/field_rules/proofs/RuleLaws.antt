-- The laws of a recurrence for a sieve of the whole working range.
use Rattle.std.proofs.Common.{inl, inr, ◌≡◌, ℕ, ◌*◌, ◌≤◌, Bool, true, refl, sym, ap, ◌∙◌, arith, ℤ, pos, ◌+ℤ◌, ◌-ℤ◌, Some, None, nat_le}
use Rattle.std.proofs.lemmas.Bool.{cases_Bool, leb-true}
use Rattle.std.proofs.lemmas.Int.{ints}
use Rattle.frame_core.specs.Frames.{Repeats}
use Rattle.frame_core.specs.Laws.{RulesComeRound}
use Rattle.frame_core.specs.Periods.{in_width, period_of_rule}
use Rattle.frame_core.specs.declared.frames.Frame.{Frame}
use Rattle.moment_core.specs.Line.{IsWorkingMoment}
use Rattle.moment_core.specs.Sets.{moments_in}
use Rattle.moment_core.specs.Steps.{IsNextStep}
use Rattle.moment_core.specs.declared.line.Dir.{Dir}
use Rattle.moment_core.specs.declared.line.Step.{Step}
use Rattle.moment_core.specs.declared.line.Step.TheVariants.{Hit, Pass, End}
use Rattle.moment_core.specs.declared.line.TheConstants.{WIDTH}
use Rattle.sieve_core.specs.Laws.{MembersAreCandidates, RulesDecideBetween, RulesRepeat}
use Rattle.sieve_core.specs.Members.{has, is_candidate, meets_rule}
use Rattle.moment_core.specs.Units.{units_of}
use Rattle.moment_core.proofs.LineLaws.{earlier-back, moments_in-later}
use Rattle.sieve_core.specs.declared.tables.Sieve.{Sieve}
use Rattle.field_rules.specs.Leaves.{IsWholeSieve}

-- in the working range the sieve's members are those of the rule
pub has-working : RulesDecideBetween → (s : Sieve) (t : ℤ) → IsWholeSieve s → IsWorkingMoment t
    → has s t ≡ meets_rule s t
has-working between s t is h = between s t (omega (arith, ints, is.first))
    (omega (arith, ints, is.last))

pub candidates : RulesDecideBetween → MembersAreCandidates → (s : Sieve) → IsWholeSieve s → (t : ℤ)
    → IsWorkingMoment t → meets_rule s t ≡ true → is_candidate s t ≡ true
candidates between members s is t h e = members s t (has-working between s t is h ∙ e)

-- so a step of the sieve is one of the rule
pub step-of_rule : RulesDecideBetween → (s : Sieve) (dir : Dir) (t : ℤ) (step : Step)
    → IsWholeSieve s → IsNextStep (has s) (is_candidate s) dir t step → IsNextStep (meets_rule s)
    (is_candidate s) dir t step
step-of_rule between s dir t (Hit u) is (next, e) = (
  next,
  sym (has-working between s u.0 is next.0)
      ∙ e,
)
step-of_rule between s dir t (Pass u) is (next, e) =
    (next, sym (has-working between s u.0 is next.0) ∙ e)
step-of_rule between s dir t End is none = none

-- the period is as many times 400 years as take the interval round
meets_rule-period : RulesComeRound → RulesRepeat → (s : Sieve) (t : ℤ) → IsWholeSieve s
    → meets_rule s (t +ℤ pos (period_of_rule (units_of s.unit) s.interval)) ≡ meets_rule s t
meets_rule-period round repeats s t is =
    let (m, j, period, whole) = (round (units_of s.unit) s.interval is.sieve.interval).1 in
    ap (λ p. meets_rule s (t +ℤ pos p)) period ∙ repeats s t m j is.sieve is.weekday whole

pub period-positive : RulesComeRound → (s : Sieve) → IsWholeSieve s
    → 1 ≤ period_of_rule (units_of s.unit) s.interval
period-positive round s is = (round (units_of s.unit) s.interval is.sieve.interval).0

-- a period that is there is the rule's
pub in_width-is : (n p : ℕ) → Some p ≡ in_width n → (p ≡ n) × (p ≤ WIDTH)
in_width-is n p e = elim (cases_Bool (nat_le n WIDTH)) [
  | inl within ↦ (let same : Some p ≡ Some n = e ∙ rw within refl in let eq : p ≡ n = cc in
      (eq, omega (arith, leb-true n WIDTH within)))
  | inr past ↦ absurd (let none : Some p ≡ None = e ∙ rw past refl in cc)
]

-- a set of moments that is the same a period later repeats by each frame of that period
pub repeats-by : (f : ℤ → Bool) (frame : Frame) → ((t : ℤ) → f (t +ℤ pos frame.period) ≡ f t)
    → Repeats (moments_in f) frame
repeats-by f frame same = record {
  upwards = λ p above. moments_in-later f p frame.period (λ t at. same t);
  downwards = λ p below.
      sym (moments_in-later f (p -ℤ pos (2 * frame.period)) frame.period (λ t at. same t))
      ∙ ap (moments_in f) (earlier-back p (2 * frame.period));
}

pub rule-repeats : RulesComeRound → RulesRepeat → (s : Sieve) (frame : Frame) → IsWholeSieve s
    → frame.period ≡ period_of_rule (units_of s.unit) s.interval
    → Repeats (moments_in (meets_rule s)) frame
rule-repeats round repeats s frame is e =
    repeats-by (meets_rule s) frame (λ t. ap (λ n. meets_rule s (t +ℤ pos n)) e
    ∙ meets_rule-period round repeats s t is)
