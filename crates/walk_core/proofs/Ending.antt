-- Items taken from the back.
use Rattle.std.proofs.Common.{◌≡◌, ◌⊎◌, inl, inr, ap, refl, sym, ◌∙◌, arith, ℤ, pos, ◌+ℤ◌, ◌-ℤ◌, ◌≤ℤ◌, Bool, true, false, List, [], ◌∷◌, ◌++◌, Option}
use Rattle.std.proofs.lemmas.Int.{ints}
use Rattle.moment_core.specs.declared.line.Dir.{Dir}
use Rattle.moment_core.specs.declared.line.Dir.TheVariants.{Fore, Back}
use Rattle.moment_core.specs.declared.line.Window.{Window}
use Rattle.moment_core.proofs.Comparing.{cases_le_z}
use Rattle.span_core.specs.declared.bounds.Run.{Run}
use Rattle.run_search.specs.Runs.{IsFirstRun, item_from}
use Rattle.walk_core.specs.Items.{AreItems}

-- the members from low to high are the last run up to the end, past p
pub record IsLastRun (set : ℤ → Bool) (p end low high : ℤ) : Type 0 where
  pub from : p ≤ℤ low
  pub some : low ≤ℤ high
  pub within : high ≤ℤ end
  pub members : (q : ℤ) → low ≤ℤ q → q ≤ℤ high → set q ≡ true
  pub none_past : (q : ℤ) → (high +ℤ pos 1) ≤ℤ q → q ≤ℤ end → set q ≡ false
  pub begins : (low ≤ℤ p) ⊎ (set (low -ℤ pos 1) ≡ false)

-- the first run backwards is the last one forwards
pub last_run : (set : ℤ → Bool) (lo hi near far : ℤ) → IsFirstRun set Back hi lo near far
    → IsLastRun set lo hi far near
last_run set lo hi near far r = record {
  from = r.within;
  some = r.some;
  within = r.from;
  members = λ q h k. r.members q k h;
  none_past = λ q h k. r.none_before q k (omega (arith, ints));
  begins = elim r.ends [
    | inl e ↦ inl (omega (arith, ints, e))
    | inr gap ↦ inr gap
  ];
}

-- items up to right before the last run, and then it
pub items_then_last : (set : ℤ → Bool) (window : Dir → ℤ → Option Window) (p end low high : ℤ)
    (runs : List Run) → IsLastRun set p end low high → AreItems set window Fore p (low -ℤ pos 1)
    runs → AreItems set window Fore p end (runs ++ item_from window Fore low high ∷ [])
items_then_last set window p end low high [] last none = (
  low,
  high,
  record {
    from = last.from;
    none_before = λ q h k. none q h (omega (arith, ints));
    some = last.some;
    members = last.members;
    within = last.within;
    ends = elim (cases_le_z end high) [
      | inl h ↦ let w : high ≤ℤ end = last.within in inl (omega (arith, ints))
      | inr h ↦ inr (last.none_past (high +ℤ pos 1) (omega (arith, ints)) (omega (arith, ints)))
    ];
  },
  refl,
  last.none_past,
)
items_then_last set window p end low high (run ∷ runs) last (near, far, first, is, others) =
    let at : p ≤ℤ near = first.from in
    let on : near ≤ℤ far = first.some in
    let before : far ≤ℤ (low -ℤ pos 1) = first.within in
    let gap : set (far +ℤ pos 1) ≡ false = elim first.ends [
      | inl e ↦ elim last.begins [
        | inl h ↦ absurd (omega (arith, ints, e))
        | inr free ↦
            let t : set (low -ℤ pos 1) ≡ true = ap set (sym e) ∙ first.members far on
            (omega (arith, ints)) in
            let f : true ≡ false = sym t ∙ free in
            absurd cc
      ]
      | inr gap ↦ gap
    ] in
    let free : set (low -ℤ pos 1) ≡ false = elim last.begins [
      | inl h ↦ absurd (omega (arith, ints))
      | inr free ↦ free
    ] in
    let high_on : low ≤ℤ high = last.some in
    let up : high ≤ℤ end = last.within in (
      near,
      far,
      record {
        from = first.from;
        none_before = first.none_before;
        some = first.some;
        members = first.members;
        within = omega (arith, ints);
        ends = inr gap;
      },
      is,
      items_then_last set window (far +ℤ pos 1) end low high runs (record {
        from = omega (arith, ints);
        some = last.some;
        within = last.within;
        members = last.members;
        none_past = last.none_past;
        begins = inr free;
      }) others,
    )
