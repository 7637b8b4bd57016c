-- Runs of bytes, one byte after the other.
use Rattle.std.proofs.Common.{◌≡◌, ℕ, ◌+◌, ◌≤◌, ◌<◌, Bool, true, false, cond, List, [], ◌∷◌, ◌++◌, length, take, drop, get_or, refl, sym, ap, ◌∙◌, append_assoc, arith, add-one, drop-cons}
use Rattle.std.proofs.Math.Seq.{take-suc}
use Rattle.std.proofs.lemmas.Bool.{and_parts}
use Rattle.std.proofs.lemmas.List.{append-nil, drop_all}
use Rattle.std.specs.List.{list_all}
use Rattle.expr_tokens.specs.Class.{front_of, behind, passes_first}

-- the first i bytes are of the run
pub record Passed (p : ℕ → Bool) (s : List ℕ) (i : ℕ) : Type 0 where
  pub fits : i ≤ length s
  pub front : front_of p s ≡ take i s ++ front_of p (drop i s)
  pub rest : behind p s ≡ behind p (drop i s)

module _ (p : ℕ → Bool) (s : List ℕ) where
  pub none_passed : Passed p s 0
  none_passed = record { fits = omega arith; front = refl; rest = refl }

  pub one_passed : (i : ℕ) → i < length s → p (get_or s i 0) ≡ true → Passed p s i
      → Passed p s (i + 1)
  unfolding front_of behind
  one_passed i lt h so_far =
      let one : drop i s ≡ get_or s i 0 ∷ drop (i + 1) s = rw add-one (drop-cons s i 0 lt) in
      let front : front_of p (drop i s) ≡ get_or s i 0 ∷ front_of p (drop (i + 1) s) =
      rw (one, h) refl in
      let rest : behind p (drop i s) ≡ behind p (drop (i + 1) s) = rw (one, h) refl in
      let taken : take (i + 1) s ≡ take i s ++ get_or s i 0 ∷ [] = rw add-one (take-suc s i 0 lt) in
      record {
        fits = omega arith;
        front = rw (taken, append_assoc)
            (so_far.front ∙ ap (λ (x : List ℕ). take i s ++ x) front);
        rest = so_far.rest ∙ rest;
      }

  pub all_passed : (i : ℕ) → length s ≤ i → Passed p s i → (front_of p s ≡ take i s)
      × (behind p s ≡ drop i s)
  unfolding front_of behind
  all_passed i le so_far =
      let none : drop i s ≡ [] = drop_all i s le in
      let front : front_of p (drop i s) ≡ [] = rw none refl in
      let rest : behind p (drop i s) ≡ drop i s = rw none refl in (
        so_far.front ∙ ap (λ (x : List ℕ). take i s ++ x) front ∙ append-nil (take i s),
        so_far.rest
            ∙ rest,
      )

  pub all_done : (i : ℕ) → length s ≤ i → Passed p s i → (front_of p s ≡ take (length s) s)
      × (behind p s ≡ drop (length s) s)
  all_done i le so_far = let e : length s ≡ i = omega (arith, so_far.fits) in
      rw e (all_passed i le so_far)

  pub no_more : (i : ℕ) → i < length s → p (get_or s i 0) ≡ false → Passed p s i
      → (front_of p s ≡ take i s) × (behind p s ≡ drop i s)
  unfolding front_of behind
  no_more i lt h so_far =
      let one : drop i s ≡ get_or s i 0 ∷ drop (i + 1) s = rw add-one (drop-cons s i 0 lt) in
      let front : front_of p (drop i s) ≡ [] = rw (one, h) refl in
      let rest : behind p (drop i s) ≡ drop i s = rw (one, h) refl in (
        so_far.front ∙ ap (λ (x : List ℕ). take i s ++ x) front ∙ append-nil (take i s),
        so_far.rest
            ∙ rest,
      )

pub behind_shorter : (p : ℕ → Bool) (s : List ℕ) → length (behind p s) ≤ length s
unfolding behind
behind_shorter p [] = omega arith
behind_shorter p (b ∷ s) =
    let P : Bool → Type 0 = λ v. length (cond v (behind p s) (b ∷ s)) ≤ length (b ∷ s) in
    let go : (v : Bool) → P v =
    λ v. elim v as P [ true ↦ omega (arith, behind_shorter p s) | false ↦ omega arith ] in
    go (p b)

pub behind_first : (p : ℕ → Bool) (s : List ℕ) → passes_first p s ≡ true → length (behind p s) ≤
    length (drop 1 s)
unfolding behind
behind_first p [] h = absurd cc
behind_first p (b ∷ s) h = rw h (behind_shorter p s)

-- bytes of the run, and a rest that doesn't begin by one more
pub run_and_rest : (p : ℕ → Bool) (run rest : List ℕ) → list_all p run ≡ true → passes_first p rest
    ≡ false → (front_of p (run ++ rest) ≡ run) × (behind p (run ++ rest) ≡ rest)
unfolding front_of behind
run_and_rest p [] [] each stop = (refl, refl)
run_and_rest p [] (b ∷ rest) each stop = (rw stop refl, rw stop refl)
run_and_rest p (b ∷ run) rest each stop =
    let parts = and_parts (p b) (list_all p run) each in
    let others = run_and_rest p run rest parts.1 stop in
    (rw (parts.0, others.0) refl, rw (parts.0, others.1) refl)

-- bytes of the run belong to it whatever stands behind them
pub run_is_longer : (p : ℕ → Bool) (run rest : List ℕ) → list_all p run ≡ true
    → length (behind p (run ++ rest)) ≤ length rest
unfolding behind
run_is_longer p [] rest each = behind_shorter p rest
run_is_longer p (b ∷ run) rest each =
    let parts = and_parts (p b) (list_all p run) each in
    rw parts.0 (run_is_longer p run rest parts.1)

-- the run and what stands behind it are the bytes
pub run_splits : (p : ℕ → Bool) (bytes : List ℕ) → (bytes ≡ front_of p bytes ++ behind p bytes)
    × (list_all p (front_of p bytes) ≡ true)
unfolding front_of behind
run_splits p [] = (refl, refl)
run_splits p (b ∷ bytes) =
    let others = run_splits p bytes in
    let P : Bool → Type 0 =
    λ v. (v ≡ p b) → (b ∷ bytes ≡ cond v (b ∷ front_of p bytes) [] ++ cond v (behind p bytes)
    (b ∷ bytes)) × (list_all p (cond v (b ∷ front_of p bytes) []) ≡ true) in
    let go : (v : Bool) → P v =
    λ v. elim v as P [
      | true ↦ λ e. (ap (λ (x : List ℕ). b ∷ x) others.0, rw (sym e, others.1) refl)
      | false ↦ λ e. (refl, refl)
    ] in
    go (p b) refl
