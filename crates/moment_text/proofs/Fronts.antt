-- Fronts of a text that have a form.
use Rattle.std.proofs.Common.{◌≡◌, ℕ, zero, suc, ◌<◌, ◌≤◌, Bool, true, false, ◌&&◌, ◌||◌, List, [], ◌∷◌, ◌++◌, length, take, refl, ap, inl, inr, arith}
use Rattle.std.proofs.lemmas.Bool.{and_parts, and_from, or_cases, or_left, or_right, cases_Bool, both_ways, false≢true, cases_order}
use Rattle.moment_text.specs.Literal.{fits, has_form, form_of, is_shaped, last_passing}

-- the bytes at the front fit the form
abbrev pub begins : List ℕ → List ℕ → Bool
begins [] bytes = true
begins (mark ∷ form) [] = false
begins (mark ∷ form) (b ∷ bytes) = fits mark b && begins form bytes

-- a front that has a form is as long as the form, and the bytes begin by it
pub begins_by : (form bytes : List ℕ) (n : ℕ) → n ≤ length bytes → has_form form (take n bytes)
    ≡ true → (n ≡ length form) × (begins form bytes ≡ true)
unfolding has_form
begins_by [] bytes zero within h = (refl, refl)
begins_by [] [] (suc n) within h = absurd (omega arith)
begins_by [] (b ∷ bytes) (suc n) within h = absurd (false≢true h)
begins_by (mark ∷ form) bytes zero within h = absurd (false≢true h)
begins_by (mark ∷ form) [] (suc n) within h = absurd (omega arith)
begins_by (mark ∷ form) (b ∷ bytes) (suc n) within h =
    let parts = and_parts (fits mark b) (has_form form (take n bytes)) h in
    let rest = begins_by form bytes n (omega arith) parts.1 in
    (ap suc rest.0, and_from (fits mark b) (begins form bytes) parts.0 rest.1)

-- where the bytes begin by a form, that front has it
pub has_front : (form bytes : List ℕ) → begins form bytes ≡ true
    → (has_form form (take (length form) bytes) ≡ true) × (length form ≤ length bytes)
unfolding has_form
has_front [] bytes h = (refl, omega arith)
has_front (mark ∷ form) [] h = absurd (false≢true h)
has_front (mark ∷ form) (b ∷ bytes) h =
    let parts = and_parts (fits mark b) (begins form bytes) h in
    let rest = has_front form bytes parts.1 in
    (and_from (fits mark b) (has_form form (take (length form) bytes)) parts.0 rest.0, omega arith)

-- behind a text that has a form, a longer form goes on
pub begins-append : (form more text rest : List ℕ) → has_form form text ≡ true
    → begins (form ++ more) (text ++ rest) ≡ begins more rest
unfolding has_form
begins-append [] more [] rest h = refl
begins-append [] more (b ∷ text) rest h = absurd (false≢true h)
begins-append (mark ∷ form) more [] rest h = absurd (false≢true h)
begins-append (mark ∷ form) more (b ∷ text) rest h =
    let parts = and_parts (fits mark b) (has_form form text) h in
    rw parts.0 (begins-append form more text rest parts.1)

pub length_of : (form text : List ℕ) → has_form form text ≡ true → length text ≡ length form
unfolding has_form
length_of [] [] h = refl
length_of [] (b ∷ text) h = absurd (false≢true h)
length_of (mark ∷ form) [] h = absurd (false≢true h)
length_of (mark ∷ form) (b ∷ text) h =
    ap suc (length_of form text (and_parts (fits mark b) (has_form form text) h).1)

-- a shaped text has one of the four forms
pub shape_of : (text : List ℕ) → is_shaped text ≡ true → (signed : Bool) × (absolute : Bool)
    × (has_form (form_of signed absolute) text ≡ true)
unfolding is_shaped
shape_of text h =
    let a = has_form (form_of false false) text in
    let b = has_form (form_of false true) text in
    let c = has_form (form_of true false) text in
    let d = has_form (form_of true true) text in
    elim (or_cases (a || b || c) d h) [
      | inl h3 ↦ elim (or_cases (a || b) c h3) [
        | inl h2 ↦ elim (or_cases a b h2) [
          | inl h1 ↦ (false, false, h1)
          | inr h1 ↦
              (false, true, h1)
        ]
        | inr h2 ↦ (true, false, h2)
      ]
      | inr h3 ↦ (true, true, h3)
    ]

pub has_shape : (signed absolute : Bool) (text : List ℕ) → has_form (form_of signed absolute) text
    ≡ true → is_shaped text ≡ true
unfolding is_shaped
has_shape false false text h = or_left _ _ (or_left _ _ (or_left _ _ h))
has_shape false true text h =
    or_left _ _ (or_left _ _ (or_right (has_form (form_of false false) text) _ h))
has_shape true false text h =
    or_left _ _ (or_right (has_form (form_of false false) text || has_form (form_of false true)
    text) _ h)
has_shape true true text h = or_right (has_form (form_of false false) text
    || has_form (form_of false true) text || has_form (form_of true false) text) _ h

-- the last that passes
pub last_passing-within : (p : ℕ → Bool) (n : ℕ) → last_passing p n ≤ n
unfolding last_passing
last_passing-within p zero = omega arith
last_passing-within p (suc n) =
    let below = last_passing-within p n in
    elim (cases_Bool (p (suc n))) [
      | inl holds ↦ rw holds (omega arith)
      | inr fails ↦
          rw fails (omega arith)
    ]

pub last_passing-passes : (p : ℕ → Bool) (n : ℕ) → 0 < last_passing p n → p (last_passing p n)
    ≡ true
unfolding last_passing
last_passing-passes p zero h = absurd (omega arith)
last_passing-passes p (suc n) h =
    elim (cases_Bool (p (suc n))) [
      | inl holds ↦ rw holds holds
      | inr fails ↦
          rw fails (last_passing-passes p n (rw fails at h))
    ]

pub last_passing-last : (p : ℕ → Bool) (n k : ℕ) → last_passing p n < k → k ≤ n → p k ≡ false
unfolding last_passing
last_passing-last p zero k above within = absurd (omega arith)
last_passing-last p (suc n) k above within =
    elim (cases_Bool (p (suc n))) [
      | inl holds ↦ (let below : suc n < k = rw holds at above in absurd (omega arith))
      | inr fails ↦ (let below : last_passing p n < k = rw fails at above in
          elim (cases_order k (suc n)) [
            | inl same ↦ rw same fails
            | inr apart ↦ last_passing-last p n k below
                (elim apart [ inl less ↦ omega arith | inr more ↦ absurd (omega arith) ])
          ])
    ]

-- what passes, with nothing that passes above it, is the last
pub last_passing-is : (p : ℕ → Bool) (n k : ℕ) → k ≤ n → (0 < k → p k ≡ true)
    → ((j : ℕ) → k < j → j ≤ n → p j ≡ false) → last_passing p n ≡ k
last_passing-is p n k within here above =
    let last = last_passing p n in
    elim (cases_order last k) [
      | inl same ↦ same
      | inr apart ↦ elim apart [
        | inl less ↦ absurd (both_ways (p k) (last_passing-last p n k less within)
            (here (omega arith)))
        | inr more ↦ absurd (both_ways (p last) (above last more (last_passing-within p n))
            (last_passing-passes p n (omega arith)))
      ]
    ]
