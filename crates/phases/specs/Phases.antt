-- Phases, one behind the other, of which the first that fails decides.
use Rattle.std.specs.Prelude.{◌≡◌, Result, Ok, Err}

-- one phase, and then another over what it gave
pub data Then {A B C F : Type 0} (P : A → Result B F → Type 0) (Q : B → Result C F → Type 0) (a : A)
    : Result C F → Type 0 where
  fails : (fault : F) → P a (Err fault) → Then P Q a (Err fault)
  goes_on : (b : B) (r : Result C F) → P a (Ok b) → Q b r → Then P Q a r

-- the phase of a function
abbrev pub By : {A B F : Type 0} → (A → Result B F) → A → Result B F → Type 0
By f a r = r ≡ f a

-- a phase may be given anything
abbrev pub Anything : {A : Type 0} → A → Type 0
Anything a = Unit {0}

-- Over what it is given a phase has one answer, and what it gives is what the next one is given.
pub record IsPhase {A B F : Type 0} (Given : A → Type 0) (P : A → Result B F → Type 0)
    (Gives : B → Type 0) : Type 0 where
  pub some : (a : A) → Given a → (r : Result B F) × P a r
  pub one : (a : A) (r s : Result B F) → P a r → P a s → r ≡ s
  pub gives : (a : A) (b : B) → Given a → P a (Ok b) → Gives b
