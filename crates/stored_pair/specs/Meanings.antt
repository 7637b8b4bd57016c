-- What a rule or an entry of the book means.
use Rattle.std.specs.Prelude.{ℕ, ℤ, Bool, false, List, Option, None}
use Rattle.frame_core.specs.declared.frames.Frame.{Frame}

-- which moments are its members and its candidates, and from where on, by which period, the members
-- repeat
pub record Meaning : Type 0 where
  pub member : ℤ → Bool
  pub candidate : ℤ → Bool
  pub frame : Option Frame

-- no moment ever
abbrev pub nothing : Meaning
nothing = record { member = λ t. false; candidate = λ t. false; frame = None }

-- what the entries of a book mean, by their names
abbrev pub Entries : Type 0
Entries = List ℕ → Meaning
