-- What rules and their counts owe in a tree as it was written.
use Rattle.std.specs.Prelude.{◌≡◌, ◌⊎◌}
use Rattle.ical_rules.specs.declared.outcome.Unsettled.{Unsettled}
use Rattle.moment_core.specs.Line.{IsWorkingMoment}
use Rattle.expr_tree.specs.Tree.{Rule, Tree, meant_of}
use Rattle.expr_tree.specs.WellFormed.{IsWellFormed}
use Rattle.stored_pair.specs.Meanings.{Entries}
use Rattle.search_core.specs.Lawful.{AreLawful}
use Rattle.lowered_tree.specs.Settling.{AreSettled, IsFirstUnsettled}

-- what a well-formed tree means has lawful rules, as no rule names an entry of the book yet
abbrev pub WellFormedAreLawful : Type 0
WellFormedAreLawful =
    (entries : Entries) (t : Tree Rule) → IsWellFormed t → AreLawful (meant_of entries t)

-- the counts of a well-formed tree are settled, or one of its rules is the first for which that
-- fails
abbrev pub TreesSettleOrNot : Type 0
TreesSettleOrNot =
    (t : Tree Rule) → IsWellFormed t → AreSettled t ⊎ ((u : Unsettled) × IsFirstUnsettled t u)

-- and not both
abbrev pub SettledHaveNone : Type 0
SettledHaveNone = (t : Tree Rule) (u : Unsettled) → AreSettled t → IsFirstUnsettled t u → ⊥

abbrev pub FirstUnsettledIsOne : Type 0
FirstUnsettledIsOne =
    (t : Tree Rule) (u v : Unsettled) → IsFirstUnsettled t u → IsFirstUnsettled t v → u ≡ v

-- the last candidate that was passed lies in the working range
abbrev pub UnsettledAreWorking : Type 0
UnsettledAreWorking =
    (t : Tree Rule) (u : Unsettled) → IsFirstUnsettled t u → IsWorkingMoment u.at.0
