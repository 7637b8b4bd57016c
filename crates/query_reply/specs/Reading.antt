-- What a text means to a query, phase by phase, or why it is refused.
use Rattle.std.specs.Prelude.{◌≡◌, ℕ, Bool, true, List, Option, Some, None, Result, Ok, Err, is_none, if◌then◌else◌}
use Rattle.lowered_tree.specs.Settling.{AreSettled, IsFirstUnsettled}
use Rattle.expr_text.specs.Accepted.{IsRead}
use Rattle.expr_text.specs.Fault.{Fault}
use Rattle.expr_tree.specs.Sorts.{sort_of_tree}
use Rattle.expr_tree.specs.Tree.{Rule, Tree, Trees}
use Rattle.expr_tree.specs.declared.sorting.Sort.{Sort}
use Rattle.ical_rules.specs.declared.outcome.Unsettled.{Unsettled}
use Rattle.phases.specs.Phases.{By, Then}
use Rattle.moment_core.specs.Clocks.{clock_of_stamp, one_clock}
use Rattle.moment_core.specs.declared.line.Clock.{Clock}
use Rattle.moment_core.specs.declared.line.Clock.TheVariants.{Any}
use Rattle.moment_core.specs.declared.line.Stamp.{Stamp}
use Rattle.query_words.specs.declared.queries.Query.{Query}
use Rattle.query_words.specs.declared.queries.Query.TheVariants.{Near as NearBy, Resume, Show, Walk}
use Rattle.report_text.specs.declared.refusals.Refusal.{Refusal}
use Rattle.report_text.specs.declared.refusals.Refusal.TheVariants as refusals
use Rattle.query_reply.specs.Refusals.{text_refusal}

-- the sorts of one tree or two
pub record Sorts : Type 0 where
  pub first : Sort
  pub second : Option Sort

abbrev pub AreSecondSorts : Option (Tree Rule) → Option Sort → Type 0
AreSecondSorts None None = Unit {0}
AreSecondSorts (Some t) (Some sort) = sort_of_tree t ≡ Ok sort
AreSecondSorts t sort = ⊥

abbrev pub AreSorts : Trees → Sorts → Type 0
AreSorts trees sorts =
    (sort_of_tree trees.first ≡ Ok sorts.first) × AreSecondSorts trees.second sorts.second

-- what a text is read as: sets with their sorts
pub record Reading : Type 0 where
  pub trees : Trees
  pub sorts : Sorts

-- the sets of the text, or the refusal of its fault
pub data IsMeant (text : List ℕ) : Result Reading Refusal → Type 0 where
  sets : (reading : Reading) → IsRead text (Ok reading.trees) → AreSorts reading.trees reading.sorts
      → IsMeant text (Ok reading)
  faulty : (fault : Fault) → IsRead text (Err fault) → IsMeant text (Err (text_refusal fault))

-- whether the command takes so many expressions
abbrev pub takes : Query → Option (Tree Rule) → Bool
takes Show second = true
takes (NearBy side at budget) second = is_none second
takes (Walk from to dir limit budget) second = is_none second
takes (Resume token limit budget) second = is_none second

abbrev pub unless_two : Query → Reading → Result Reading Refusal
unless_two query reading = if takes query reading.trees.second then Ok reading else Err refusals.Two

-- the one of two clocks, any giving way
abbrev pub either_clock : Clock → Clock → Clock
either_clock Any b = b
either_clock a b = a

abbrev pub given_clock : Option Stamp → Clock
given_clock None = Any
given_clock (Some at) = clock_of_stamp at

-- the words' clock, any where they give no moment
abbrev pub words_clock : Query → Clock
words_clock Show = Any
words_clock (NearBy side at budget) = clock_of_stamp at
words_clock (Walk from to dir limit budget) = either_clock (given_clock from) (given_clock to)
words_clock (Resume token limit budget) = Any

abbrev pub second_clock : Option Sort → Clock
second_clock None = Any
second_clock (Some sort) = sort.clock

abbrev pub sets_clock : Sorts → Clock
sets_clock sorts = either_clock sorts.first.clock (second_clock sorts.second)

-- a reading, and the clock of the lines: the expressions' one, and where it is any the words'
pub record OnClock : Type 0 where
  pub reading : Reading
  pub clock : Clock

abbrev pub on_clock : Reading → Option Clock → Result OnClock Refusal
on_clock reading (Some clock) = Ok (record { reading = reading; clock = clock })
on_clock reading None = Err refusals.Clock

abbrev pub unless_clock : Query → Reading → Result OnClock Refusal
unless_clock query reading =
    on_clock reading (one_clock (sets_clock reading.sorts) (words_clock query))

-- the counts of the set that a command searches are settled, or its first one that isn't; `show`
-- searches none
abbrev pub AreSettledFor : Query → Trees → Type 0
AreSettledFor Show trees = Unit {0}
AreSettledFor (NearBy side at budget) trees = AreSettled trees.first
AreSettledFor (Walk from to dir limit budget) trees = AreSettled trees.first
AreSettledFor (Resume token limit budget) trees = AreSettled trees.first

abbrev pub IsUnsettledFor : Query → Trees → Unsettled → Type 0
IsUnsettledFor Show trees u = ⊥
IsUnsettledFor (NearBy side at budget) trees u = IsFirstUnsettled trees.first u
IsUnsettledFor (Walk from to dir limit budget) trees u = IsFirstUnsettled trees.first u
IsUnsettledFor (Resume token limit budget) trees u = IsFirstUnsettled trees.first u

pub data Settles (query : Query) (x : OnClock) : Result OnClock Refusal → Type 0 where
  settled : AreSettledFor query x.reading.trees → Settles query x (Ok x)
  unsettled : (u : Unsettled) → IsUnsettledFor query x.reading.trees u
      → Settles query x (Err (refusals.Settle u.passed u.at))

-- the number of expressions, and the clocks
abbrev pub Fits : Query → Reading → Result OnClock Refusal → Type 0
Fits query = Then (By (unless_two query)) (By (unless_clock query))

-- The phases behind the words: the text's own, the number of expressions, the clocks, and the
-- counts.
abbrev pub Passes : Query → List ℕ → Result OnClock Refusal → Type 0
Passes query = Then IsMeant (Then (Fits query) (Settles query))
