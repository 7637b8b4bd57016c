-- What good words say is in its range.
use Rattle.std.proofs.Common.{◌≤◌, ℕ, List, arith, Option, Some, None}
use Rattle.moment_core.specs.declared.line.Stamp.{Stamp}
use Rattle.moment_text.specs.Literal.{IsStamp}
use Rattle.query_words.specs.Words.{Asks, SayEach, SaysBudget, Tells, given, by_default}
use Rattle.query_words.specs.declared.commands.Key.{Key}
use Rattle.query_words.specs.declared.commands.Key.TheVariants.{From, To}
use Rattle.query_words.specs.declared.queries.Query.{Query}
use Rattle.query_words.specs.declared.queries.Query.TheVariants.{Near as NearBy, Resume, Show, Walk}
use Rattle.query_reply.specs.Report.{IsGivenInRange, IsInRange}

budget_in_range : (later : List (List ℕ)) (n : ℕ) → SaysBudget later n → 1 ≤ n
budget_in_range later n (given m s) = s.is.in_range.0
budget_in_range later n (by_default none) = omega arith

given_in_range : (later : List (List ℕ)) (key : Key) (at : Option Stamp)
    → Tells later key IsStamp at → IsGivenInRange at
given_in_range later key None none = tt
given_in_range later key (Some at) says = says.is.in_range

says_in_range : (later : List (List ℕ)) (query : Query) → SayEach later query → IsInRange query
says_in_range later Show says = tt
says_in_range later (NearBy side at budget) (says, budgets) =
    (says.is.in_range, budget_in_range later budget budgets)
says_in_range later (Walk from to dir limit budget) (low, high, dirs, limits, budgets) = (
  given_in_range later From from low,
  given_in_range later To to high,
  budget_in_range later
      budget budgets,
)
says_in_range later (Resume token limit budget) (says, limits, budgets) =
    (says.is.1, budget_in_range later budget budgets)

pub asks_in_range : (asked : List (List ℕ)) (query : Query) → Asks asked query → IsInRange query
asks_in_range asked query asks = says_in_range asks.later query asks.says
