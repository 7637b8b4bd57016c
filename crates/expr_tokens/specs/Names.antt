-- The names of the grammar.
use Rattle.std.specs.Prelude.{ℕ, List, [], ◌∷◌, codes, find, Option}
use Rattle.std.specs.Str.{bytes_eq}
use Rattle.expr_tokens.specs.declared.token.Word.{Word}
use Rattle.expr_tokens.specs.declared.token.Word.TheVariants.{Empty, Span, Yearly, Monthly, Weekly, Daily, Hourly, Minutely, Secondly, Rrule, Event, During, Pairs, Starts, Ends, Shift, Zoned, ZonedFirst, Start, After, End, Before, Months, Weeks, Days, Hours, Minutes, Seconds, Interval, WeekStart}

abbrev pub name_of : Word → List ℕ
name_of Empty = codes "empty"
name_of Span = codes "span"
name_of Yearly = codes "yearly"
name_of Monthly = codes "monthly"
name_of Weekly = codes "weekly"
name_of Daily = codes "daily"
name_of Hourly = codes "hourly"
name_of Minutely = codes "minutely"
name_of Secondly = codes "secondly"
name_of Rrule = codes "rrule"
name_of Event = codes "event"
name_of During = codes "during"
name_of Pairs = codes "pairs"
name_of Starts = codes "starts"
name_of Ends = codes "ends"
name_of Shift = codes "shift"
name_of Zoned = codes "zoned"
name_of ZonedFirst = codes "zoned_first"
name_of Start = codes "start"
name_of After = codes "after"
name_of End = codes "end"
name_of Before = codes "before"
name_of Months = codes "months"
name_of Weeks = codes "weeks"
name_of Days = codes "days"
name_of Hours = codes "hours"
name_of Minutes = codes "minutes"
name_of Seconds = codes "seconds"
name_of Interval = codes "interval"
name_of WeekStart = codes "week_start"

abbrev pub words : List Word
words =
    Empty ∷ Span ∷ Yearly ∷ Monthly ∷ Weekly ∷ Daily ∷ Hourly ∷ Minutely ∷ Secondly ∷ Rrule ∷ Event
    ∷ During ∷ Pairs ∷ Starts ∷ Ends ∷ Shift ∷ Zoned ∷ ZonedFirst ∷ Start ∷ After ∷ End ∷ Before
    ∷ Months ∷ Weeks ∷ Days ∷ Hours ∷ Minutes ∷ Seconds ∷ Interval ∷ WeekStart ∷ []

-- the word with this name
unfoldable pub word_of : List ℕ → Option Word
word_of name = find (λ w. bytes_eq name (name_of w)) words
