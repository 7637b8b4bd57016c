-- Rules and their fields: names, tokens, and which fields a rule may have together.
use Rattle.std.specs.Prelude.{◌≡◌, ℕ, ℤ, Bool, true, false, ◌==◌, List, [], ◌∷◌, ◌++◌}
use Rattle.std.specs.List.{AllByRecursion, IsDistinct}
use Rattle.rule_core.specs.declared.part.Freq.{Freq}
use Rattle.rule_core.specs.declared.part.Freq.TheVariants as freqs
use Rattle.expr_tokens.specs.declared.token.Word.{Word}
use Rattle.expr_tokens.specs.declared.token.Word.TheVariants as words
use Rattle.expr_tokens.specs.Plain.{Token}
use Rattle.expr_tokens.specs.Plain as tokens
use Rattle.expr_grammar.specs.declared.syntax.Key.{Key}
use Rattle.expr_grammar.specs.declared.syntax.Key.TheVariants.{Months, Weeks, Days, Hours, Minutes, Seconds, Interval, WeekStart}
use Rattle.expr_grammar.specs.Form.{FieldForm, Values, Start}

abbrev pub freq_word : Freq → Word
freq_word freqs.Yearly = words.Yearly
freq_word freqs.Monthly = words.Monthly
freq_word freqs.Weekly = words.Weekly
freq_word freqs.Daily = words.Daily
freq_word freqs.Hourly = words.Hourly
freq_word freqs.Minutely = words.Minutely
freq_word freqs.Secondly = words.Secondly

abbrev pub key_word : Key → Word
key_word Months = words.Months
key_word Weeks = words.Weeks
key_word Days = words.Days
key_word Hours = words.Hours
key_word Minutes = words.Minutes
key_word Seconds = words.Seconds
key_word Interval = words.Interval
key_word WeekStart = words.WeekStart

-- whether the key has just one number
abbrev pub is_single : Key → Bool
is_single Interval = true
is_single WeekStart = true
is_single key = false

-- the place in the printed order
abbrev pub key_place : Key → ℕ
key_place Months = 0
key_place Weeks = 1
key_place Days = 2
key_place Hours = 3
key_place Minutes = 4
key_place Seconds = 5
key_place Interval = 6
key_place WeekStart = 8

abbrev pub field_place : FieldForm → ℕ
field_place (Values key values) = key_place key
field_place (Start stamp) = 7

-- whether two fields have one key
abbrev pub same_key : FieldForm → FieldForm → Bool
same_key f g = field_place f == field_place g

-- "," number, so many times
abbrev pub more_numbers : List ℤ → List Token
more_numbers [] = []
more_numbers (n ∷ ns) = tokens.Comma ∷ tokens.Number n ∷ more_numbers ns

-- number { "," number }
abbrev pub number_tokens : List ℤ → List Token
number_tokens [] = []
number_tokens (n ∷ ns) = tokens.Number n ∷ more_numbers ns

-- key "=" number { "," number }, or "start" "=" moment
abbrev pub field_tokens : FieldForm → List Token
field_tokens (Values key values) = tokens.Word (key_word key) ∷ tokens.Equals ∷ number_tokens values
field_tokens (Start stamp) = tokens.Word words.Start ∷ tokens.Equals ∷ tokens.Moment stamp ∷ []

abbrev pub fields_tokens : List FieldForm → List Token
fields_tokens [] = []
fields_tokens (f ∷ fields) = field_tokens f ++ fields_tokens fields

-- freq "(" { field } ")"
abbrev pub rule_tokens : Freq → List FieldForm → List Token
rule_tokens freq fields =
    tokens.Word (freq_word freq) ∷ tokens.Open ∷ fields_tokens fields ++ tokens.Close ∷ []

-- there is a number, and more than one only where the key may have them
abbrev pub HasNumbers : FieldForm → Type 0
HasNumbers (Values key []) = ⊥
HasNumbers (Values key (n ∷ [])) = Unit {0}
HasNumbers (Values key (n ∷ m ∷ values)) = is_single key ≡ false
HasNumbers (Start stamp) = Unit {0}

-- each field has its numbers, and no two have one key
pub record AreFields (fields : List FieldForm) : Type 0 where
  pub numbers : AllByRecursion HasNumbers fields
  pub once : IsDistinct same_key fields
