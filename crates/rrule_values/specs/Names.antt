-- The names of frequencies and weekdays.
use Rattle.std.specs.Prelude.{ℕ, ◌==◌, List, [], ◌∷◌, codes, Option, Some, None, if◌then◌else◌}
use Rattle.std.specs.List.{find}
use Rattle.std.specs.Str.{bytes_eq}
use Rattle.rule_core.specs.declared.part.Freq.{Freq}
use Rattle.rule_core.specs.declared.part.Freq.TheVariants as freqs

abbrev pub freq_name : Freq → List ℕ
freq_name freqs.Yearly = codes "YEARLY"
freq_name freqs.Monthly = codes "MONTHLY"
freq_name freqs.Weekly = codes "WEEKLY"
freq_name freqs.Daily = codes "DAILY"
freq_name freqs.Hourly = codes "HOURLY"
freq_name freqs.Minutely = codes "MINUTELY"
freq_name freqs.Secondly = codes "SECONDLY"

abbrev pub frequencies : List Freq
frequencies =
    freqs.Yearly ∷ freqs.Monthly ∷ freqs.Weekly ∷ freqs.Daily ∷ freqs.Hourly ∷ freqs.Minutely
    ∷ freqs.Secondly ∷ []

-- the frequency with this name
unfoldable pub freq_named : List ℕ → Option Freq
freq_named name = find (λ f. bytes_eq name (freq_name f)) frequencies

-- the name of the weekday with a number from 1 to 7, and the number of the weekday with a name
abbrev pub day_name : ℕ → List ℕ
day_name n =
    if n == 1 then codes "MO"
    else if n == 2 then codes "TU"
    else if n == 3 then codes "WE"
    else if n == 4 then codes "TH"
    else if n == 5 then codes "FR"
    else if n == 6 then codes "SA"
    else codes "SU"

unfoldable pub day_named : List ℕ → Option ℕ
day_named name =
    if bytes_eq name (codes "MO") then Some 1
    else if bytes_eq name (codes "TU") then Some 2
    else if bytes_eq name (codes "WE") then Some 3
    else if bytes_eq name (codes "TH") then Some 4
    else if bytes_eq name (codes "FR") then Some 5
    else if bytes_eq name (codes "SA") then Some 6
    else if bytes_eq name (codes "SU") then Some 7
    else None
