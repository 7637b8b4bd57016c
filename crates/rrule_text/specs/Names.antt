-- The names of parts.
use Rattle.std.specs.Prelude.{ℕ, List, [], ◌∷◌, codes}
use Rattle.rule_core.specs.declared.part.Part.{Part}
use Rattle.rule_core.specs.declared.part.Part.TheVariants as parts

-- the name of a part, with a `=`
abbrev pub key_of : Part → List ℕ
key_of parts.Freq = codes "FREQ="
key_of parts.Until = codes "UNTIL="
key_of parts.Count = codes "COUNT="
key_of parts.Interval = codes "INTERVAL="
key_of parts.ByMonth = codes "BYMONTH="
key_of parts.ByWeekNo = codes "BYWEEKNO="
key_of parts.ByYearDay = codes "BYYEARDAY="
key_of parts.ByMonthDay = codes "BYMONTHDAY="
key_of parts.ByDay = codes "BYDAY="
key_of parts.ByHour = codes "BYHOUR="
key_of parts.ByMinute = codes "BYMINUTE="
key_of parts.BySecond = codes "BYSECOND="
key_of parts.BySetPos = codes "BYSETPOS="
key_of parts.Wkst = codes "WKST="
key_of part = []

-- the parts of a text, in the order of the written form
abbrev pub parts_of_text : List Part
parts_of_text =
    parts.Freq ∷ parts.Until ∷ parts.Count ∷ parts.Interval ∷ parts.ByMonth ∷ parts.ByWeekNo
    ∷ parts.ByYearDay ∷ parts.ByMonthDay ∷ parts.ByDay ∷ parts.ByHour ∷ parts.ByMinute
    ∷ parts.BySecond ∷ parts.BySetPos ∷ parts.Wkst ∷ []
