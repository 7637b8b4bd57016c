-- Rules that have a fault, as lines tell them.
use Rattle.std.specs.Prelude.{ℕ, List, ◌++◌, codes}
use Rattle.rule_core.specs.declared.part.Part.{Part}
use Rattle.rule_core.specs.declared.part.Part.TheVariants as parts
use Rattle.rule_core.specs.declared.part.RuleFault.{RuleFault}
use Rattle.rule_core.specs.declared.part.RuleFault.TheVariants.{BadMix, BadValue, BadInterval}

-- keys and frequencies in lower case, parts of RFC 5545 that are no keys in upper case
abbrev pub part_name : Part → List ℕ
part_name parts.Yearly = codes "yearly"
part_name parts.Monthly = codes "monthly"
part_name parts.Weekly = codes "weekly"
part_name parts.Daily = codes "daily"
part_name parts.Hourly = codes "hourly"
part_name parts.Minutely = codes "minutely"
part_name parts.Secondly = codes "secondly"
part_name parts.Months = codes "months"
part_name parts.Weeks = codes "weeks"
part_name parts.Days = codes "days"
part_name parts.Hours = codes "hours"
part_name parts.Minutes = codes "minutes"
part_name parts.Seconds = codes "seconds"
part_name parts.Interval = codes "interval"
part_name parts.Start = codes "start"
part_name parts.WeekStart = codes "week_start"
part_name parts.Freq = codes "FREQ"
part_name parts.Dtstart = codes "DTSTART"
part_name parts.Until = codes "UNTIL"
part_name parts.Count = codes "COUNT"
part_name parts.ByMonth = codes "BYMONTH"
part_name parts.ByWeekNo = codes "BYWEEKNO"
part_name parts.ByYearDay = codes "BYYEARDAY"
part_name parts.ByMonthDay = codes "BYMONTHDAY"
part_name parts.ByDay = codes "BYDAY"
part_name parts.ByHour = codes "BYHOUR"
part_name parts.ByMinute = codes "BYMINUTE"
part_name parts.BySecond = codes "BYSECOND"
part_name parts.BySetPos = codes "BYSETPOS"
part_name parts.Wkst = codes "WKST"

-- a part of RFC 5545 in upper case, INTERVAL too, which is also a key
abbrev pub rrule_part_name : Part → List ℕ
rrule_part_name parts.Interval = codes "INTERVAL"
rrule_part_name part = part_name part

-- the two that don't go together, or the one whose value is out of its range
abbrev pub rule_fault_text : RuleFault → List ℕ
rule_fault_text (BadMix first second) =
    codes "mix " ++ part_name first ++ codes " " ++ part_name second
rule_fault_text (BadValue part) = codes "value " ++ part_name part
rule_fault_text BadInterval = codes "interval"
