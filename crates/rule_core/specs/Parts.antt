-- Names of frequencies.
use Rattle.rule_core.specs.declared.part.Freq.{Freq}
use Rattle.rule_core.specs.declared.part.Freq.TheVariants as freqs
use Rattle.rule_core.specs.declared.part.Part.{Part}
use Rattle.rule_core.specs.declared.part.Part.TheVariants.{Yearly, Monthly, Weekly, Daily, Hourly, Minutely, Secondly}

abbrev pub part_of : Freq → Part
part_of freqs.Yearly = Yearly
part_of freqs.Monthly = Monthly
part_of freqs.Weekly = Weekly
part_of freqs.Daily = Daily
part_of freqs.Hourly = Hourly
part_of freqs.Minutely = Minutely
part_of freqs.Secondly = Secondly
