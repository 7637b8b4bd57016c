-- What the answers for two sets tell of what is made of them.
use Rattle.std.specs.Prelude.{Bool, true, not, Result, Ok, Err}
use Rattle.moment_core.specs.declared.joining.Op.{Op}
use Rattle.moment_core.specs.declared.joining.Op.TheVariants.{Union, Meet, Minus}
use Rattle.span_core.specs.declared.answers.Stop.{Stop}

-- the answer for the first set is that for both: a stop always is
abbrev pub is_decided : Op → Result Bool Stop → Bool
is_decided op (Err stop) = true
is_decided Union (Ok member) = member
is_decided Meet (Ok member) = not member
is_decided Minus (Ok member) = not member

-- the other answer; a stop is none
abbrev pub negated : Result Bool Stop → Result Bool Stop
negated (Ok member) = Ok (not member)
negated (Err stop) = Err stop

-- where the first set doesn't decide, the answer for both by that for the second
abbrev pub with_second : Op → Result Bool Stop → Result Bool Stop
with_second Union second = second
with_second Meet second = second
with_second Minus second = negated second
