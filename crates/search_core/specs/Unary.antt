-- What a search owes for what is made of one set: where the set is looked at, its candidates, and
-- how far its frame moves.
use Rattle.std.specs.Prelude.{ℕ, ◌+◌, ℤ, pos, negsuc, ◌+ℤ◌, ◌-ℤ◌, int_lt, Bool, ◌||◌, if◌then◌else◌}
use Rattle.moment_core.specs.Line.{position_of}
use Rattle.moment_core.specs.declared.joining.UnaryOp.{UnaryOp}
use Rattle.moment_core.specs.declared.joining.UnaryOp.TheVariants.{Not, During, Starts, Ends, Shift}
use Rattle.search_core.specs.LookingBack.{during_from}

-- the first and the last position of the set that is looked at for a position of what is made of it
abbrev pub looks_from : UnaryOp → (ℤ → Bool) → ℤ → ℤ
looks_from Not set p = p
looks_from (During seconds) set p = during_from set seconds p
looks_from Starts set p = p -ℤ pos 1
looks_from Ends set p = p -ℤ pos 1
looks_from (Shift seconds) set p = p -ℤ position_of seconds

abbrev pub looks_to : UnaryOp → ℤ → ℤ
looks_to Not p = p
looks_to (During seconds) p = p
looks_to Starts p = p +ℤ pos 1
looks_to Ends p = p +ℤ pos 1
looks_to (Shift seconds) p = p -ℤ position_of seconds

-- a candidate stands at the position, where these are the set's
abbrev pub unary_candidate : UnaryOp → (ℤ → Bool) → ℤ → Bool
unary_candidate Not candidate p = candidate p
unary_candidate (During seconds) candidate p = candidate p || candidate (p -ℤ position_of seconds)
unary_candidate Starts candidate p = candidate p
unary_candidate Ends candidate p = candidate p
unary_candidate (Shift seconds) candidate p = candidate (p -ℤ position_of seconds)

-- what is counted so many positions earlier, and from one position before to one position after
abbrev pub counted_earlier : (ℤ → ℤ → ℕ) → ℤ → ℤ → ℤ → ℕ
counted_earlier count by a b = count (a -ℤ by) (b -ℤ by)

abbrev pub counted_round : (ℤ → ℤ → ℕ) → ℤ → ℤ → ℕ
counted_round count a b = if int_lt b a then 0 else count (a -ℤ pos 1) (b +ℤ pos 1)

-- the candidates from position a to position b, where these are the set's
abbrev pub unary_candidates : UnaryOp → (ℤ → ℤ → ℕ) → ℤ → ℤ → ℕ
unary_candidates Not count a b = count a b
unary_candidates (During seconds) count a b =
    count a b + counted_earlier count (position_of seconds) a b
unary_candidates Starts count a b = counted_round count a b
unary_candidates Ends count a b = counted_round count a b
unary_candidates (Shift seconds) count a b = counted_earlier count (position_of seconds) a b

-- how often they count a candidate of the set at most
abbrev pub copies : UnaryOp → ℕ
copies (During seconds) = 2
copies op = 1

-- by how many seconds `lo` and `hi` of the frame come later
abbrev pub lo_moves : UnaryOp → ℤ
lo_moves Not = pos 0
lo_moves (During seconds) = pos 0
lo_moves Starts = negsuc 0
lo_moves Ends = negsuc 0
lo_moves (Shift seconds) = seconds

abbrev pub hi_moves : UnaryOp → ℤ
hi_moves Not = pos 0
hi_moves (During seconds) = seconds
hi_moves Starts = pos 1
hi_moves Ends = pos 1
hi_moves (Shift seconds) = seconds
