-- Room round the positions at which a tree looks.
use Rattle.std.proofs.Common.{◌≡◌, arith, ℕ, ◌+◌, ◌^◌, ◌≤◌, ℤ, pos, ◌+ℤ◌, ◌-ℤ◌, ◌≤ℤ◌, unsigned_abs, Bool, Some}
use Rattle.std.proofs.lemmas.Int.{ints}
use Rattle.moment_core.specs.Line.{position_of}
use Rattle.moment_core.specs.declared.line.Dir.{Dir}
use Rattle.moment_core.specs.declared.line.Dir.TheVariants.{Fore, Back}
use Rattle.node_turns.specs.Room.{HasRoom, RoomLiesBetween}
use Rattle.node_turns.specs.Turns.{IsTurn}
use Rattle.node_turns.specs.declared.turns.Turn.{Turn}

pub room_between : RoomLiesBetween
room_between n a b p low high after before =
    (low.0, omega (arith, ints, low.1, after), omega (arith, ints, high.2, before))

-- so many seconds earlier
pub room_earlier : (n : ℕ) (s p : ℤ) → HasRoom (unsigned_abs s + n) p
    → HasRoom n (p -ℤ position_of s)
room_earlier n s p room =
    (omega (arith, ints, room.0), omega (arith, ints, room.1), omega (arith, ints, room.2))

-- no sum of positions there wraps
pub room_small : (n : ℕ) (p : ℤ) → HasRoom n p → unsigned_abs p ≤ 2 ^ 60
room_small n p room = omega (arith, ints, room.1, room.2)

-- at a turn between a position and the end of a search
pub room_turn : (f : ℤ → Bool) (dir : Dir) (p end : ℤ) (turn : Turn) (n : ℕ) → HasRoom n p
    → HasRoom n end → IsTurn f dir p end (Some turn) → HasRoom n turn.place.0
room_turn f Fore p end turn n here there is =
    let at : turn.place.0 ≡ p +ℤ pos (is.0 + 1) = is.1.place in
    let within : turn.place.0 ≤ℤ end = is.1.within in
    room_between n p end turn.place.0 here there (omega (arith, ints)) within
room_turn f Back p end turn n here there is =
    let at : turn.place.0 ≡ p -ℤ pos (is.0 + 1) = is.1.place in
    let within : end ≤ℤ turn.place.0 = is.1.within in
    room_between n end p turn.place.0 there here within (omega (arith, ints))
