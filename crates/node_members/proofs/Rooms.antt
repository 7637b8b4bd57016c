-- Room round the positions at which a tree looks.
use Rattle.std.proofs.Common.{arith, ℕ, ◌+◌, ◌≤◌, ℤ, pos, ◌-ℤ◌, ◌≤ℤ◌, max, unsigned_abs}
use Rattle.std.proofs.Math.Nat.{le-max_left, le-max_right}
use Rattle.std.proofs.lemmas.Int.{ints}
use Rattle.moment_core.specs.Line.{position_of}
use Rattle.moment_core.specs.declared.line.TheConstants.{LOW, REACH}
use Rattle.node_turns.specs.Room.{HasRoom, IsWorkingPosition}

pub room_less : (m n : ℕ) (p : ℤ) → m ≤ n → HasRoom n p → HasRoom m p
room_less m n p h room =
    (omega (arith, ints, h, room.0), omega (arith, ints, h, room.1), omega (arith, ints, h, room.2))

pub room_left : (m n : ℕ) (p : ℤ) → HasRoom (max m n) p → HasRoom m p
room_left m n p room = room_less m (max m n) p (le-max_left m n) room

pub room_right : (m n : ℕ) (p : ℤ) → HasRoom (max m n) p → HasRoom n p
room_right m n p room = room_less n (max m n) p (le-max_right m n) room

pub room_works : (n : ℕ) (p : ℤ) → HasRoom n p → IsWorkingPosition p
room_works n p room = (omega (arith, ints, room.1), omega (arith, ints, room.2))

-- from the first position of the calendar range
pub room_low : (n : ℕ) → pos n ≤ℤ REACH → HasRoom n (position_of LOW)
room_low n near = (near, omega (arith, ints, near), omega (arith, ints, near))

-- in looking back over so many seconds
pub room_back : (n : ℕ) (s p q : ℤ) → HasRoom (unsigned_abs s + n) p → (p -ℤ position_of s) ≤ℤ q
    → q ≤ℤ p → HasRoom n q
room_back n s p q room low high = (
  omega (arith, ints, room.0),
  omega (arith, ints, room.1, low),
  omega (arith, ints, room.2, high),
)

-- from the position from which one looks back down to the first one of the calendar range
pub room_between : (n : ℕ) (p q : ℤ) → HasRoom n p → position_of LOW ≤ℤ q → q ≤ℤ p → HasRoom n q
room_between n p q room low high = (
  room.0,
  omega (arith, ints, room.0, low),
  omega (arith, ints, room.2, high),
)
