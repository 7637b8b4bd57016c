use Rattle.node_turns.proofs.Rooms.{room_between}
use Rattle.node_turns.proofs.laws.room_laws.Goals as goal

pub returns : goal.returns
returns c = record { between = room_between }
