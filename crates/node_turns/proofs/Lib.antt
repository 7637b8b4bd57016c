pub mod Edges
pub mod Moving
pub mod Passing
pub mod Rooms
pub mod RuleTurning
pub mod Turning
