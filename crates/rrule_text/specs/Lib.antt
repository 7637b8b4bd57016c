pub mod Fault
pub mod Laws
pub mod Names
pub mod Pieces
pub mod Reading
pub mod Writing
