pub mod Laws
pub mod Neighbours
pub mod Answering
pub mod Endless
