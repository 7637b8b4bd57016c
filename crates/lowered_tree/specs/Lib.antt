pub mod Laws
pub mod Modest
pub mod Nodes
pub mod Settling
pub mod Stamped
