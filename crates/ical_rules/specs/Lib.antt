pub mod Laws
pub mod Leaves
pub mod Lowered
pub mod Rules
pub mod Settling
pub mod Starts
