pub mod Laws
pub mod Lowered
pub mod Masks
