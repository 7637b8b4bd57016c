pub mod Amply
pub mod Endless
pub mod Existing
pub mod Ranging
pub mod Stretching
