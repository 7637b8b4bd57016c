pub mod Readying
pub mod Sweeping
