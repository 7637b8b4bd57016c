pub mod Lawfulness
pub mod Listing
pub mod Nearness
pub mod Settling
