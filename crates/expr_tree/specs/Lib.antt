pub mod Backs
pub mod Laws
pub mod Lists
pub mod Members
pub mod Sorts
pub mod Sound
pub mod Tree
pub mod WellFormed
