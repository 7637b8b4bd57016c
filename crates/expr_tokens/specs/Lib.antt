pub mod Class
pub mod Names
pub mod Plain
pub mod Reading
pub mod Stamps
pub mod Longest
pub mod Laws
