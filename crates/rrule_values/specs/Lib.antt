pub mod Laws
pub mod Lists
pub mod Names
pub mod Numbers
pub mod Ordering
pub mod Splitting
pub mod Until
pub mod Writing
