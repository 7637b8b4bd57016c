pub mod Lowered
pub mod Searchable
pub mod Searches
