pub mod Laws
pub mod Meanings
pub mod Names
pub mod Recurrences
