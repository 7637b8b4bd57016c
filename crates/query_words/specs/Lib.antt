pub mod Commands
pub mod Neighbours
pub mod Laws
pub mod Reading
pub mod Words
