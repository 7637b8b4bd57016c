pub mod Bytes
pub mod Entries
pub mod ReadBack
pub mod Values
pub mod Writable
