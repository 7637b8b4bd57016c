pub mod Fields
pub mod Printing
