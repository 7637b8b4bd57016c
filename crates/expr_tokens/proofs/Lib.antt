pub mod Digits
pub mod Lexing
pub mod Runs
pub mod Stamps
pub mod OneToken
pub mod Writing
pub mod Readings
