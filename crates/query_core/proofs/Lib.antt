pub mod Answered
pub mod Endless
pub mod Nearing
pub mod Places
pub mod Unique
