pub mod Endless
pub mod Finding
pub mod Laws
pub mod Places
pub mod Runs
