pub mod Effects
pub mod Laws
pub mod Preparing
pub mod Reading
pub mod Refusals
pub mod Report
