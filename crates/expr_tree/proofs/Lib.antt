pub mod Backwards
pub mod KindLemmas
pub mod Membership
pub mod Sizes
