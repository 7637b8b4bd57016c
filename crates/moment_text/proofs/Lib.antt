pub mod Digits
pub mod Fronts
pub mod Moments
pub mod Options
pub mod Shapes
pub mod Spelling
