pub mod Days
pub mod Months
pub mod Nths
