pub mod Checked
pub mod IcalRepeating
pub mod Repeating
pub mod Untils
pub mod WeekStarts
