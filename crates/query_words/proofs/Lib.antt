pub mod Asking
pub mod OneReading
pub mod Positions
pub mod SettingLemmas
pub mod Stamps
pub mod SomeReading
pub mod WordLemmas
