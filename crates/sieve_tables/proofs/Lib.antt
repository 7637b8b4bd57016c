pub mod Filled
pub mod MaskLemmas
pub mod Members
pub mod NthTables
pub mod SetBits
pub mod TableLemmas
pub mod WeekdayLemmas
