pub mod LibraryDates
pub mod LibraryWeeks
pub mod MonthLemmas
pub mod NthDays
pub mod WorkingDays
