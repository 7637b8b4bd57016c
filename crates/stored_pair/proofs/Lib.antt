pub mod ListParts
pub mod RecurrenceLemmas
