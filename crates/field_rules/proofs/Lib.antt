mod Checks
mod FieldMeanings
mod Repeating
pub mod RuleLaws
mod TestLemmas
