pub mod FrontLemmas
pub mod OutcomeLaws
pub mod OutcomeLemmas
pub mod RangeLemmas
