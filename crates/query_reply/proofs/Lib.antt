pub mod PreparingLemmas
pub mod ReplyLaws
pub mod ReplyLemmas
pub mod WalkLemmas
