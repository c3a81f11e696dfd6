-- The questions and the rule of a sender's record, and its interval by the Rust's route.
pub mod QuestionsAnswered
pub mod RuleKept
pub mod FloatRoute
