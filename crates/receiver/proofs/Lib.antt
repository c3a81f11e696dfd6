pub mod QuestionsAnswered
pub mod FrameAsked
pub mod TrendAsked
pub mod RuleKept
pub mod BurstLengthFits
mod WellWithin
