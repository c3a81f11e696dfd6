-- How long an interval can get, and what an update that nothing refuses knows of its arguments.
pub mod QuestionsAnswered
pub mod IntervalAtMost
