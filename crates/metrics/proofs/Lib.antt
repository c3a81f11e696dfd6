-- What the calls keep, and what they leave.
pub mod QuestionsAnswered
pub mod ReportsByCase
pub mod FiguresInRange
pub mod ReportsInRange
pub mod RuleKept
pub mod RoundTripsTaken
pub mod TwoApart
pub mod AnswersInRange
mod WellWithin
