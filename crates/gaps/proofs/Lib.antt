-- The rule is kept, the expected counter follows the highest, and the mean burst is the Rust's.
pub mod RuleKept
pub mod DueFollows
pub mod MeanBurst
pub mod CheckedKeepRule
