-- The definitions that the contracts of `refusals` cite.
pub mod Questions
pub mod Ranges
pub mod Answers
pub mod Texts
