-- Sentences of the rules (docs/RULES.md), said apart from the definitions that the code is held against: no file here imports one of those.
pub mod Checks
pub mod Capacity
pub mod StateRule
pub mod ReportBytes
pub mod Bursts
pub mod Arrivals
pub mod ReportsDue
