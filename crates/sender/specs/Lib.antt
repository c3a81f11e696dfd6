-- The definitions that the contracts of `sender` cite.
pub mod State
pub mod Sent
pub mod Backoff
pub mod Reports
pub mod Pacing
