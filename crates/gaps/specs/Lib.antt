-- The definitions that the contracts of `gaps` cite.
pub mod Gaps
pub mod Stats
pub mod Checked
