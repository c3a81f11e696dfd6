-- The definitions that the contracts of `pace` cite.
pub mod Intervals
pub mod Updates
