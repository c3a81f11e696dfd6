-- Delays and differences in 32 bits, and the rule of the OWD reference kept.
pub mod Differences
pub mod Reduction
pub mod WrappedTimestamp
pub mod DelayInRange
pub mod SampleKeepsRule
pub mod SampleAsked
