-- The definitions that the contracts of `floats` cite.
pub mod Operations
