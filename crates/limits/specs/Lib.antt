-- The constants that definitions cite.
pub mod Limits
