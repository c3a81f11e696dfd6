-- The definitions that the contracts of `samples` cite.
pub mod Words
pub mod Transit
pub mod Delay
pub mod Echo
