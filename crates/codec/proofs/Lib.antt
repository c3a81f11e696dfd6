-- The laws of fields that other crates cite.
pub mod Widths
pub mod Weights
pub mod Parts
pub mod Stores
pub mod Lengths
pub mod FieldsRead
