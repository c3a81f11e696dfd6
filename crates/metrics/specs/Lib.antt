pub mod Fields
pub mod State
pub mod Updates
pub mod Reports
pub mod Accessors
