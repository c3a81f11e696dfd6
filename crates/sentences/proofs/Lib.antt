-- The sentences hold of the definitions that the contracts cite.
pub mod StateRuleHolds
pub mod CapacityHolds
pub mod ChecksHold
pub mod ReportBytesHold
pub mod BurstsHold
pub mod ArrivalsHold
pub mod DelaysHold
pub mod ReportsDueHold
pub mod TrendsHold
