-- What each estimator keeps, and what its figures come to.
pub mod JitterKeepsRule
pub mod SrttKeepsRule
pub mod SrttStepsEstimate
pub mod EwmaKeepsRule
pub mod EwmaStaysBetween
pub mod SpinKeepsRule
pub mod EtxOfRatios
pub mod QualityInRange
pub mod OwdRuleKept
pub mod OwdStretches
pub mod OwdGates
pub mod OwdTrendGates
pub mod WindowAfterPush
pub mod SumStart
