-- The definitions that the contracts of `algorithms` cite.
pub mod Jitter
pub mod Srtt
pub mod Ewma
pub mod Spin
pub mod Etx
pub mod Owd
pub mod OwdTrend
pub mod Passes
