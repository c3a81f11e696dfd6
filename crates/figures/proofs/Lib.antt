-- The figures stay in their ranges through rounding; and tests that say the same.
pub mod RatiosInRange
pub mod GoodputInRange
pub mod TripsInRange
pub mod MillisecondsInRange
pub mod SameTest
