-- What the number of the first no says, and how an answer is picked by it.
pub mod PickedByTest
pub mod FirstNoFound
pub mod Clauses
pub mod ResultsSayAll
pub mod MissingClock
mod RoomLeft
