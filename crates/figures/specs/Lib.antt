-- The definitions that the contracts of `figures` cite.
pub mod Stale
pub mod RoundTrips
pub mod Delivery
pub mod Goodput
