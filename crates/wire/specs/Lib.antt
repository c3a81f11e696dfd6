-- The definitions that the contracts of `wire` cite.
pub mod Payload
pub mod SenderReport
pub mod ReceiverReport
pub mod PathMtu
