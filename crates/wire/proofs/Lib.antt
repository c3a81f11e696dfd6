-- What decoding and encoding mean together.
mod Messages
mod Blocks
mod Fields
mod Decoded
pub mod SenderRoundTrip
pub mod ReceiverRoundTrip
pub mod PathMtuRoundTrip
