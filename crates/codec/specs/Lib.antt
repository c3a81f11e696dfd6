-- The definitions that the contracts of `codec` cite.
pub mod LittleEndian
pub mod Reading
pub mod Writing
