-- The definitions that the contracts of `siwolkert` cite.
pub mod PayloadCheck
pub mod Figures
pub mod Lent
