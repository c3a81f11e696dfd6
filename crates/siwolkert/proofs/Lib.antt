-- The payload checks answer as the decoders do, and a lent record stays as it was on a refusal.
pub mod PayloadChecks
pub mod RefusedStays
pub mod JitterRefused
