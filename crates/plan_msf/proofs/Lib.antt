-- The lemmas of this crate.
pub mod LeastRule
pub mod ReadBack
pub mod RoundTrip
pub mod Validity
pub mod Sent
