-- The lemmas of this crate.
pub mod LeastRule
pub mod MarkerLaws
pub mod ReadBack
pub mod RoundTrip
pub mod Seconds
pub mod Validity
pub mod Sent
