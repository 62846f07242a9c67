-- Lemmas that several proofs of this crate, or of those above it, use.
pub mod DecodingLaws
pub mod GoodLogLaws
pub mod MovingLaws
