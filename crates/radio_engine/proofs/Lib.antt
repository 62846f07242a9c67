-- Lemmas that several proofs of this crate, or of those above it, use.
pub mod RunLaws
pub mod ServeLaws
