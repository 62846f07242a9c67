-- Lemmas that several proofs of this crate use.
pub mod DatagramLaws
pub mod FieldLaws
pub mod LineLaws
