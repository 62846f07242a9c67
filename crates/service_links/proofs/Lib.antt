-- Lemmas that several proofs of this crate use.
pub mod HeldLaws
pub mod WordLaws
