-- Lemmas that several proofs of this crate use.
pub mod PageLaws
pub mod SlewLaws
