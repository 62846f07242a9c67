-- Lemmas that several proofs of this crate use.
pub mod LayoutLaws
pub mod Pieces
