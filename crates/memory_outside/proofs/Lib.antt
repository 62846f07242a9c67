-- Lemmas that several proofs of this crate use.
pub mod BookRows
pub mod PieceLaws
pub mod PlaceLaws
pub mod Rows
