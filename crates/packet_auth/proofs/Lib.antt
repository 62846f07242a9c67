-- Lemmas that several proofs of this crate use.
pub mod DifferenceLaws
pub mod KeyLaws
pub mod SealLaws
