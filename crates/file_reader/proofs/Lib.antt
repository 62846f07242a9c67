-- Lemmas that several proofs of this crate use.
pub mod PullLaws
pub mod WholeLaws
