-- Lemmas that several proofs of this crate use.
pub mod FaultLaws
pub mod ManyOutLaws
pub mod OpeningLaws
pub mod StateLaws
pub mod WritingLaws
