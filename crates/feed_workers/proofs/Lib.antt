-- Lemmas that several proofs of this crate use.
pub mod KeepLaws
pub mod LeapLaws
pub mod LogLaws
pub mod PollLaws
pub mod RequestLaws
pub mod RoundLaws
pub mod ListLaws
pub mod JournalLaws
