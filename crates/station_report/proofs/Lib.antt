-- Lemmas that several proofs of this crate, or of those above it, use.
pub mod CauseLaws
pub mod CountLaws
pub mod CountingLaws
pub mod DrillLaws
pub mod EachLaws
pub mod GoodStationLaws
pub mod JournalTextLaws
pub mod OneCauseLaws
pub mod RunOfLaws
pub mod ServingLaws
