-- Lemmas that several proofs of this crate use.
pub mod Feeds
pub mod KeptKeys
pub mod PlanLaws
