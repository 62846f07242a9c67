-- Lemmas that several proofs of this crate, or of those above it, use.
pub mod PlayingLaws
pub mod ScriptLaws
pub mod ReplayLaws
mod LeapLaws
mod LineLaws
mod ListLaws
mod NewLaws
mod PlayerLaws
mod RadioLaws
mod ServerLaws
mod TextLaws
