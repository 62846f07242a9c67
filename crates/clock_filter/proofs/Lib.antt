-- Lemmas that several proofs of this crate use.
pub mod FigureLaws
pub mod HeldLaws
pub mod KnownLaws
pub mod OldestLaws
pub mod ReadyLaws
pub mod StageLaws
