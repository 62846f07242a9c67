-- Lemmas that several proofs of this crate, or of those above it, use.
pub mod OpeningLaws
pub mod ReportLaws
pub mod StationFileLaws
pub mod WritingLaws
