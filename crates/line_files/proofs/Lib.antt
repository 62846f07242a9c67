-- Lemmas that several proofs of this crate, or of those above it, use.
pub mod CuttingLaws
pub mod ItemLaws
pub mod EndLaws
pub mod GoodLogLaws
pub mod LineFileLaws
pub mod LineTakingLaws
pub mod LogTakingLaws
pub mod PrefixLaws
pub mod ReportLaws
pub mod TakingLaws
