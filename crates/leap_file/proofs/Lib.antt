-- The lemmas of this crate.
pub mod GrowthLaws
pub mod PartLaws
pub mod ReaderLaws
pub mod ReturnLaws
pub mod RowLaws
pub mod SentenceLaws
