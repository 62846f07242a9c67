-- The lemmas of this crate.
pub mod LineLaws
pub mod FlagLaws
pub mod PrefixLaws
pub mod ValidLaws
pub mod LogLaws
pub mod ReaderLaws
pub mod PrefixesLaws
pub mod NumberLaws
pub mod WholeLaws
mod WordLaws
