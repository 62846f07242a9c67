-- The lemmas of this crate.
pub mod AloneLaws
pub mod TableLaws
