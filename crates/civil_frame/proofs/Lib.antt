-- The lemmas of this crate.
pub mod NamedMinute
pub mod Says
