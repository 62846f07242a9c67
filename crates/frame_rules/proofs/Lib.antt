-- The lemmas of this crate.
pub mod Sums
pub mod FirstLaws
pub mod LeastLaws
pub mod Meanings
pub mod HighBits
pub mod Template
pub mod BitSymbols
pub mod WordLaws
pub mod AddingLaws
pub mod SentLaws
