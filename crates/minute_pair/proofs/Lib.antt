-- The lemmas of this crate.
pub mod Pieces
pub mod KeptLaws
pub mod Growth
pub mod PairingLaws
