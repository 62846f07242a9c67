-- Lemmas that several proofs of this crate, and of those that stand on it, use.
pub mod BackLaws
pub mod GearLaws
pub mod HoldingLaws
pub mod PhaseLaws
pub mod FittingLaws
pub mod ListLaws
pub mod MadeLaws
pub mod RackLaws
