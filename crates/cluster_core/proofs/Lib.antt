-- Lemmas that several proofs of this crate use.
pub mod ClusterLaws
pub mod MeanLaws
pub mod MoveLaws
pub mod SpreadLaws
pub mod SettlingLaws
pub mod WorstLaws
