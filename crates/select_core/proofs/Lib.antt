-- Lemmas that several proofs of this crate use.
pub mod AlikeLaws
pub mod ChimeLaws
pub mod EdgeLaws
pub mod NarrowLaws
pub mod OrderLaws
pub mod PointLaws
pub mod SelectionLaws
pub mod SoonerLaws
pub mod StandingLaws
pub mod SweepLaws
pub mod UnanimousLaws
