-- The lemmas of this crate.
pub mod HalfLaws
pub mod OrderLaws
pub mod PlanLaws
pub mod RootLaws
