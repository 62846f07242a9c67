-- The lemmas of this crate.
pub mod LastLaws
pub mod ReceivingLaws
pub mod DueLaws
pub mod LinesLaws
pub mod ValidLaws
pub mod RiseLaws
pub mod StepLaws
