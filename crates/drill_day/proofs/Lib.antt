-- The lemmas of this crate: those of a made log, those of its day, those of orders.
pub mod MarkLaws
pub mod CutLaws
pub mod MinuteLaws
pub mod DayLaws
pub mod OrderLaws
pub mod NeededLaws
pub mod LineLaws
pub mod MakingLaws
pub mod MadeMinuteLaws
pub mod MadeOrderLaws
pub mod ProgressLaws
pub mod ReadLaws
pub mod SecondsLaws
