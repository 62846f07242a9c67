-- Lemmas that several proofs of this crate use.
pub mod LeapLaws
pub mod FeedLaws
pub mod StandingLaws
pub mod FitLaws
pub mod SourceLaws
pub mod SilenceLaws
pub mod SoundLaws
pub mod PageLaws
pub mod SweepLaws
pub mod UpwardLaws
pub mod LengthLaws
pub mod PlainLaws
pub mod EndLaws
