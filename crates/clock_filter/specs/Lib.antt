-- Read Held (which samples count, and their order), then Rate and Figures (what they say together). Then read Distance (how far a
-- source may be from the truth). Bounds says what holds of all figures; Known and Ready are scaffolding.
pub mod Bounds
pub mod Distance
pub mod Figures
pub mod Held
pub mod Known
pub mod Rate
pub mod Ready
