-- Read Segments (the minutes of a list of marks), Answers (what each comes to) and Years. Keeping and Pairing are scaffolding.
pub mod Segments
pub mod Answers
pub mod Years
pub mod Keeping
pub mod Pairing
