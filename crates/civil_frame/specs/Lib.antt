-- Read Ranges (when a number is invalid), CivilDates (the rules on a date) and Seconds (the second that a frame says).
pub mod Ranges
pub mod CivilDates
pub mod Seconds
