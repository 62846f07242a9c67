-- Read Faults (counts of faults) first, then Told (what sources, sinks and links report) and Links (what the calls of a link do).
-- Openings is what an outside reports, and which openings a call makes; ManyOut is several objects that are out at once.
-- What writing a text to a sink means.
pub mod Faults
pub mod States
pub mod Links
pub mod Openings
pub mod ManyOut
pub mod Writing
