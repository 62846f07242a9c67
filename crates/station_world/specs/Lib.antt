-- Read Machine (the states of a station, what each step makes of them, and which steps are refused), then Runs (lists of steps).
-- KeptWorld is scaffolding.
pub mod KeptWorld
pub mod Machine
pub mod Runs
