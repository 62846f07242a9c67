-- Read Station (what a station is). KeptStation is scaffolding.
pub mod KeptStation
pub mod Station
