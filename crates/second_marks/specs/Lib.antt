-- Read Marks. Marker and Held are scaffolding.
pub mod Marks
pub mod Marker
pub mod Held
