-- What a reader has to believe, in this order: Endings (statuses and status lines), Writing (what is written, and what a failed
-- write leaves), Effects (what a command does), Unopened (a command that opens nothing), Opening, Text (the line of a page),
-- StationFile, Reports and Minutes. Keeping is scaffolding.
pub mod Endings
pub mod Writing
pub mod Effects
pub mod Unopened
pub mod Opening
pub mod Text
pub mod StationFile
pub mod Reports
pub mod Minutes
pub mod Keeping
