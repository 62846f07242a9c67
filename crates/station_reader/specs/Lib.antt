-- Read Forms first (what may stand at a key). Then read Rows (the keys of a station file, and what a table of each kind says), Values
-- (the station that a document says) and Faults (the faults of a document, in their order). Finding is scaffolding.
pub mod Faults
pub mod Finding
pub mod Forms
pub mod Rows
pub mod Values
