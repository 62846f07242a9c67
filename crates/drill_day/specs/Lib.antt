-- Read Minutes (what a log says at each of its seconds), Made (its reductions and its text), Day (the logs of a drill, and what is due
-- for them) and Orders (journals that differ only in order, and journals that name no leap second). Progress is scaffolding.
pub mod Minutes
pub mod Made
pub mod Day
pub mod Orders
pub mod Progress
