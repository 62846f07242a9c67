-- Read Decoding, then Migrating. The others are scaffolding.
pub mod Decoding
pub mod Migrating
pub mod Moving
