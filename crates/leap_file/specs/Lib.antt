-- Read Lines (what a line says), then Rows (the rows of a file, its leap seconds, its first bad line). Reading is what the reader
-- stands for. Parts is scaffolding.
pub mod Lines
pub mod Parts
pub mod Reading
pub mod Rows
