-- Read Numbers: what the reading of a number gives. Reading is scaffolding. The text of a number is std's `decimal`.
pub mod Numbers
pub mod Reading
