-- Read Log of `tick_units` (what lines say), Reading (what each call of the reader adds) and Writing. Lines is scaffolding.
pub mod Lines
pub mod Reading
pub mod Writing
pub use Rattle.tick_units.specs.Log
pub mod Words
