-- Read Histories (what a receiver answers), and Answers and Years of `minute_pair`. Counting is a receiver around a receiver.
-- Boxes is the type of a boxed receiver. Receiving is scaffolding.
-- Read Due (the entries of a log, and the lines of their texts), then Decoding (what a decoder has taken, and what it finds).
pub mod Boxes
pub mod Histories
pub mod Receiving
pub mod Counting
pub mod Due
pub mod Decoding
pub use Rattle.minute_pair.specs.Answers
pub use Rattle.minute_pair.specs.Years
