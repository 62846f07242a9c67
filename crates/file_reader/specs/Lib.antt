-- Read Ends (what was read of a file, and how its reading ended), then Reader (what a reader has read since a file's start), then Pieces
-- (what came of the pieces that were handed to a taker).
pub mod Ends
pub mod Pieces
pub mod Reader
