-- Read Replay (what each line of a script gives, by all the lines before it), Texts (what the lines write), Script (what a script
-- gives) and Replaying (what it is to play one). The others are scaffolding.
pub mod Replay
pub mod Texts
pub mod Script
pub mod Replaying
pub mod Keeping
pub mod KeptPlayer
pub mod Playing
