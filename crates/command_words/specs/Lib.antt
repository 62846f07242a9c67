-- Read Commands (the commands, and the arguments that ask for them), then CommandLine (how options and command words stand in a
-- line) and Faults (what is wrong with other arguments). Matches is for reading the arguments with `clap`, and Reading for reading
-- them one by one.
pub mod CommandLine
pub mod Commands
pub mod Matches
pub mod Faults
pub mod Reading
