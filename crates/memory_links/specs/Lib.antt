-- Read Calls first (which calls fail), then Memory (what these objects report).
pub mod Calls
pub mod Memory
