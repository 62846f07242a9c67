-- Which calls fail is in memory_links: Calls. Read MemorySource first, then MemoryOutside (which log a name opens) and MemoryLink (what a
-- link in memory receives and reports). Ledger, Book and Seen are scaffolding: how openings and events are kept.
pub mod MemorySource
pub mod Book
pub mod Seen
pub mod MemoryLink
pub mod MemoryOutside
pub mod Ledger
