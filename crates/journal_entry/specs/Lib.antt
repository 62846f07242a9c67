-- Read Entries (what an entry is), then Texts (its one text), Numbers (the text after its number) and Lines (the two forms of a
-- line). Then read Lawful (the entries that receivers and pollers make) and Writing (how a text grows in its room). Reading is
-- scaffolding.
pub mod Entries
pub mod Valid
pub mod Lines
pub mod Numbers
pub mod Reading
pub mod Texts
pub mod Writing
