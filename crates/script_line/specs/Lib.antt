-- Read Texts (the lines of a script, and the one text of each), then Datagrams (the bytes of a datagram and their text). Reading is
-- scaffolding.
pub mod Datagrams
pub mod Reading
pub mod Texts
