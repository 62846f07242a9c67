-- What to read: Layout (the 48 bytes of a header, and the fields that bytes spell), then Protocol (the protocol's numbers).
pub mod Layout
pub mod Protocol
