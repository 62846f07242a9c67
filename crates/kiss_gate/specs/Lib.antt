-- Read Nets, Gates and Clients (the code of a request, and the table after it). Then read Histories (what a gate has judged, and
-- what a sender would get alone).
pub mod Nets
pub mod Gates
pub mod Clients
pub mod Histories
