-- Lemmas that several proofs of this crate use.
pub mod Bounds
pub mod Firsts
pub mod GoodTables
pub mod KeysApart
pub mod Orders
pub mod TakenLaws
pub mod Walks
