-- Lemmas that several proofs of this crate use.
pub mod RealLaws
pub mod SocketLaws
