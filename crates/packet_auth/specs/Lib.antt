-- Read Keys (what a key is), then Digests (what a packet carries after its header, and which packets are authentic).
pub mod Digests
pub mod Keys
pub use Rattle.md5.specs.Md5
