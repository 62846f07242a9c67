-- Read Replies: the reply to a datagram, with what follows its header. Packets is scaffolding.
pub mod Packets
pub mod Replies
