-- Real is what files, streams and sockets report; Sockets is what a socket gives and takes.
pub mod Real
pub mod Sockets
