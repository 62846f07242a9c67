-- Words is what a supervisor writes; Paces is when a link asks its server, and what the server's kiss codes change; Held is what a
-- link receives, sends and keeps.
pub mod Words
pub mod Paces
pub mod Held
