-- What holds of each plan is proved in its own crate.
pub mod Sent
