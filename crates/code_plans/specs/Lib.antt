-- The list of plans.
pub mod Codes
