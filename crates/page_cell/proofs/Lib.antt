-- Each step of the rule has its proof once: Loads, Stores, Splits and Joins, over Turns. Banks and Places have the laws of words and
-- lists, PassKinds those of the kinds of passes, Tries those of the tries of one
-- reading, PageWords which page a reading has.
pub mod Banks
pub mod Joins
pub mod Loads
pub mod PassKinds
pub mod PageWords
pub mod Places
pub mod Splits
pub mod Stores
pub mod Tries
pub mod Turns
