-- What a reader has to believe, in this order: Gears (what a station needs, and what its gear is seen as), Opens (which of these
-- were opened, and which one is missing).
-- Read Racks (what a rack is, and the receivers of a station's radios), then Made (how many of each plan an unfinished rack has).
pub mod Gears
pub mod Opens
pub mod Made
pub mod Racks
