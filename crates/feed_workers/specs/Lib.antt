-- What a reader has to believe, in this order: Keeping (what a feed's pass has of the entries that were due), Logs (what a radio's
-- worker does with a log, and why it ends), Polls (the rounds of a poller, and what is due for the events of its link), Polling (what
-- a poller's worker does, and why it ends), Leaps (what the worker of a leap second file does with it, and why it ends). Hearing, Asking
-- and Noticing are scaffolding: one piece of a log, one hearing of a round and one piece of a leap second file at a time.
-- Then Due (what a journal has of what is due for a feed) and Served (what the radios, the servers and the links of a station leave);
-- Lists is scaffolding: lists side by side.
pub mod Keeping
pub mod Logs
pub mod Receiving
pub mod Polls
pub mod Polling
pub mod Asking
pub mod Leaps
pub mod Noticing
pub mod Lists
pub mod Due
pub mod Served
