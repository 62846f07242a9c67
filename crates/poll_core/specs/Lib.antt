-- Read Formulas (the request, and what an exchange says of the time), then Refusals (why an answer is refused, as a table).
-- Histories is what datagrams come to over a whole history. Polling says what a poller stands for.
pub mod Formulas
pub mod Histories
pub mod Polling
pub mod Refusals
