-- What a reader has to believe is in feed_workers: Due and Served. The files here are scaffolding: Jobs (what each worker does), Telling (what
-- responders learn between the phases), Leaving (what workers give back), Crews (what all of them do).
pub mod Jobs
pub mod Collecting
pub mod Informing
pub mod Crews
pub use Rattle.feed_workers.specs.Due
pub use Rattle.feed_workers.specs.Served
