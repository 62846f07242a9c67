-- Read Journals (what the lock keeps, what an append does, what closing gives), beside Claims of page_cell.
pub mod Journals
