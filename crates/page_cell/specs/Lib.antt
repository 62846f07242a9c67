-- Read Claims (what pages that are read, and claims of feeds, say of the list of all entries). Then read Passes (what each kind
-- of pass stands for) and Readings (what a reading answers). Last, read Rule (what holds of the words and of all passes between
-- any two steps). Views (what each step makes of a pass's knowledge), Steps (what each kind of step shows) and Tries (the tries
-- of one reading) are scaffolding.
pub mod Claims
pub mod Passes
pub mod Readings
pub mod Rule
pub mod Steps
pub mod Tries
pub mod Views
