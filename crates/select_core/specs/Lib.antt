-- Read Selection (the interval that enough sources agree on), then Sweeping (the candidates while sources come and go). Ends says
-- the same interval by one visit of the ends in order; KeptSweep is scaffolding.
pub mod Ends
pub mod KeptSweep
pub mod Points
pub mod Selection
pub mod Sweeping
