-- What a reader has to believe, in this order: Headline (what a station that was served has done, in six records), Serving (what is opened
-- to serve a station, what keeps it from being served, and when nothing has a fault), Drilling (what a drill does). The other files are
-- scaffolding of private functions.
pub mod Headline
pub mod Serving
pub mod Drilling
pub mod Crewing
pub mod DrillScaffold
