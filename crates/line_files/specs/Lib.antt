-- Read Cutting (how a file is cut into lines), Items (what its lines say, up to the first that is bad), Reading (why a reading
-- ended), Texts (the lines for entries), GoodLogs (a log without a fault) and LineFiles (what it is to run through a file of
-- lines). The others are scaffolding.
pub mod Cutting
pub mod Items
pub mod Reading
pub mod Texts
pub mod GoodLogs
pub mod LineFiles
pub mod Keeping
pub mod Taking
pub mod LogTaking
pub mod LineTaking
