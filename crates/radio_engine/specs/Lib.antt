-- What a reader has to believe: Run (what the program does). It stands on station_report (Headline, Serving, Drilling) and on
-- file_commands (how a command ends, and the commands that run through files).
pub mod Run
pub use Rattle.command_ends.specs.Effects
pub use Rattle.command_ends.specs.Endings
pub use Rattle.command_ends.specs.Writing
pub use Rattle.command_ends.specs.Unopened
pub use Rattle.station_report.specs.Headline
