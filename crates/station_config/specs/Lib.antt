-- The definitions of the crates below, for those who name this crate alone.
pub use Rattle.station_values.specs.KeptStation
pub use Rattle.station_values.specs.Station
pub use Rattle.station_reader.specs.Faults
pub use Rattle.station_reader.specs.Finding
pub use Rattle.station_reader.specs.Forms
pub use Rattle.station_reader.specs.Rows
pub use Rattle.station_reader.specs.Values
