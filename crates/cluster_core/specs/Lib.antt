-- Read Clusters (which survivors are left), then Mean (their mean offset). Bounds says what holds of sources that a majority agrees
-- with; Sums is scaffolding.
pub mod Bounds
pub mod Clusters
pub mod Mean
pub mod Sums
