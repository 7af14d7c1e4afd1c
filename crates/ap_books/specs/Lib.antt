pub mod Counts
pub mod Naming
pub mod Reading
pub mod Holdings
