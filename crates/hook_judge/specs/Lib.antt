pub mod Counts
pub mod Made
pub mod Sums
pub mod Counted
pub mod Verdicts
pub mod Judges
