pub mod Adding
pub mod Counted
pub mod Judging
pub mod Rows
pub mod Results
