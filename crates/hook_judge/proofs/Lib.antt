pub mod Judging
pub mod Newest
