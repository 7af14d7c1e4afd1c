mod Newest
pub mod Keeping
