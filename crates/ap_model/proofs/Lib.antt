mod Walks
pub mod Appending
