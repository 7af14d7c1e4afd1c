pub mod Tighten
pub mod Rows
pub mod Instructions
pub mod Branches
pub mod Inclusion
