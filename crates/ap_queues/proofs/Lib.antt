pub mod Makers
pub mod Moves
pub mod Steps
