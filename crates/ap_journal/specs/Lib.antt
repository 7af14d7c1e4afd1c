pub mod Beginnings
pub mod Turns
pub mod Rights
