pub mod Lessons
pub mod Kinds
