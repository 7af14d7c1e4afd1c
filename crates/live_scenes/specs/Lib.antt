pub mod Rights
pub mod Together
pub mod Submitted
