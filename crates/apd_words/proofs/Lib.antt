pub mod Added
pub mod Level
pub mod Parsed
pub mod States
pub mod Usual
