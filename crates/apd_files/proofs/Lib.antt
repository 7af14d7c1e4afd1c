pub mod Kept
pub mod Collected
pub mod Blocks
pub mod Spoiled
