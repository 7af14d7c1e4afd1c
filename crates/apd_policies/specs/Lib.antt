pub mod Blocks
pub mod Overlays
pub mod Graph
pub mod Chosen
pub mod Script
