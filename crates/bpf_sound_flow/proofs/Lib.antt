mod States
mod Labels
mod Alu
mod Helpers
mod Branches
mod Steps
mod Calls
pub mod Flow
