pub mod Outcomes
pub mod Landings
