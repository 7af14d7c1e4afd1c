pub mod Faults
pub mod Publishing
