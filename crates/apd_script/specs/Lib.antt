pub mod Digits
pub mod Asked
pub mod Words
pub mod Lines
pub mod Script
pub mod Faults
pub mod Questions
pub mod Batches
