pub mod Touched
pub mod Outcomes
pub mod Slots
pub mod Answering
pub mod Written
