pub mod Formed
pub mod Fulfilling
pub mod Recorded
