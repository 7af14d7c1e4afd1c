pub mod Values
pub mod Handles
pub mod Sent
pub mod Running
