pub mod Slots
pub mod Least
pub mod Codes
pub mod Again
pub mod Found
pub mod Slotted
