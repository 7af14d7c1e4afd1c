pub mod History
pub mod Seats
pub mod Kept
pub mod Tables
pub mod Faults
