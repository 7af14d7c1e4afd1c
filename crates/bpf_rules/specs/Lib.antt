pub mod Faults
pub mod Operands
pub mod Memory
pub mod Branches
pub mod Calls
pub mod Examined
pub mod Covers
