mod Callers
pub mod Calls
pub mod Followed
pub mod Kept
pub mod Known
mod Pointers
mod Marked
mod Slots
mod Stacks
mod Values
mod Differ
pub mod Chained
pub mod Whole
pub mod Returned
