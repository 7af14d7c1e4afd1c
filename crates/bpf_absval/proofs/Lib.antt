pub mod Keeps
pub mod Forgets
pub mod Raises
mod Ordered
mod Forked
mod Newest
pub mod Marking
