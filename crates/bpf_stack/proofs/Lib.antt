mod Both
pub mod Outside
mod Sides
pub mod Unsets
mod Seen
