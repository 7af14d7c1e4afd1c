pub mod Leading
mod Listing
