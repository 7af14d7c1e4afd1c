pub mod Tables
pub mod Uses
pub mod Ranks
pub mod Listing
