pub mod Standings
pub mod Classes
pub mod Sound
pub mod Listing
