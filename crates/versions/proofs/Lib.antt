pub mod Beginnings
pub mod Tying
pub mod SetLemmas
