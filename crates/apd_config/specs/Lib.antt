pub mod Keys
pub mod Meaning
pub mod Text
