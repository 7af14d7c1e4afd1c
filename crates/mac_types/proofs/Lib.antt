pub mod Octets
pub mod Reading
