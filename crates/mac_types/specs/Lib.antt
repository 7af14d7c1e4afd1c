pub mod Bits
pub mod Numbers
pub mod Fields
pub mod Spelled
pub mod Texts
