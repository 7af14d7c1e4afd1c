pub mod Within
pub mod SetBytes
