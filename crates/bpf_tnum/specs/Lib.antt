pub mod Tnum
pub mod Laws
