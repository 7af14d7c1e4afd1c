pub mod Interval
pub mod Signed
pub mod Laws
