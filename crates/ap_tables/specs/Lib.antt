pub mod Stocks
pub mod Accesses
