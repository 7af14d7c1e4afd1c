pub mod Took
pub mod Accesses
