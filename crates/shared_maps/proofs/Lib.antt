pub mod Histories
pub mod Words
pub mod Accesses
pub mod Views
