pub mod Faults
pub mod Numbers
pub mod Names
pub mod Operands
pub mod Lines
pub mod Words
pub mod Pieces
pub mod Spellings
