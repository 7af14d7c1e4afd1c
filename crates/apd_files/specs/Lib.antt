pub mod Kinds
pub mod Held
pub mod Reading
pub mod Faults
pub mod Beginning
pub mod Tapes
