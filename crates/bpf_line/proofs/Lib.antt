mod Digits
mod Suffix
mod Many
pub mod Cuts
mod Kept
pub mod Plain
mod Named
mod Operand
pub mod Again
