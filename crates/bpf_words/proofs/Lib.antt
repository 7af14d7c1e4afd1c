pub mod Table
pub mod Bits
pub mod Carry
pub mod Multiple
pub mod Swap
pub mod Immediates
