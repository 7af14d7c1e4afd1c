pub mod Drawn
pub mod Either
pub mod Naming
pub mod Nexts
