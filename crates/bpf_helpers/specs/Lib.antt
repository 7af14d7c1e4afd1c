pub mod Plain
pub mod Draws
pub mod Tables
pub mod Sums
pub mod Hooked
pub mod HookPorts
