pub mod Maps
pub mod Hooks
