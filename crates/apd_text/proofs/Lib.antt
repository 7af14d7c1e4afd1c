pub mod Listed
pub mod Standing
pub mod Rawly
