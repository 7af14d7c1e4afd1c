pub mod Captured
pub mod Forms
pub mod Fulfilled
