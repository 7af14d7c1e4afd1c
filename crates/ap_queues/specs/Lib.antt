pub mod Items
pub mod Queues
pub mod Passes
pub mod Faults
pub mod Lines
pub mod Putting
pub mod Refusing
