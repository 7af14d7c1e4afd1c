pub mod Rooms
pub mod Graph
pub mod Needed
pub mod Chains
pub mod Standing
pub mod Plainly
pub mod Following
