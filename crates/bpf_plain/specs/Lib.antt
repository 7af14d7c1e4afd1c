pub mod Walks
pub mod Paths
pub mod Clear
pub mod Standing
pub mod Laws
