pub mod Number
pub mod Transfer
pub mod Branch
pub mod Laws
