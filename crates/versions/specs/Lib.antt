pub mod Sets
pub mod Lists
pub mod Ties
pub mod Desks
pub mod Wishes
pub mod Owned
pub mod Numbers
pub mod Faults
