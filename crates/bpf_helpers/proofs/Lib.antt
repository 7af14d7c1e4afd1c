pub mod Shaped
pub mod Asked
pub mod Fitting
pub mod Keeping
