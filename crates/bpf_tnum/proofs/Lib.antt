pub mod Contains
pub mod Low
pub mod Meet
pub mod Sound
