mod Asking
mod Changing
pub mod Counting
mod Following
mod Kept
pub mod Listed
mod Lines
pub mod Metering
mod Led
mod Passing
pub mod Profiled
mod Rows
mod Tabling
mod Taking
mod Telling
mod Totals
