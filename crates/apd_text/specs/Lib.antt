pub mod Pages
pub mod Listing
pub mod Raw
pub mod TraceLines
pub mod Trace
