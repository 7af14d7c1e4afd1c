pub mod Flow
pub mod Code
pub mod Program
pub mod Targets
pub mod Checks
pub mod Answer
