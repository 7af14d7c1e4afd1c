pub mod Verdicts
pub mod Contexts
