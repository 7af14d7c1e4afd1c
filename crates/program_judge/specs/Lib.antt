pub mod Programs
pub mod Verdicts
pub mod Judges
