pub mod CommandLine
pub mod Built
pub mod Table
pub mod Asked
pub mod Reads
pub mod Spells
