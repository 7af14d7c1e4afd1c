pub mod Rules
pub mod Firsts
pub mod Tables
pub mod Marks
pub mod Whole
pub mod Bytes
