pub mod Obtained
