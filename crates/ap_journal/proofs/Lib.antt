pub mod Prefixes
mod Turning
