pub mod Policed
pub mod Headline
pub mod Eight
