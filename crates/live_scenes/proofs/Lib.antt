pub mod Keeping
pub mod OneByOne
pub mod Together
pub mod Took
