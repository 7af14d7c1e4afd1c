pub mod Views
pub mod Spelling
pub mod Fits
pub mod Reading
pub mod Answers
pub mod Unread
pub mod Leaves
pub mod Slots
