pub mod Pages
pub mod Tokens
pub mod Kept
pub mod Naming
pub mod Accounts
