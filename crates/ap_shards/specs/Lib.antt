pub mod Tokens
pub mod Pages
pub mod Judged
pub mod Desks
pub mod Fates
pub mod Opening
pub mod Renewal
pub mod Listing
