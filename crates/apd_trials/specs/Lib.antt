pub mod Policies
pub mod Trials
pub mod Met
pub mod Rows
pub mod Blamed
pub mod Running
pub mod Texts
pub mod Reports
