pub mod Symbol
pub mod Rows
pub mod Reasons
