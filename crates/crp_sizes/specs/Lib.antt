pub mod Heights
pub mod Sizes
pub mod Fields
pub mod Rows
pub mod Records
pub mod Faults
pub mod Reading
