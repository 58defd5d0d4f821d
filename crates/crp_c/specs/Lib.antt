pub mod Numbers
pub mod Faults
pub mod Checks
pub mod Rows
pub mod Asked
pub mod Answers
