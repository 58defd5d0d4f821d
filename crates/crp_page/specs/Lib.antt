-- The page of a report that is followed.
pub mod Numbered
pub mod Few
pub mod Counts
pub mod Words
pub mod Grounds
pub mod Summary
pub mod Sections
pub mod Turns
pub mod Sheets
pub mod Page
pub mod Writing
