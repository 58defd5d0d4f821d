-- The table of a followed report in the order in which the ship is loaded.
pub mod Turns
pub mod Faults
pub mod Loading
pub mod Loaded
pub mod Summary
pub mod Views
