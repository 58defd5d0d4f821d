pub mod Clear
pub mod Standing
pub mod Playing
pub mod Jobs
pub mod Due
pub mod Falling
pub mod Rounded
pub mod Bounding
pub mod Pathway
pub mod Meaning
mod Growing
mod Taking
mod Scopes
mod Worth
mod Reading
mod Turns
mod Complete
mod Entries
mod Starts
mod Few
mod Steps
mod Filling
mod Splitting
mod Listing
mod Summing
pub mod Listed
pub mod Gathered
