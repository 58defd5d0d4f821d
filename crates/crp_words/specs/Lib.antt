-- The command line, what its words ask for, and how the program ends.
pub mod Commands
pub mod Words
pub mod Json
pub mod Bays
pub mod Seconds
pub mod Endings
