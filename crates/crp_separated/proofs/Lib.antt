pub mod Records
pub mod Pieces
pub mod Marks
pub mod Worked
