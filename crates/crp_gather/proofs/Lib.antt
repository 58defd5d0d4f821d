pub mod InOrder
pub mod Moved
pub mod Accepted
pub mod Wholes
pub mod Worked
pub mod TreesSettled
pub mod PartsSettled
pub mod StillFirst
