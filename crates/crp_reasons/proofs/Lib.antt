pub mod Digits
pub mod Bracketed
pub mod Begun
pub mod Onward
pub mod Worked
