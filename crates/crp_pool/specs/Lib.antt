pub mod Deques
pub mod Hand
pub mod Seats
pub mod Weigh
