pub mod Every
pub mod Hands
pub mod Orders
pub mod Owns
pub mod Pools
pub mod Splits
pub mod Ways
