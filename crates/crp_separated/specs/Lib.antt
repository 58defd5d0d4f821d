-- Lists with another byte between their fields.
pub mod Separators
pub mod Given
pub mod Inputs
