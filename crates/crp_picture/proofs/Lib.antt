pub mod Rowwise
pub mod Leaving
pub mod Drawing
pub mod Boxed
pub mod Cutting
pub mod Lying
