-- Headlines of what is handed in, and why it is refused.
pub mod Headline
pub mod LooksTrue
pub mod BorneOut
pub mod Replayed
pub mod Printed
pub mod Certified
pub mod Readable
pub mod Faults
pub mod Stops
pub mod Fitting
pub mod Part
