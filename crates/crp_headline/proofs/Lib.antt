-- Lemmas on what a run writes.
pub mod Ended
pub mod Named
pub mod Accepted
pub mod Reported
