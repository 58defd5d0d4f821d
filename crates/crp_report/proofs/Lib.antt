-- Lemmas on what is written.
pub mod Refusing
pub mod Leaving
pub mod Written
pub mod Taken
pub mod Stating
pub mod Keeping
pub mod Answering
pub mod Places
pub mod Shown
pub mod Runs
pub mod Counts
pub mod Saying
pub mod Firsts
pub mod Shares
