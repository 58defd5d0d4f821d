-- Lemmas on what is printed of plans, and on reports that are followed.
mod Planned
mod Named
mod Lengths
mod Listed
mod Orders
mod Counting
mod Statable
mod Led
mod Numbered
mod Headlines
mod After
mod Runs
mod OfRule
