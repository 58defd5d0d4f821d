-- Lemmas on the page.
mod Chains
mod Numbering
mod Sums
mod Fewness
mod Writes
mod Walking
