-- What the program writes, as an auditor sees it.
pub mod Accepted
