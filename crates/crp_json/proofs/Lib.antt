-- Lemmas on the JSON Lines of a report.
pub mod Ascii
pub mod Chained
pub mod Naming
pub mod Growing
pub mod Showing
pub mod CheckLines
pub mod ChainLines
pub mod BoundLines
pub mod NoEntry
pub mod OneJson
pub mod Codes
pub mod Telling
