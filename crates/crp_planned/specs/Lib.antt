-- The moves of plans, as they are said, and where a report ends.
pub mod Planned
pub mod Ends
