pub mod LineSteps
pub mod RecordSteps
pub mod Openings
pub mod SegmentSteps
