pub use Rattle.crp_plan.specs.Rows
pub use Rattle.crp_plan.specs.Bay
pub use Rattle.crp_plan.specs.Walks
pub mod Positions
pub mod Reached
pub mod Back
pub mod Located
